-- Whose deeds are whose (VoteBox, USENIX Security 2008).
use Rattle.std.specs.Prelude.{◌≡◌}
use Rattle.entry_format.specs.declared.deed.Deed.{Deed}
use Rattle.entry_format.specs.declared.deed.Deed.TheVariants.{Opened, Authorise, Override, Closed}
use Rattle.roster.specs.declared.post.Role.{Role}
use Rattle.roster.specs.declared.post.Role.TheVariants.{Supervisor, Booth}

-- the deed is one of the role: the supervisor opens, authorises, overrides and closes, and a booth
-- does all else (VoteBox, USENIX Security 2008)
abbrev pub IsDeedOf : Role → Deed → Type 0
IsDeedOf role Opened = role ≡ Supervisor
IsDeedOf role (Authorise booth session) = role ≡ Supervisor
IsDeedOf role (Override session how) = role ≡ Supervisor
IsDeedOf role Closed = role ≡ Supervisor
IsDeedOf role deed = role ≡ Booth
