-- What the rules of a machine's role say against a deed, after a history.
use Rattle.std.specs.Prelude.{ℕ, Bool, true, false, List, map, Result, Ok, Err}
use Rattle.entry_format.specs.declared.deed.Deed.{Deed}
use Rattle.entry_format.specs.declared.deed.Deed.TheVariants.{Opened, Authorise, Override, Closed, Activate, Commit}
use Rattle.entry_format.specs.declared.deed.Deed.TheVariants.{Cast, Cancel, Challenge}
use Rattle.entry_format.specs.declared.entry.Entry.{Entry}
use Rattle.entry_format.specs.Nodes.{node_of_sealed}
use Rattle.entry_format.specs.SealedEntry.{SealedEntry}
use Rattle.entry_order.specs.declared.event.Event.{Event}
use Rattle.entry_order.specs.History.{held}
use Rattle.entangled_log.specs.Whole.{NamesOnlyHeld}
use Rattle.roster.specs.declared.post.Role.{Role}
use Rattle.roster.specs.declared.post.Role.TheVariants.{Supervisor, Booth}
use Rattle.supervisor_core.specs.Table as supervisor
use Rattle.booth_core.specs.Table as booth
use Rattle.polling_world.specs.declared.left.LeftWhy.{LeftWhy}
use Rattle.polling_world.specs.declared.left.LeftWhy.TheVariants.{SupervisorNot, BoothNot}
use Rattle.polling_world.specs.Configs.{Config}

-- what a machine with this history holds, without signatures
abbrev pub entries_in : List (Event SealedEntry) → List Entry
entries_in h = map (λ sealed. sealed.entry) (held h)

-- every digest that a held entry names is that of a held entry
abbrev pub IsWholeHistory : List (Event SealedEntry) → Type 0
IsWholeHistory h = NamesOnlyHeld node_of_sealed (held h)

-- a Cast and a Challenge alone are asked whether the log is whole
abbrev pub needs_whole : Deed → Bool
needs_whole Opened = false
needs_whole (Authorise booth session) = false
needs_whole (Override session how) = false
needs_whole Closed = false
needs_whole (Activate session) = false
needs_whole (Commit session ballot) = false
needs_whole (Cast session ballot) = true
needs_whole (Cancel session) = false
needs_whole (Challenge session ballot) = true

-- what the rules of a supervisor answer to a deed; they give no other cause
abbrev pub SupervisorRefuses : ℕ → List Entry → Deed → Result (Unit {0}) LeftWhy → Type 0
SupervisorRefuses owner entries deed (Ok done) = supervisor.Refuses owner entries deed (Ok done)
SupervisorRefuses owner entries deed (Err (SupervisorNot why)) = supervisor.Refuses owner entries deed (Err why)
SupervisorRefuses owner entries deed (Err _) = ⊥

-- what the rules of a booth answer to a deed; they give no other cause
abbrev pub BoothRefuses : ℕ → List Entry → Type 0 → Deed → Result (Unit {0}) LeftWhy → Type 0
BoothRefuses owner entries IsWhole deed (Ok done) = booth.Refuses owner entries IsWhole deed (Ok done)
BoothRefuses owner entries IsWhole deed (Err (BoothNot why)) = booth.Refuses owner entries IsWhole deed (Err why)
BoothRefuses owner entries IsWhole deed (Err _) = ⊥

-- what the rules of the role answer to the deed: the first cause against it, or none
abbrev pub RoleRefuses : Role → ℕ → List (Event SealedEntry) → Deed → Result (Unit {0}) LeftWhy → Type 0
RoleRefuses Supervisor owner h deed answer = SupervisorRefuses owner (entries_in h) deed answer
RoleRefuses Booth owner h deed answer = BoothRefuses owner (entries_in h) (IsWholeHistory h) deed answer

-- what the rules of a machine's role answer to its deed (VoteBox, USENIX Security 2008)
abbrev pub Refuses : Config → List (Event SealedEntry) → Deed → Result (Unit {0}) LeftWhy → Type 0
Refuses config h deed answer = RoleRefuses config.role config.number h deed answer

-- the rules give no cause against the deed
abbrev pub MayDo : Config → List (Event SealedEntry) → Deed → Type 0
MayDo config h deed = Refuses config h deed (Ok tt)
