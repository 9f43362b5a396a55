-- Kinds of deeds (VoteBox, USENIX Security 2008).
use Rattle.std.specs.Prelude.{◌≡◌, ◌⊎◌, ℕ, List}
use Rattle.entry_format.specs.declared.deed.Deed.{Deed}
use Rattle.entry_format.specs.declared.deed.Deed.TheVariants.{Authorise, Override, Commit, Cast, Cancel, Challenge}
use Rattle.entry_format.specs.declared.deed.How.{How}

-- an Authorise of the session, for whichever booth (VoteBox, USENIX Security 2008)
abbrev pub Authorises : ℕ → Deed → Type 0
Authorises session deed = (booth : ℕ) × (deed ≡ Authorise booth session)

-- an Override of the session, whichever word it says
abbrev pub Overrides : ℕ → Deed → Type 0
Overrides session deed = (how : How) × (deed ≡ Override session how)

-- a Commit of the session, to whichever ballot
abbrev pub Commits : ℕ → Deed → Type 0
Commits session deed = (ballot : List ℕ) × (deed ≡ Commit session ballot)

-- a Cast or a Challenge of the session, of whichever ballot, or a Cancel of it (VoteBox, USENIX
-- Security 2008)
abbrev pub Ends : ℕ → Deed → Type 0
Ends session deed =
    ((ballot : List ℕ) × (deed ≡ Cast session ballot))
    ⊎ (deed ≡ Cancel session)
    ⊎ ((ballot : List ℕ) × (deed ≡ Challenge session ballot))
