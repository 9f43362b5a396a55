-- Version 1 of entries, which has no challenge.
use Rattle.std.specs.Prelude.{◌≡◌, ◌⊎◌, ℕ, List}
use Rattle.entry_format.specs.declared.deed.Deed.{Deed}
use Rattle.entry_format.specs.declared.deed.Deed.TheVariants.{Cast, Cancel}

-- what ends a session: a Cast of it, of whichever ballot, or a Cancel (VoteBox, USENIX Security
-- 2008)
abbrev pub EndsInVersion1 : ℕ → Deed → Type 0
EndsInVersion1 session deed = ((ballot : List ℕ) × (deed ≡ Cast session ballot)) ⊎ (deed ≡ Cancel session)
