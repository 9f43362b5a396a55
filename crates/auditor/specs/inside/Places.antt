-- The survivors that verdicts name.
use Rattle.std.specs.Prelude.{ℕ, ◌<◌, List, All}
use Rattle.rule_engine.specs.declared.verdict.Verdict.{Verdict}
use Rattle.rule_engine.specs.declared.verdict.Verdict.TheVariants.{Kept, Broken, Unsettled}

-- each place is below the count
abbrev pub AreBelow : ℕ → List ℕ → Type 0
AreBelow count places = All (λ place. place < count) places

-- the places that a verdict names are below the count
abbrev pub IsBelow : ℕ → Verdict → Type 0
IsBelow count Kept = Unit {0}
IsBelow count (Broken places) = AreBelow count places.items
IsBelow count Unsettled = Unit {0}
