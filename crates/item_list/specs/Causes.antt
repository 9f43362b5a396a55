-- The first cause that applies.
use Rattle.std.specs.Prelude.{◌≡◌, ◌⊎◌, Bool, List, [], ◌∷◌, Result, Ok, Err, IsTrue}

-- Causes in the order in which they are tried, each with the fact that it applies: the first that
-- applies is reported, and where none does the answer is `Ok`.
abbrev pub IsFirstOf : {Cause : Type 0} → List (Type 0 × Cause) → Result (Unit {0}) Cause → Type 0
IsFirstOf [] answer = answer ≡ Ok tt
IsFirstOf (cause ∷ row) answer = (cause.0 × (answer ≡ Err cause.1)) ⊎ ((cause.0 → ⊥) × IsFirstOf row answer)

-- a cause applies where its test is true
abbrev pub tests_of : {Cause : Type 0} → List (Bool × Cause) → List (Type 0 × Cause)
tests_of [] = []
tests_of (cause ∷ row) = (IsTrue cause.0, cause.1) ∷ tests_of row
