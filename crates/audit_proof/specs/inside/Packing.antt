-- The table of a line of a proof.
use Rattle.std.specs.Prelude.{ℕ, ◌+◌, ◌-◌, ◌==◌, if◌then◌else◌, List, [], ◌∷◌, ◌++◌}
use Rattle.audit_proof.specs.declared.step.ProofStep.{ProofStep}

-- the step at a place, if one is there: its via is one less
abbrev pub step_in : ℕ → ℕ → List ProofStep
step_in place code =
    if code == 0 then [] else record { ancestor = place; via = code - 1 } ∷ []

-- the steps of a table that begins at this place, the greatest ancestor first
abbrev pub steps_from : ℕ → List ℕ → List ProofStep
steps_from place [] = []
steps_from place (code ∷ codes) = steps_from (place + 1) codes ++ step_in place code

-- the steps of an entire table, the greatest ancestor first
abbrev pub unpacked : List ℕ → List ProofStep
unpacked codes = steps_from 0 codes
