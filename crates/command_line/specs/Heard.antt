-- Refusals as values: what an answer tells of one, and what a listener hears.
use Rattle.std.specs.Prelude.{◌≡◌, ◌⊎◌, List, ℕ, Option, Some, None, IsSomeAnd, ⊤}
use Rattle.hall_outside.specs.Writing.{appended}
use Rattle.evidence.specs.declared.fault.InputFault.{InputFault}
use Rattle.evidence.specs.Refusal.{Refusal, refusal_of}
use Rattle.command_line.specs.declared.status.Status.{Status}
use Rattle.command_line.specs.declared.status.Status.TheVariants.{WriteFault}
use Rattle.command_line.specs.Lines.{Answer, refusal_answer}

-- the answer is the line of this fault, if there is one
abbrev pub Tells : Option InputFault → Answer → Type 0
Tells None answer = ⊤
Tells (Some fault) answer =
    IsSomeAnd (refusal_of fault) (λ refusal. answer ≡ refusal_answer refusal)

-- the refusal's line is what was appended to the output, and the status is its own, unless a write
-- failed
abbrev pub IsSaid : Option (List ℕ) → Status → Option (List ℕ) → Refusal → Type 0
IsSaid old how new refusal =
    (how ≡ WriteFault)
    ⊎ ((how ≡ (refusal_answer refusal).status)
    × (new ≡ appended old (refusal_answer refusal).output))

-- a listener heard nothing, and is as before, or it heard of a fault whose refusal is such a one
abbrev pub HasHeard : {N : Type 0} → (N → InputFault → N → Type 0) → (Refusal → Type 0) → N → N
    → Type 0
HasHeard hears IsSuch old new =
    (new ≡ old) ⊎ ((fault : InputFault) × IsSomeAnd (refusal_of fault) IsSuch × hears old fault new)
