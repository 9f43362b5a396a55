-- What the file of a proof gives.
use Rattle.std.specs.Prelude.{◌≡◌, ◌⊎◌, ℕ, ◌<◌, ◌≤◌, List, length, Option, Some, None, Result}
use Rattle.std.specs.Prelude.{Ok, Err}
use Rattle.precedence.specs.Graph.{Graph}
use Rattle.input_causes.specs.declared.proof.ProofWhy.{ProofWhy}
use Rattle.audit_proof.specs.declared.fault.ProofFault.TheVariants.{At}
use Rattle.input_causes.specs.Causes.{proof_why_word}
use Rattle.audit_proof.specs.Lines.{Line}
use Rattle.audit_proof.specs.Reads.{IsTextFor, IsReadAnswer}
use Rattle.evidence.specs.Refusal.{Refusal, absent, refused, too_long}

-- the most bytes of a proof's file
abbrev pub max_proof : ℕ
max_proof = 67108864

-- the bytes are no proof for the graph: the line, counted from 1, and the cause of the first fault
abbrev pub IsProofRefusal : List ℕ → Graph → List ℕ → Refusal → Type 0
IsProofRefusal name graph bytes refusal =
    (number : ℕ) × (why : ProofWhy) × IsReadAnswer graph bytes (Err (At number why))
    × (refusal ≡ refused name number (proof_why_word why))

-- what the file gives, or that there is none: the lines of a proof for the graph, or the refusal
abbrev pub GivesProof : List ℕ → Graph → Option (List ℕ) → Result (List Line) Refusal → Type 0
GivesProof name graph None answer = answer ≡ Err (absent name)
GivesProof name graph (Some bytes) (Ok lines) =
    (length bytes ≤ max_proof) × IsTextFor graph bytes lines
GivesProof name graph (Some bytes) (Err refusal) =
    ((max_proof < length bytes) × (refusal ≡ too_long name))
    ⊎ ((length bytes ≤ max_proof) × IsProofRefusal name graph bytes refusal)
