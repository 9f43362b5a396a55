-- What is answered of a proof's text.
use Rattle.std.specs.Prelude.{◌≡◌, ◌↔◌, ℕ, ◌≤◌, List, Result, Ok, Err}
use Rattle.precedence.specs.Graph.{Graph}
use Rattle.audit_proof.specs.declared.fault.ProofFault.{ProofFault}
use Rattle.audit_proof.specs.declared.fault.ProofFault.TheVariants.{At, Memory}
use Rattle.audit_proof.specs.Lines.{Line, IsProofOf}
use Rattle.audit_proof.specs.ProofText.{proof_text}
use Rattle.audit_proof.specs.Reading.{proof_of}

-- the bytes are the text of a proof for the graph
abbrev pub IsTextFor : Graph → List ℕ → List Line → Type 0
IsTextFor graph bytes lines = (bytes ≡ proof_text graph.count lines) × IsProofOf graph lines

-- the proof of which these are the text; or there is none, and this is the first fault
abbrev pub IsReadAnswer : Graph → List ℕ → Result (List Line) ProofFault → Type 0
IsReadAnswer graph bytes (Ok lines) = IsTextFor graph bytes lines
IsReadAnswer graph bytes (Err (At line why)) = proof_of graph bytes ≡ Err (At line why)
IsReadAnswer graph bytes (Err Memory) = Unit {0}

-- a text is read as a proof exactly if it is the text of that proof, and so has no fault
abbrev pub TextsOfProofsAreRead : Type 0
TextsOfProofsAreRead =
    (graph : Graph) → graph.count ≤ 16384 → (bytes : List ℕ) (lines : List Line) →
    (proof_of graph bytes ≡ Ok lines) ↔ IsTextFor graph bytes lines
