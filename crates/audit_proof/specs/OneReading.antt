-- A text is read as a proof in one way.
use Rattle.std.specs.Prelude.{◌≡◌, ◌≢◌, ℕ, ◌≤◌, List, Result, Err}
use Rattle.precedence.specs.Graph.{Graph}
use Rattle.audit_proof.specs.declared.fault.ProofFault.{ProofFault}
use Rattle.audit_proof.specs.declared.fault.ProofFault.TheVariants.{Memory}
use Rattle.audit_proof.specs.Lines.{Line}
use Rattle.audit_proof.specs.Reads.{IsReadAnswer}

-- of a text there is one answer, unless memory runs out
abbrev pub TextsAreReadInOneWay : Type 0
TextsAreReadInOneWay =
    (graph : Graph) → graph.count ≤ 16384 → (bytes : List ℕ) (answer again : Result (List Line) ProofFault) →
    IsReadAnswer graph bytes answer → answer ≢ Err Memory → IsReadAnswer graph bytes again → again ≢ Err Memory →
    answer ≡ again
