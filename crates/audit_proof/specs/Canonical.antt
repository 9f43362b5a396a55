-- The canonical proof of a graph.
use Rattle.std.specs.Prelude.{◌≡◌, ℕ, ◌≤◌, List, length, All, Some, slice_get}
use Rattle.std.specs.List.{Contains}
use Rattle.entry_order.specs.Ancestors.{Descends}
use Rattle.precedence.specs.Graph.{Graph}
use Rattle.audit_proof.specs.declared.step.ProofStep.{ProofStep}
use Rattle.audit_proof.specs.Lines.{Line, IsOnLine, IsProofOf}
use Rattle.audit_proof.specs.ProofText.{proof_text}

-- each ancestor on the line has for its via the greatest entry there that names it
abbrev pub IsGreatest : Graph → Line → Type 0
IsGreatest graph line =
    (k : ℕ) (step : ProofStep) → slice_get line.steps k ≡ Some step → (v : ℕ) → IsOnLine line v →
    Contains (graph.parents v) step.ancestor → v ≤ step.via

-- a line for each survivor, in order, with the greatest vias
pub record IsCanonicalProof (graph : Graph) (lines : List Line) : Type 0 where
  pub proof : IsProofOf graph lines
  pub count : length lines ≡ graph.count
  pub entries : (k : ℕ) (line : Line) → slice_get lines k ≡ Some line → line.entry ≡ k
  pub greatest : All (IsGreatest graph) lines

-- the bytes are its text
abbrev pub IsCanonicalText : Graph → List ℕ → Type 0
IsCanonicalText graph bytes =
    (lines : List Line) × IsCanonicalProof graph lines × (bytes ≡ proof_text graph.count lines)

-- every graph has a canonical text, and no other
abbrev pub OneTextIsCanonical : Type 0
OneTextIsCanonical =
    (graph : Graph) → Descends graph.parents →
    ((bytes : List ℕ) × IsCanonicalText graph bytes)
    × ((a b : List ℕ) → IsCanonicalText graph a → IsCanonicalText graph b → a ≡ b)
