-- What a proof is worth, whoever made it.
use Rattle.std.specs.Prelude.{◌≡◌, ◌≢◌, ◌↔◌, ℕ, ◌≤◌, Bool, List, map, length, Result, Ok, Err}
use Rattle.std.specs.List.{Contains}
use Rattle.entry_order.specs.declared.three.Three.TheVariants.{False, True}
use Rattle.entry_order.specs.Node.{Node}
use Rattle.entry_order.specs.Completion.{Completion}
use Rattle.entry_order.specs.Ancestors.{IsAncestor, Descends}
use Rattle.entry_order.specs.Settled.{IsGraphOf}
use Rattle.precedence.specs.Graph.{Graph}
use Rattle.rule_language.specs.declared.row.Row.{Row}
use Rattle.rule_language.specs.Trees.{Trees}
use Rattle.rule_meaning.specs.Meaning.{Holds}
use Rattle.rule_meaning.specs.Values.{three_in}
use Rattle.rule_meaning.specs.Knowledge.{IsLessKnown}
use Rattle.rule_meaning.specs.Sound.{HasNoDouble}
use Rattle.audit_proof.specs.Lines.{Line, listed_in, IsLineOf, IsProofOf, HasEachLine}
use Rattle.audit_proof.specs.declared.fault.ProofFault.{ProofFault}
use Rattle.audit_proof.specs.declared.fault.ProofFault.TheVariants.{Memory}
use Rattle.audit_proof.specs.KnownBy.{three_by}
use Rattle.audit_proof.specs.Reads.{IsReadAnswer}
use Rattle.audit_proof.specs.Canonical.{IsCanonicalText}

-- a line lists exactly the ancestors of its entry
abbrev pub LinesListAncestors : Type 0
LinesListAncestors =
    (graph : Graph) (line : Line) → IsLineOf graph line →
    (y : ℕ) → Contains (listed_in line.steps) y ↔ IsAncestor graph.parents y line.entry

-- by a proof a rule has the value that it has by the survivors' graph, or none
abbrev pub ProofsSayNoMore : Type 0
ProofsSayNoMore =
    (rows : List Row) (graph : Graph) (lines : List Line) → length rows ≡ graph.count →
    Descends graph.parents → IsProofOf graph lines → (rule : Trees) →
    IsLessKnown (three_by rows graph.ragged lines rule)
    (three_in rows graph.parents graph.ragged rule)

-- by a proof with a line for every survivor a rule has the value that it has by the survivors'
-- graph
abbrev pub FullProofsSayAll : Type 0
FullProofsSayAll =
    (rows : List Row) (graph : Graph) (lines : List Line) → length rows ≡ graph.count →
    Descends graph.parents → IsProofOf graph lines → HasEachLine graph lines → (rule : Trees) →
    three_by rows graph.ragged lines rule ≡ three_in rows graph.parents graph.ragged rule

-- the canonical text is read, whatever meets the reader's clause and doesn't run out of memory, and
-- by what is read a rule has the value that it has by the survivors' graph
abbrev pub WrittenProofsSayAll : Type 0
WrittenProofsSayAll =
    (rows : List Row) (graph : Graph) (bytes : List ℕ) (answer : Result (List Line) ProofFault) →
    length rows ≡ graph.count → graph.count ≤ 16384 → Descends graph.parents →
    IsCanonicalText graph bytes → IsReadAnswer graph bytes answer → answer ≢ Err Memory →
    (lines : List Line) × (answer ≡ Ok lines) × IsProofOf graph lines
    × ((rule : Trees) →
    three_by rows graph.ragged lines rule ≡ three_in rows graph.parents graph.ragged rule)

-- a rule that is true by a proof holds in every completion, and one that is false holds in none
abbrev pub ProofsAreRight : {T : Type 0} → (T → Node) → (T → Row) → Type 0
ProofsAreRight {T} node row =
    (machines : ℕ) (S G : List T) (parents : ℕ → List ℕ) (ragged : ℕ → Bool) (lines : List Line) →
    HasNoDouble S → IsGraphOf node S parents ragged → Completion node machines S G →
    IsProofOf (record { count = length S; parents = parents; ragged = ragged }) lines →
    (rule : Trees) →
    (three_by (map row S) ragged lines rule ≡ True → Holds node row S G rule)
    × (three_by (map row S) ragged lines rule ≡ False → ¬ (Holds node row S G rule))
