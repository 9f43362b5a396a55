-- Rules over what sealed entries say.
use Rattle.std.specs.Prelude.{◌≡◌, ℕ, Bool, List, map}
use Rattle.std.specs.List.{AllPairs}
use Rattle.entry_order.specs.declared.three.Three.TheVariants.{False, True}
use Rattle.entry_order.specs.Completion.{Completion}
use Rattle.entry_order.specs.Settled.{IsGraphOf}
use Rattle.entry_format.specs.declared.entry.Entry.{Entry}
use Rattle.entry_format.specs.declared.plain.Plain.{Plain}
use Rattle.entry_format.specs.SealedEntry.{SealedEntry}
use Rattle.entry_format.specs.Nodes.{node_of, node_of_sealed}
use Rattle.entry_format.specs.Plains.{plains}
use Rattle.entry_graph.specs.EntryGraph.{IsLower}
use Rattle.rule_language.specs.declared.row.Row.{Row}
use Rattle.rule_language.specs.Trees.{Trees}
use Rattle.rule_meaning.specs.Meaning.{Holds}
use Rattle.rule_meaning.specs.Values.{three_in}

-- A rule known to be true holds in every completion of what the survivors say, and one known to be
-- false in none. The survivors go by stamp and then digest.
abbrev pub PlainRules : Type 0
PlainRules =
    (row : Entry → Row) (machines : ℕ) (S : List SealedEntry) (parents : ℕ → List ℕ) (ragged : ℕ → Bool) →
    AllPairs (IsLower node_of_sealed) S → IsGraphOf node_of_sealed S parents ragged →
    (G : List Plain) → Completion node_of machines (plains S) G → (rule : Trees) →
    (three_in (map (λ (sealed : SealedEntry). row sealed.entry) S) parents ragged rule ≡ True →
    Holds node_of (λ (plain : Plain). row plain.entry) (plains S) G rule)
    × (three_in (map (λ (sealed : SealedEntry). row sealed.entry) S) parents ragged rule ≡ False →
    ¬ Holds node_of (λ (plain : Plain). row plain.entry) (plains S) G rule)
