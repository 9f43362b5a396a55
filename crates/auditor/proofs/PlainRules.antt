-- Rules over what sealed entries say.
use Rattle.auditor.proofs.Imports.{[], Entry, List, map, node_of, Plain, plain_of, PlainRules, plains, refl, Row}
use Rattle.auditor.proofs.Imports.{rules_are_settled, same_graph, SealedEntry, ◌∷◌, ◌≡◌}
use Rattle.auditor.proofs.Lower.{no_double}

same_rows : (row : Entry → Row) (S : List SealedEntry) →
    map (λ (plain : Plain). row plain.entry) (plains S) ≡ map (λ (sealed : SealedEntry). row sealed.entry) S
same_rows row [] = refl
same_rows row (e ∷ S) = rw (same_rows row S)

pub plain_rules : PlainRules
plain_rules row machines S parents ragged lower graph G all rule =
    let by = rules_are_settled node_of (λ (plain : Plain). row plain.entry) machines (plains S) G parents ragged
    (no_double S lower) (same_graph node_of plain_of S parents ragged graph) all rule in
    (λ true. by.0 (rw (same_rows row S) true), λ false. by.1 (rw (same_rows row S) false))
