use Rattle.rule_engine.proofs.index.Kinds.make.Given as goal
use Rattle.rule_engine.proofs.{Imports.map, Indexed.AreListedByKind}

-- the rows so far are listed
abbrev pub invariant-loop-place : goal.invariant-loop-place
invariant-loop-place l = AreListedByKind l.rows l.place (map (λ it. it.items) l.places.items)
