use Rattle.rule_engine.proofs.Imports.{IsEachEmpty, map}
use Rattle.rule_engine.proofs.index.no_places.Given as goal

-- the lists so far are empty
abbrev pub invariant-loop-kind : goal.invariant-loop-kind
invariant-loop-kind l = IsEachEmpty l._kind (map (λ it. it.items) l.places.items)
