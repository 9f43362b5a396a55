use Rattle.rule_engine.proofs.Imports.{IsPartitionedBy-ltb, IsPartitionPoint-from_clause, ltb, ltb-false, ltb-true}
use Rattle.rule_engine.proofs.Imports.{rules, ℕ}
use Rattle.rule_engine.proofs.index.Index.start.Goals as goal

pub returns : goal.returns
returns c =
    let parted = IsPartitionedBy-ltb (λ (it : ℕ). it) c.deref.result.now c.args.number
    (rw c.deref.ensures.value c.requires.rises) in
    let point = IsPartitionPoint-from_clause (λ (it : ℕ). ltb it c.args.number) _ _
    c.partition_point.ensures.partitioned parted (λ a r q k. search rules) in
    rw (← c.deref.ensures.value) (record {
      within = c.partition_point.ensures.bound;
      below = λ k d low high. ltb-true _ _ (point.0 k d low high);
      from = λ k d low high. ltb-false _ _ (point.1 k d low high);
    })
