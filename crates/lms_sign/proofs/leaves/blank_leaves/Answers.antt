use Rattle.lms_sign.proofs.Imports.{◌≤◌, arith, subst, sym, vec_len, All-push, checkpoint_count, Leaf, AreBlank}
use Rattle.lms_sign.proofs.leaves.blank_leaves.Goals as goal

pub leaves-preserved : goal.leaves-preserved
leaves-preserved c =
    record {
      count = let n = c.in_ok-push.ensures.len in let m = c.leaves.invariant.count in omega arith;
      room =
          let n = c.in_ok-checkpoints.ensures.len in
          let m = c.checkpoint_count.ensures in
          subst (AreBlank c.args.kind) (sym c.in_ok-push.ensures.items)
          (All-push (λ (l : Leaf). vec_len l.checkpoints ≤ checkpoint_count c.args.kind) c.leaves.leaves.items _
          c.leaves.invariant.room (omega arith));
    }
