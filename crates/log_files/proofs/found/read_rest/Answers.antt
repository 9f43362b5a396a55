use Rattle.log_files.proofs.found.read_rest.Goals as goal
use Rattle.log_files.proofs.found.read_rest.Goals.{then-is_unread_at, else-is_unread_at}

pub loop-at-preserved : goal.loop-at-preserved
loop-at-preserved c = elim c.if-is_unread_at.branch [
  | then-is_unread_at w ↦ rw w.found-is (λ said are.
      let now = c.loop-at.invariant said are in
      w.put_again.ensures said now (w.reading_at-reading.ensures said now))
  | else-is_unread_at w ↦ rw w.found-is c.loop-at.invariant
]
