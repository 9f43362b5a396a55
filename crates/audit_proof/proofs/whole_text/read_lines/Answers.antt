use Rattle.audit_proof.proofs.LinesRead.{lines_more}
use Rattle.audit_proof.proofs.whole_text.read_lines.Goals as goal

pub lines-preserved : goal.lines-preserved
lines-preserved g c =
    rw (c.entry_of-least.ensures, c.in_ok-push-in-Ok.ensures.items)
    (lines_more c.lines.invariant c.line_at-next.ensures.is c.lines-test.true c.piece.ensures c.in-Ok.line
    c.in-Ok.ensures c.line_at-next.ensures.within.2)
