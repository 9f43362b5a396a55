use Rattle.audit_proof.proofs.{Imports.arith, LineFacts.begun_none, ReadTexts.steps_said}
use Rattle.audit_proof.proofs.lines.read_entry_line.Goals as goal

pub finish-requires-clause-begun : goal.finish-requires-clause-begun
finish-requires-clause-begun g c =
    let low = begun_none _ c.args.entry.number (omega (arith, c.if-number-count.false, c.count.ensures)) in
    (steps_said (g.A.Arrows.graph c.args.graph.now) _ _ _ c.in-Ok.ensures.0 low).3
