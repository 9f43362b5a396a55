use Rattle.audit_proof.proofs.Imports.{ap, closed_at, rules, sym, true, ◌∙◌, ◌≡◌}
use Rattle.audit_proof.proofs.LinesRead.{closed_by}
use Rattle.audit_proof.proofs.lines.lacks_no_parent.Goals as goal

pub returns : goal.returns
returns g c =
    let graph = g.A.Arrows.graph c.args.graph.now in
    let found : c.are_listed.result ≡ true = search rules in
    let own = sym found ∙ c.are_listed.ensures ∙ ap (closed_at c.args.listed.now) c.parents.ensures.are in
    sym (closed_by graph c.args.entry c.args.steps.now c.args.listed.now c.requires.table
    ∙ rw (sym own) (sym c.are_closed.ensures))
