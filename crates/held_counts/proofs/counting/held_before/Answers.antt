use Rattle.held_counts.proofs.counting.held_before.Goals as goal
use Rattle.held_counts.proofs.Reached.{is_held_before_right}
use Rattle.std.proofs.{Common.map, Common.sym, Common.◌∙◌, lemmas.Result.IfOk-weaker}

pub returns : goal.returns
returns g c =
    IfOk-weaker c.counted_before.result _ _
    (λ said is f e first second.
    let r =
    is_held_before_right g.M.Entry.Knot.node (map g.M.Recorder.machine c.args.machines.now) c.requires.orderly
    c.args.first.0 c.args.first.1 c.args.second.0 c.args.second.1 f e first second in
    (λ t. r.0 (sym is ∙ t), λ h. is ∙ r.1 h))
    c.counted_before.ensures
