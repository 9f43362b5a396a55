use Rattle.std.proofs.Common.{◌∙◌, sym}
use Rattle.small_worlds.proofs.PathLemmas.{is_before_at}
use Rattle.small_worlds.proofs.paths.precedes.Goals as goal

pub returns : goal.returns
returns g c f e first second =
    let same =
    is_before_at g.T.Knot.node c.args.given.now c.args.first c.args.second c.index-given-first.result
    c.index-given-second.result f e c.requires.first_in c.requires.second_in c.index-given-first.is
    c.index-given-second.is first second in
    (λ t. same.0 (sym c.is_before.ensures ∙ t), λ p. c.is_before.ensures ∙ same.1 p)
