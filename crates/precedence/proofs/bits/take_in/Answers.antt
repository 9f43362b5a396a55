use Rattle.std.proofs.Common.{ap, ◌∙◌, arith, length, length-take}
use Rattle.std.specs.Prelude.{◌||◌, ◌==◌}
use Rattle.precedence.specs.Bits.{has_bit}
use Rattle.precedence.proofs.BitFacts.{has_united, or_swap}
use Rattle.precedence.proofs.bits.take_in.Goals as goal

pub returns : goal.returns
returns c y =
    let words = c.args.words.now in
    let row = c.args.row.now in
    let united =
    has_united words row c.unite.new.into c.requires.room
    (omega (arith, c.unite.auto.into, length-take (length row) words)) c.unite.ensures in
    c.set_bit.ensures y
    ∙ ap (λ b. (c.args.parent == y) || b) (united y)
    ∙ or_swap (c.args.parent == y) (has_bit words y) (has_bit row y)
