use Rattle.entangled_picture.specs.Legend.{left_meanings}
use Rattle.entangled_picture.proofs.legend.left_meanings.Goals as goal

pub returns : goal.returns
unfolding left_meanings
returns c =
    rw (
      c.in_ok-add_meaning-5.ensures,
      c.in_ok-add_meaning-4.ensures,
      c.in_ok-add_meaning-3.ensures,
      c.in_ok-add_meaning-2.ensures,
      c.in_ok-add_meaning.ensures,
      c.new-half.ensures,
    )
