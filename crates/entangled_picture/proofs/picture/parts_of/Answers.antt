use Rattle.entangled_picture.specs.Document.{all_of}
use Rattle.entangled_picture.proofs.picture.parts_of.Goals as goal

pub returns-clause-inner : goal.returns-clause-inner
unfolding all_of
returns-clause-inner c =
    rw (
      c.in_ok-add_shapes.ensures,
      c.in_ok-inner.ensures,
      c.as_slice-3.ensures.value,
      c.as_slice-5.ensures.value,
      c.as_slice-4.ensures.value,
      c.in_ok-tops.ensures.tops,
      c.as_slice.ensures.value,
      c.lanes_in-lanes.ensures,
      c.in_ok-shapes.ensures.shapes,
      c.in_ok-shapes.ensures.arrows,
    )
