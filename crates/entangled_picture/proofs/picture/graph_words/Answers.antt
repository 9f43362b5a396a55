use Rattle.entangled_picture.proofs.picture.graph_words.Goals as goal

pub returns : goal.returns
returns c =
    rw (c.count-all.ensures, c.gaps-gaps.ensures.value, c.forks-forks.ensures.value, c.strays-strays.ensures.value)
    at c.drawn_words.ensures
