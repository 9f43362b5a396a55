use Rattle.rule_engine.proofs.Imports.{ap, Bool, Box, drop, drop_more, false, Formula, get_or, Global, Implies}
use Rattle.rule_engine.proofs.Imports.{in_front, is_of, kind_of_all, length, List, no_trees, or-false, reaches_row}
use Rattle.rule_engine.proofs.Imports.{refl, Row, shape, sym, tree_of, Trees, trees_of, true, view-Implies, ℕ, ◌+◌, ◌<◌}
use Rattle.rule_engine.proofs.Imports.{◌||◌, ◌∙◌, ◌≡◌}
use Rattle.rule_engine.proofs.reach.+reaching.Goals as goal

-- the last of three tests can be taken out
or_last : (a b c : Bool) → (a || (b || c)) ≡ ((a || (b || false)) || c)
or_last true b c = refl
or_last false true c = refl
or_last false false c = refl

module _ (row : Row) where
  -- some quantifier of the formulas goes over the row
  abbrev reach : Trees → Bool
  reach trees = reaches_row row trees

  -- one of a row of formulas where one of the first does or one of the others
  reach-in_front : (f : Formula) (rest : Trees) → reach (in_front f rest) ≡ (reach (tree_of f) || reach rest)
  reach-in_front f rest =
      let (outer, parts, view) = shape f in
      ap reach (view rest) ∙ or_last (is_of row (kind_of_all outer)) (reach parts) (reach rest)
      ∙ ap (λ (b : Bool). b || reach rest) (sym (ap reach (view no_trees)))

  -- one of an `implies` where one of its formulas does
  reach-Implies : (f g : Box Formula Global) →
      reach (tree_of (Implies f g)) ≡ (reach (tree_of f.value) || reach (tree_of g.value))
  reach-Implies f g =
      ap reach (view-Implies f g) ∙ or-false (reach (in_front f.value (tree_of g.value)))
      ∙ reach-in_front f.value (tree_of g.value)

  -- one formula more
  reach_more : (fs : List Formula) (i : ℕ) (f : Formula) → i < length fs → f ≡ get_or fs i f →
      reach (trees_of (drop i fs)) ≡ (reach (tree_of f) || reach (trees_of (drop (i + 1) fs)))
  reach_more fs i f within is =
      rw (drop_more fs i f within, ← is) (reach-in_front f (trees_of (drop (i + 1) fs)))

pub reaches-returns-then-first : goal.reaches-returns-then-first
reaches-returns-then-first t c =
    let a = c.in-Implies in
    let first = rw c.deref-in-Implies.ensures at c.reaches-first.ensures in
    rw (a.is, reach-Implies c.args.row.now a.first a.second, ← first, c.if-first.true)

pub reaches-returns-else-first : goal.reaches-returns-else-first
reaches-returns-else-first t c =
    let a = c.in-Implies in
    let first = rw c.deref-in-Implies.ensures at c.reaches-first.ensures in
    let second = rw c.deref-in-Implies-2.ensures at c.reaches-second.ensures in
    rw (a.is, reach-Implies c.args.row.now a.first a.second, ← first, ← second, c.if-first.false)

pub some_reach-returns-then-reaches : goal.some_reach-returns-then-reaches
some_reach-returns-then-reaches t c =
    let here = reach_more c.args.row.now c.args.parts.now c.loop-part.part-index c.part-item.result
    c.loop-part-test.true c.part-item.is in
    rw (c.loop-part.invariant, here, ← c.reaches.ensures, c.if-reaches.true)

pub some_reach-loop-part-preserved : goal.some_reach-loop-part-preserved
some_reach-loop-part-preserved t c =
    let here = reach_more c.args.row.now c.args.parts.now c.loop-part.part-index c.part-item.result
    c.loop-part-test.true c.part-item.is in
    rw (c.loop-part.invariant, here, ← c.reaches.ensures, c.if-reaches.false)
