use Rattle.rule_meaning.proofs.Imports
use Imports.{ap, arith, env_of, length, no_trees, opposite, rules, sym, the_lemmas, tree_of, tree_then, ◌≡◌, ◌∙◌}
use Rattle.rule_language.specs.declared.form.Form.TheVariants as form
use Rattle.rule_language.specs.declared.formula.Formula.{Before, Is, Less, Next, OfKind}
use Rattle.rule_meaning.proofs.Judges.{value-And, value-Equal, value-EveryBefore, value-ForEvery, value-ForSome}
use Rattle.rule_meaning.proofs.Judges.{value-Implies, value-Or, value-SomeBefore}
use Rattle.rule_meaning.proofs.Visits.{step_with, stop_with, visit_one, visit_stops, visit_ends, visited_within}
use Rattle.rule_meaning.proofs.judging.+judging.Goals as goal

pub value-returns-in-And : goal.value-returns-in-And
value-returns-in-And g t c = rw (c.in-And.is, value-And, ← c.as_slice.ensures.value) c.over.ensures

pub value-returns-in-Or : goal.value-returns-in-Or
value-returns-in-Or g t c =
    rw (c.in-Or.is, value-Or, ← c.as_slice-in-Or.ensures.value, ← c.over-in-Or.ensures) c.opposite-in-Or.ensures

pub value-returns-in-ForEvery : goal.value-returns-in-ForEvery
value-returns-in-ForEvery g t c =
    rw (c.in-ForEvery.is, value-ForEvery, ← c.deref.ensures) (rw c.quantifier_over.ensures at c.over_rows.ensures)

pub value-returns-in-ForSome : goal.value-returns-in-ForSome
value-returns-in-ForSome g t c =
    rw (c.in-ForSome.is, value-ForSome, ← c.deref-in-ForSome.ensures) (c.opposite.ensures
    ∙ ap opposite (rw c.quantifier_over-in-ForSome.ensures at c.over_rows-in-ForSome.ensures))

pub value-returns-in-EveryBefore : goal.value-returns-in-EveryBefore
value-returns-in-EveryBefore g t c =
    let a = c.in-EveryBefore in
    rw (
      a.is,
      value-EveryBefore _ _ _ _ a.v a.kind a.u a.body _ _ c.quantifier_over-in-EveryBefore.ensures
          c.deref-in-EveryBefore.ensures,
    ) c.over_before.ensures

pub value-returns-in-SomeBefore : goal.value-returns-in-SomeBefore
value-returns-in-SomeBefore g t c =
    let a = c.in-SomeBefore in
    rw (
      a.is,
      value-SomeBefore _ _ _ _ a.v a.kind a.u a.body _ _ c.quantifier_over-in-SomeBefore.ensures
          c.deref-in-SomeBefore.ensures,
    ) (c.opposite-in-SomeBefore.ensures ∙ ap opposite c.over_before-in-SomeBefore.ensures)

pub value-returns-in-Implies : goal.value-returns-in-Implies
value-returns-in-Implies g t c =
    rw (
      c.in-Implies.is,
      value-Implies,
      ← c.deref-in-Implies.ensures,
      ← c.deref-in-Implies-2.ensures,
      ← c.value-in-Implies.ensures,
    ) c.implied.ensures

pub value-returns-in-Next : goal.value-returns-in-Next
value-returns-in-Next g t c =
    let a = c.in-Next in
    let view : tree_of (Next a.v a.u) ≡ tree_then (form.Next a.v a.u) no_trees no_trees = search (rules, the_lemmas) in
    rw (a.is, view) (cc)

pub value-returns-in-Is : goal.value-returns-in-Is
value-returns-in-Is g t c =
    let a = c.in-Is in
    let view : tree_of (Is a.v a.role) ≡ tree_then (form.Is a.v a.role) no_trees no_trees =
    search (rules, the_lemmas) in
    rw (a.is, view) (cc)

pub value-returns-in-OfKind : goal.value-returns-in-OfKind
value-returns-in-OfKind g t c =
    let a = c.in-OfKind in
    let view : tree_of (OfKind a.v a.kind) ≡ tree_then (form.OfKind a.v a.kind) no_trees no_trees =
    search (rules, the_lemmas) in
    rw (a.is, view) (cc)

pub value-returns-in-Equal : goal.value-returns-in-Equal
value-returns-in-Equal g t c = rw (c.in-Equal.is, value-Equal) (cc)

pub value-returns-in-Less : goal.value-returns-in-Less
value-returns-in-Less g t c =
    let a = c.in-Less in
    let view : tree_of (Less a.t a.s) ≡ tree_then (form.Less a.t a.s) no_trees no_trees = search (rules, the_lemmas) in
    rw (a.is, view) (cc)

pub value-returns-in-Before : goal.value-returns-in-Before
value-returns-in-Before g t c =
    let a = c.in-Before in
    let view : tree_of (Before a.v a.u) ≡ tree_then (form.Before a.v a.u) no_trees no_trees =
    search (rules, the_lemmas) in
    rw (a.is, view) c.order_of.ensures

pub over_before-over_rows-requires : goal.over_before-over_rows-requires
over_before-over_rows-requires g t c κs outlives =
    let node = rw c.in-Some.is at (c.place_of.ensures.within (length c.args.scene.now.rows.now) c.requires.within) in
    (search rules, (outlives, (c.requires.many, (c.requires.within, (c.requires.serves, node)))))

pub over_before-unless_ragged-requires : goal.over_before-unless_ragged-requires
over_before-unless_ragged-requires g t c = record {
  serves = (c.args.scene.now.rows.now, c.requires.serves);
  place = rw (c.in-Some.is, c.requires.many) at
      (c.place_of.ensures.within (length c.args.scene.now.rows.now) c.requires.within);
}

pub over_before-returns-in-Some : goal.over_before-returns-in-Some
over_before-returns-in-Some g t c =
    rw (← c.place_of.ensures.is, c.in-Some.is, ← c.over_rows.ensures, ← c.unless_ragged.ensures) c.both.ensures

pub over_each-loop-i-preserved : goal.over_each-loop-i-preserved
over_each-loop-i-preserved g t c =
    let rows = c.args.scene.now.rows.now in
    let P = g.K.Knowledge.order c.args.scene.now.known in
    let R = g.K.Knowledge.wholes c.args.scene.now.known in
    let q = c.args.quantifier in
    step_with rows P R q.some c.args.body.now q.v q.kind q.within (env_of c.args.scope.now) c.loop-i.i c.loop-i.least
    c.value_at.result c.both-least.result _ c.loop-i-test.true c.value_at.ensures c.both-least.ensures
    c.loop-i.invariant

pub over_each-returns-then-is_false : goal.over_each-returns-then-is_false
over_each-returns-then-is_false g t c =
    let rows = c.args.scene.now.rows.now in
    let P = g.K.Knowledge.order c.args.scene.now.known in
    let R = g.K.Knowledge.wholes c.args.scene.now.known in
    let q = c.args.quantifier in
    stop_with rows P R q.some c.args.body.now q.v q.kind q.within (env_of c.args.scope.now) c.loop-i.i c.loop-i.least
    c.value_at.result c.both-least.result _ c.loop-i-test.true c.value_at.ensures c.both-least.ensures
    c.loop-i.invariant (sym c.is_false.ensures ∙ c.if-is_false.true)

pub over_visited-value_at-requires : goal.over_visited-value_at-requires
over_visited-value_at-requires g t c κs outlives =
    let P = g.K.Knowledge.order c.args.scene.now.known in
    let R = g.K.Knowledge.wholes c.args.scene.now.known in
    let row = visited_within c.args.scene.now.rows.now P R c.args.quantifier c.args.body.now (env_of c.args.scope.now)
    c.args.places.now c.loop-place.place-index _ c.requires.visited c.loop-place-test.true in
    (search rules, (outlives, (c.requires.many, (c.requires.within, (c.requires.serves, (c.requires.node, row))))))

pub over_visited-returns-then-is_false : goal.over_visited-returns-then-is_false
over_visited-returns-then-is_false g t c =
    let P = g.K.Knowledge.order c.args.scene.now.known in
    let R = g.K.Knowledge.wholes c.args.scene.now.known in
    visit_stops c.args.scene.now.rows.now P R c.args.quantifier c.args.body.now (env_of c.args.scope.now)
    c.args.places.now c.loop-place.place-index _ c.loop-place.least c.value_at.result c.both-least.result
    c.requires.visited c.loop-place-test.true c.value_at.ensures c.both-least.ensures c.loop-place.invariant
    (sym c.is_false.ensures ∙ c.if-is_false.true)

pub over_visited-loop-place-preserved : goal.over_visited-loop-place-preserved
over_visited-loop-place-preserved g t c =
    let P = g.K.Knowledge.order c.args.scene.now.known in
    let R = g.K.Knowledge.wholes c.args.scene.now.known in
    visit_one c.args.scene.now.rows.now P R c.args.quantifier c.args.body.now (env_of c.args.scope.now)
    c.args.places.now c.loop-place.place-index _ c.loop-place.least c.value_at.result c.both-least.result
    c.requires.visited c.loop-place-test.true c.value_at.ensures c.both-least.ensures c.loop-place.invariant

pub over_visited-returns : goal.over_visited-returns
over_visited-returns g t c =
    let P = g.K.Knowledge.order c.args.scene.now.known in
    let R = g.K.Knowledge.wholes c.args.scene.now.known in
    visit_ends c.args.scene.now.rows.now P R c.args.quantifier c.args.body.now (env_of c.args.scope.now)
    c.args.places.now c.loop-place.place-index c.loop-place.least (omega (arith, c.loop-place-test.false))
    c.requires.visited c.loop-place.invariant
