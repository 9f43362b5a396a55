use Rattle.audit_proof.proofs.Imports.{None, [], arith, length-replicate, noted_all, refl, replicate, rules, suc, sym}
use Rattle.audit_proof.proofs.Imports.{◌++◌, ◌+◌, ◌-◌, ◌∙◌, ◌∷◌, ◌≡◌}
use Rattle.audit_proof.proofs.{Canonicals.length-noted_all, LineFacts.a_step}
use Rattle.audit_proof.proofs.proving.line_at.Goals as goal
use Rattle.audit_proof.proofs.proving.line_at.Goals.{in-None, in-Some+in_ok-push-in-Some}

pub loop-done-init : goal.loop-done-init
loop-done-init g c =
    let entry = c.args.entry in
    let parents = (g.A.Arrows.graph c.args.graph.now).parents in
    let items : c.in_ok-vias.vias.items ≡ replicate entry None = search rules in
    let none : c.new-steps.result.items ≡ [] = search rules in
    let whole : entry - 0 ≡ entry = omega arith in
    let vias : c.note.new.vias.items ≡ noted_all (replicate entry None) (parents entry) entry =
    c.note.ensures ∙ rw (items, c.parents.ensures.are) refl in
    (rw vias (length-noted_all _ (parents entry) entry ∙ length-replicate entry None), rw (vias, none, whole) refl)

pub loop-done-preserved : goal.loop-done-preserved
loop-done-preserved g c =
    let parents = (g.A.Arrows.graph c.args.graph.now).parents in
    let a = c.args.entry - 1 - c.loop-done.done in
    let before : c.args.entry - c.loop-done.done ≡ suc a = omega (arith, c.loop-done-test.true) in
    let after : c.args.entry - (c.loop-done.done + 1) ≡ a = omega (arith, c.loop-done-test.true) in
    let so_far = rw before at c.loop-done.invariant.1 in
    let found = sym (rw c.deref.ensures.value at c.via_of.ensures) in
    elim c.match-via_of.branch [
      | in-None w ↦
          let vias : c.match-via_of.vias.items ≡ c.loop-done.vias.items = search rules in
          let steps : c.match-via_of.steps.items ≡ c.loop-done.steps.items = search rules in
          (rw vias c.loop-done.invariant.0, rw (after, vias, steps) (rw (found ∙ w.in-None.is) at so_far))
      | in-Some+in_ok-push-in-Some w ↦
          let vias : c.match-via_of.vias.items ≡ noted_all c.loop-done.vias.items (parents a) a = search rules in
          let steps : c.match-via_of.steps.items ≡ c.loop-done.steps.items ++ a_step a w.in-Some.via ∷ [] =
          search rules in (
            rw vias (length-noted_all _ (parents a) a ∙ c.loop-done.invariant.0),
            rw (after, vias, steps) (rw (found ∙ w.in-Some.is) at so_far),
          )
    ]
