use Rattle.log_commands.proofs.Imports.{arith, IsNumbered, subst, sym, true≢false, ◌+◌, ◌∙◌}
use Rattle.log_commands.proofs.EntryPlaces.{least_here, least_passes, least_stays, LeastBefore, number_found}
use Rattle.log_commands.proofs.order.place_of_number.Goals.{else-is_numbered, else-is_numbered-via-else-is_numbered}
use Rattle.log_commands.proofs.order.place_of_number.Goals.{else-is_numbered-via-then-is_numbered+else-is_lower}
use Rattle.log_commands.proofs.order.place_of_number.Goals.{then-is_numbered+then-is_lower}
use Rattle.log_commands.proofs.order.place_of_number.Goals as goal

pub loop-at-preserved : goal.loop-at-preserved
loop-at-preserved c =
    let S = c.args.graph.now.survivors in
    let P = IsNumbered c.args.roster.now.machines c.args.machine.now c.args.number in
    let at = c.loop-at.at in
    let e = c.node.result.now in
    let (sound, complete) = c.is_numbered.ensures in
    elim c.if-is_numbered.branch [
      | then-is_numbered+then-is_lower w ↦ subst (LeastBefore P S (at + 1)) (sym w.least-is)
          (least_here P S at c.loop-at.least e c.node.ensures.value (sound w.if-is_numbered.true)
          (w.is_lower.ensures.0 w.if-is_lower.true) c.loop-at.invariant)
      | else-is_numbered w ↦ subst (LeastBefore P S (at + 1)) (sym w.least-is) (elim w.else-is_numbered.branch [
        | else-is_numbered-via-then-is_numbered+else-is_lower v ↦ least_stays P S at c.loop-at.least e
            c.node.ensures.value (λ lower. true≢false (sym (v.is_lower.ensures.1 lower) ∙ v.if-is_lower.false))
            c.loop-at.invariant
        | else-is_numbered-via-else-is_numbered v ↦ least_passes P S at c.loop-at.least e c.node.ensures.value
            (λ holds. true≢false (sym (complete holds) ∙ v.if-is_numbered.false)) c.loop-at.invariant
      ])
    ]

pub returns : goal.returns
returns c =
    number_found c.args.roster.now.machines c.args.machine.now c.args.number c.args.graph.now.survivors c.loop-at.at
    c.loop-at.least (let past = c.loop-at-test.false in let count = c.count-at-end.ensures in omega arith)
    c.loop-at.invariant
