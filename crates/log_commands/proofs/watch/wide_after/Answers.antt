use Rattle.log_commands.proofs.Imports.{IsOfMachine, IsTooWideOver, map, rule_tree, subst, ℕ}
use Rattle.log_commands.proofs.WatchSteps.{at_all, collides_not, has_room, is_at, narrow_more, same_audit, stands_then}
use Rattle.log_commands.proofs.WatchSteps.{wide_after}
use Rattle.log_commands.proofs.watch.wide_after.Goals as goal

pub add_narrow-requires-clause-machine : goal.add_narrow-requires-clause-machine
add_narrow-requires-clause-machine c =
    let at = is_at (λ e. e.now) c.args.entries.now c.loop-k-test.true c.index-entries-k.is in
    rw c.loop-k.invariant.same.machines (at_all at (IsOfMachine c.args.live.now.machines) c.requires.machines)

pub add_narrow-requires-clause-apart : goal.add_narrow-requires-clause-apart
add_narrow-requires-clause-apart c =
    let at = is_at (λ e. e.now) c.args.entries.now c.loop-k-test.true c.index-entries-k.is in
    collides_not at c.loop-k.invariant.stand c.requires.apart

pub add_narrow-requires-clause-room : goal.add_narrow-requires-clause-room
add_narrow-requires-clause-room c =
    let at = is_at (λ e. e.now) c.args.entries.now c.loop-k-test.true c.index-entries-k.is in
    has_room at c.loop-k.invariant.stand c.requires.few c.loop-k.invariant.kept.once

pub loop-k-preserved : goal.loop-k-preserved
loop-k-preserved c =
    let at = is_at (λ e. e.now) c.args.entries.now c.loop-k-test.true c.index-entries-k.is in
    let so_far = c.loop-k.invariant in
    let done = c.in-Ok-None.ensures in
    let start = c.args.live.now in
    let next = c.add_narrow.new.live in
    let trees = map rule_tree c.args.rules.now in
    let same = same_audit start c.loop-k.live next so_far.same done.same in
    let stand = stands_then at so_far.stand done.ok in
    let none = rw c.in-Ok-None.field-0-is at done.none in
    record {
      stand = stand;
      same = same;
      kept = done.kept;
      narrow = narrow_more c.entries_give_one_graph.ensures start.machines trees (map (λ e. e.now) c.args.entries.now)
          next.added c.loop-k.k done.kept.after.graph done.kept.after.graphed stand
          (subst (λ ms. (place : ℕ) → IsTooWideOver ms trees next.added place → ⊥) same.machines none) so_far.narrow;
    }

pub returns-in-Ok-Some : goal.returns-in-Ok-Some
returns-in-Ok-Some c =
    let at = is_at (λ e. e.now) c.args.entries.now c.loop-k-test.true c.index-entries-k.is in
    let so_far = c.loop-k.invariant in
    let done = c.in-Ok-Some.ensures in
    let next = c.add_narrow.new.live in
    let trees = map rule_tree c.args.rules.now in
    let same = same_audit c.args.live.now c.loop-k.live next so_far.same done.same in
    let wide = rw c.in-Ok-Some.field-0-is at done.some in
    wide_after at so_far.stand done.ok
    (subst (λ ms. IsTooWideOver ms trees next.added c.in-Ok-Some.place) same.machines wide) so_far.narrow
