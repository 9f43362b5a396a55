use Rattle.log_commands.proofs.Imports.{AreLinesOf, IsOfMachine, map, rule_tree, string_bytes, subst, sym, take, ◌+◌}
use Rattle.log_commands.proofs.WatchSteps.{at_all, collides_not, has_room, is_at, same_audit, stands_then, told_more}
use Rattle.log_commands.proofs.WatchSteps.{unwatched}
use Rattle.log_commands.proofs.watch.watch_entries.Goals as goal

pub add_entry-requires-clause-machine : goal.add_entry-requires-clause-machine
add_entry-requires-clause-machine c =
    let at = is_at (λ e. e.now) c.args.entries.now c.loop-k-test.true c.index-entries-k.is in
    rw c.loop-k.invariant.same.machines (at_all at (IsOfMachine c.args.live.now.machines) c.requires.machines)

pub add_entry-requires-clause-apart : goal.add_entry-requires-clause-apart
add_entry-requires-clause-apart c =
    let at = is_at (λ e. e.now) c.args.entries.now c.loop-k-test.true c.index-entries-k.is in
    collides_not at c.loop-k.invariant.stand c.requires.apart

pub add_entry-requires-clause-room : goal.add_entry-requires-clause-room
add_entry-requires-clause-room c =
    let at = is_at (λ e. e.now) c.args.entries.now c.loop-k-test.true c.index-entries-k.is in
    has_room at c.loop-k.invariant.stand c.requires.few c.loop-k.invariant.kept.once

pub returns-in-Err-clause-err : goal.returns-in-Err-clause-err
returns-in-Err-clause-err c =
    let at = is_at (λ e. e.now) c.args.entries.now c.loop-k-test.true c.index-entries-k.is in
    unwatched c.entries_give_one_graph.ensures at c.loop-k.invariant.same c.loop-k.invariant.stand
    (string_bytes c.loop-k.lines) c.loop-k.invariant.told c.in-Err.why c.in-Err.ensures.err

pub loop-k-preserved : goal.loop-k-preserved
loop-k-preserved c =
    let at = is_at (λ e. e.now) c.args.entries.now c.loop-k-test.true c.index-entries-k.is in
    let so_far = c.loop-k.invariant in
    let done = c.in-Ok.ensures in
    let start = c.args.live.now in
    let same = same_audit start c.loop-k.live c.add_entry.new.live so_far.same done.same in
    record {
      stand = stands_then at so_far.stand done.ok;
      same = same;
      kept = done.kept;
      told = subst (AreLinesOf start.machines (map rule_tree start.rules)
          (take (c.loop-k.k + 1) (map (λ e. e.now) c.args.entries.now))) (sym c.in_ok-add_line-in-Ok.ensures)
          (told_more at so_far.stand so_far.told done.ok (rw (same.machines, same.rules) at done.kept.after));
    }
