use Rattle.log_commands.proofs.Imports.{length, refl, string_bytes, watch_line}
use Rattle.log_commands.proofs.WatchSteps.{halves_added}
use Rattle.log_commands.proofs.watch.add_line.Goals as goal

pub returns : goal.returns
returns c =
    let survivors = c.survivors-survivors in
    let gaps = c.gaps-gaps in
    let kept = c.kept_in-kept in
    let broken = c.broken_in-broken in
    let unsettled = c.unsettled_in-unsettled in
    halves_added c.add_second_half.result c.args.number survivors.result (length gaps.result.now) kept.result
    broken.result unsettled.result (watch_line c.args.number c.args.live.now.summary) (string_bytes c.args.lines.now)
    (string_bytes c.add_first_half.new.lines) (string_bytes c.add_second_half.new.lines)
    (rw (
      survivors.ensures.value,
      gaps.ensures.value,
      kept.ensures,
      broken.ensures,
      unsettled.ensures,
      c.verdicts.ensures.value,
      c.verdicts-2.ensures.value,
      c.verdicts-3.ensures.value,
    ) refl)
    c.in_ok-add_first_half.ensures c.add_second_half.ensures
