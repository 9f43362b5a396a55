use Rattle.std.proofs.Common.{◌≡◌, ◌++◌, map, string_bytes}
use Rattle.std.specs.List.{range_with_len}
use Rattle.auditorium_view.specs.View.{log_input}
use Rattle.auditorium_view.proofs.viewing.add_logs.Given as goal

-- the logs so far
abbrev pub invariant-loop-place : goal.invariant-loop-place
invariant-loop-place l =
    l.inputs ≡ l.fn.inputs ++ map (log_input l.digests l.before (map string_bytes l.logs)) (range_with_len 0 l.place)
