use Rattle.std.proofs.Common.{◌≡◌, drop}
use Rattle.folder_tests.specs.Memory.{is_numbered}
use Rattle.folder_tests.proofs.disk.is_numbered.Given as goal

abbrev pub invariant-loop-call : goal.invariant-loop-call
invariant-loop-call l = is_numbered (drop l.call-index l.calls) l.number ≡ is_numbered l.calls l.number
