use Rattle.std.proofs.Common.{◌≡◌, drop}
use Rattle.folder_tests.specs.Memory.{has_number}
use Rattle.folder_tests.proofs.disk.has.Given as goal

abbrev pub invariant-loop-one : goal.invariant-loop-one
invariant-loop-one l = has_number (drop l.one-index l.all) l.number ≡ has_number l.all l.number
