use Rattle.std.proofs.Common.{length}
use Rattle.folder_tests.proofs.crashes.+entries.Given as goal

abbrev pub decreases-entries : goal.decreases-entries
decreases-entries l = length l.calls.now
