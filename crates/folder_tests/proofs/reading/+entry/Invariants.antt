use Rattle.std.proofs.Common.{length}
use Rattle.folder_tests.proofs.reading.+entry.Given as goal

abbrev pub decreases-entry : goal.decreases-entry
decreases-entry l = length l.calls.now
