use Rattle.std.proofs.Common.{length}
use Rattle.folder_tests.proofs.reading.+bytes_of.Given as goal

abbrev pub decreases-bytes_of : goal.decreases-bytes_of
decreases-bytes_of l = length l.calls.now
