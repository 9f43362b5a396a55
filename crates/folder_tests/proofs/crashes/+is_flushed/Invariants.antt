use Rattle.std.proofs.Common.{length}
use Rattle.folder_tests.proofs.crashes.+is_flushed.Given as goal

abbrev pub decreases-is_flushed : goal.decreases-is_flushed
decreases-is_flushed l = length l.calls.now
