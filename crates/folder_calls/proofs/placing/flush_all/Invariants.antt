use Rattle.folder_calls.proofs.placing.flush_all.Given as goal
use Rattle.folder_calls.proofs.Endings.{Flushes}
use Rattle.folder_calls.specs.{Placing.IsFlushedMore, World.Goes}
use Rattle.std.proofs.Common.{drop}

abbrev pub invariant-loop-file : goal.invariant-loop-file
invariant-loop-file g l =
    let moments = g.F.Folder.moments in
    record {
      flushes : Flushes l.begun (drop l.file-index l.begun) (moments l.folder);
      any_moment : Goes IsFlushedMore (moments l.fn.folder) (moments l.folder);
    }
