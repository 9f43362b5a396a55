use Rattle.folder_calls.proofs.placing.place_all.Given as goal
use Rattle.folder_calls.proofs.Steps.{Completes, CompletesPlaced}
use Rattle.folder_calls.specs.{Leftovers.AreRenamed, Placing.AreBegun, Placing.AreFlushed, Placing.StandsReady}
use Rattle.folder_calls.specs.{World.Now, declared.begun.Begun.Begun}
use Rattle.std.proofs.Common.{drop, take, true, ◌≡◌, ◌≤◌}

-- the files that are left stand ready, and complete what was begun
abbrev pub invariant-loop-file : goal.invariant-loop-file
invariant-loop-file g l =
    let moments = g.F.Folder.moments in
    let left = drop l.file-index l.begun in
    record {
      begun : Now (moments l.folder) (AreBegun left);
      flushed : Now (moments l.folder) (AreFlushed left);
      completes : Completes l.begun (moments l.fn.folder) left (moments l.folder);
      completes_placed : CompletesPlaced l.begun (moments l.fn.folder) left (moments l.folder);
      keeps : (other : Begun) → Now (moments l.fn.folder) (StandsReady other l.begun)
          → Now (moments l.folder) (StandsReady other left);
      untouched : l.is_first ≡ true → moments l.folder ≡ moments l.fn.folder;
      counted : l.placed ≤ l.file-index;
      renamed : Now (moments l.folder) (AreRenamed (take l.file-index l.begun));
    }
