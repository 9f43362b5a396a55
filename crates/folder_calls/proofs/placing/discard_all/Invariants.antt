use Rattle.folder_calls.proofs.placing.discard_all.Given as goal
use Rattle.folder_calls.specs.{Leftovers.AreGone, Placing.HaveOtherNames, Placing.IsFewer, World.Goes, World.Now}
use Rattle.folder_calls.specs.declared.begun.Begun.{Begun}
use Rattle.std.proofs.Common.{drop, List, take}

abbrev pub invariant-loop-file : goal.invariant-loop-file
invariant-loop-file g l =
    let moments = g.F.Folder.moments in
    let failed = g.F.Folder.removal_failed in
    record {
      others : Now (moments l.fn.folder) (λ w. HaveOtherNames (drop l.file-index l.begun));
      any_moment : Goes IsFewer (moments l.fn.folder) (moments l.folder);
      gone : Now (moments l.folder) (AreGone (failed l.folder) (take l.file-index l.begun));
      stay : (others : List Begun) → Now (moments l.fn.folder) (AreGone (failed l.fn.folder) others)
          → Now (moments l.folder) (AreGone (failed l.folder) others);
    }
