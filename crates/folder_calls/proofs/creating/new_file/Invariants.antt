use Rattle.folder_calls.specs.World.{Goes, IsClear}
use Rattle.folder_calls.proofs.creating.new_file.Given as goal

abbrev pub invariant-loop : goal.invariant-loop
invariant-loop g l =
    let moments = g.F.Folder.moments in
    record {
      clears : Goes (IsClear l.name) (moments l.fn.folder) (moments l.folder);
      spared : g.F.Folder.spares l.fn.folder → g.F.Folder.spares l.folder;
    }
