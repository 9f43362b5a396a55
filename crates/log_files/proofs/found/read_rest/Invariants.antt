use Rattle.log_files.proofs.Imports.{AreReadBy, List, RecordText}
use Rattle.log_files.proofs.found.read_rest.Given as goal

-- what is read so far is read of the same records
abbrev pub invariant-loop-at : goal.invariant-loop-at
invariant-loop-at l = (said : List RecordText) → AreReadBy l.reader.machines l.reader.election said l.fn.found →
    AreReadBy l.reader.machines l.reader.election said l.found
