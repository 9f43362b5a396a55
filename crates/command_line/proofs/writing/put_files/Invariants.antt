use Rattle.std.proofs.Common.{Option, Bool}
use Rattle.command_line.proofs.Imports.{◌≡◌, drop, Files, with_files, SetsSome, PutsAll}
use Rattle.command_line.proofs.writing.put_files.Given as goal

-- what is left to be written leads to what all files lead to
abbrev pub invariant-loop-file : goal.invariant-loop-file
invariant-loop-file g l =
    let store = g.S.Store in
    record {
      files : with_files (store.files l.store) (drop l.file-index l.files)
          ≡ with_files (store.files l.fn.store) l.files;
      some : (new : Option Files) → SetsSome (store.files l.store) (drop l.file-index l.files) new
          → SetsSome (store.files l.fn.store) l.files new;
      write_faults : store.write_faults l.store ≡ store.write_faults l.fn.store;
      answered : store.answered l.store ≡ store.answered l.fn.store;
      read_faults : store.read_faults l.store ≡ store.read_faults l.fn.store;
      calls : (end : g.row.S.Denot) (ok : Bool)
          → PutsAll store l.store (drop l.file-index l.files) ok end
          → PutsAll store l.fn.store l.files ok end;
    }
