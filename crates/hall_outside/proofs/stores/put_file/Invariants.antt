use Rattle.hall_outside.proofs.Imports.{drop, length, take, with_file, ◌-◌, ◌≡◌, ◌≤◌}
use Rattle.hall_outside.proofs.Offers.{Creates}
use Rattle.hall_outside.proofs.stores.put_file.Given as goal

-- the file is the front of the bytes, and the rest is left to be offered
abbrev pub invariant-loop-done : goal.invariant-loop-done
invariant-loop-done g l =
    let store = g.S.Store in
    record {
      within : l.done ≤ length l.bytes;
      files : store.files l.store ≡ with_file (store.files l.fn.store) l.name (take l.done l.bytes);
      write_faults : store.write_faults l.store ≡ store.write_faults l.fn.store;
      offers : Creates (store.creates l.name) (store.appends l.name) l.fn.store l.store l.bytes (drop l.done l.bytes);
      answered : store.answered l.store ≡ store.answered l.fn.store;
      read_faults : store.read_faults l.store ≡ store.read_faults l.fn.store;
    }

abbrev pub decreases-loop-done : goal.decreases-loop-done
decreases-loop-done g l = length l.bytes - l.done
