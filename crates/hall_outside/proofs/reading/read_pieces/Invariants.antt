use Rattle.hall_outside.proofs.Imports.{length, List, OnFile, raised, vec_len, ℕ, ◌-◌, ◌≡◌, ◌≤◌}
use Rattle.hall_outside.proofs.Fronts.{GoesOn, IsFront}
use Rattle.hall_outside.proofs.reading.read_pieces.Given as goal

-- the bytes so far were taken and are within the limit, and where files are exposed they are the
-- file's front
abbrev pub invariant-loop-piece : goal.invariant-loop-piece
invariant-loop-piece g l =
    let store = g.S.Store in
    let taking = g.T.TakePieces in
    record {
      bytes : List ℕ;
      long : l.done ≡ length bytes;
      takes : taking.takes l.fn.into bytes l.into;
      most : l.limit ≤ taking.most l.fn.into;
      front : OnFile (store.files l.fn.store) l.name (IsFront bytes);
      fits : l.done ≤ l.limit;
      piece : vec_len l.piece ≡ 65536;
      files : store.files l.store ≡ store.files l.fn.store;
      absences : (store.answered l.store).absences ≡ (store.answered l.fn.store).absences;
      given : (store.answered l.store).bytes ≡ raised (store.answered l.fn.store).bytes l.done;
      read_faults : store.read_faults l.store ≡ store.read_faults l.fn.store;
      write_faults : store.write_faults l.store ≡ store.write_faults l.fn.store;
      pieces : GoesOn (store.reads l.name) l.limit l.fn.store bytes l.store;
    }

abbrev pub decreases-loop-piece : goal.decreases-loop-piece
decreases-loop-piece g l = l.limit - l.done
