-- What a sink in memory is seen as, and which of its writes fail.
use Rattle.std.specs.Prelude.{◌≡◌, ℕ, List, length, min, Contains, Result, IsErr, IfOk, is_ok}
use Rattle.hall_outside.specs.declared.stores.Failed.{Failed}
use Rattle.hall_outside.specs.Counts.{raised, CountsFailures}

-- what was written, the most bytes that a write takes, the numbers of the writes that are to fail,
-- how many writes there were, and how many failed
pub record SinkState : Type 0 where
  pub written : List ℕ
  pub greatest : ℕ
  pub failing_writes : List ℕ
  pub writes : ℕ
  pub faults : ℕ

-- a write fails where its number is listed, and else takes the piece, or its first `greatest` bytes
pub record IsMemorySinkWrite (old : SinkState) (piece : List ℕ) (result : Result ℕ Failed)
    (new : SinkState) : Type 0 where
  pub number : new.writes ≡ raised old.writes 1
  pub fails : Contains old.failing_writes new.writes → IsErr result
  pub took : IfOk result (λ n. n ≡ min old.greatest (length piece))
  pub faults : CountsFailures old.faults (is_ok result) new.faults
  pub rest : new ≡ record old { written = new.written; writes = new.writes; faults = new.faults }
