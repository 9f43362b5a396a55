-- What the real files are seen as.
use Rattle.std.specs.Prelude.{ℕ}
use Rattle.hall_outside.specs.Reading.{Answered}

-- how many calls failed, and what reads have answered
pub record FolderState : Type 0 where
  pub read_faults : ℕ
  pub write_faults : ℕ
  pub answered : Answered
