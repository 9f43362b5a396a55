-- How much a call takes of what it is offered.
use Rattle.std.specs.Prelude.{ℕ, ◌<◌, ◌≤◌, List, length}

-- at least one byte, at most all (POSIX.1-2017, write())
pub record IsCount (piece : List ℕ) (n : ℕ) : Type 0 where
  pub some : 0 < n
  pub at_most : n ≤ length piece
