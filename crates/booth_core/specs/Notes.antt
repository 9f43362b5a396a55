-- What contracts see of a booth's state.
use Rattle.std.specs.Prelude.{ℕ, Bool, List}
use Rattle.booth_core.specs.declared.commitment.Commitment.{Commitment}

-- the mark and the lists that it keeps, and how many entries more there is room for
pub record Notes : Type 0 where
  pub owner : ℕ
  pub closed : Bool
  pub authorised : List ℕ
  pub to_cancel : List ℕ
  pub to_cast : List ℕ
  pub activated : List ℕ
  pub committed : List Commitment
  pub ended : List ℕ
  pub spare : ℕ
