-- What contracts see of the supervisor's state.
use Rattle.std.specs.Prelude.{ℕ, Bool, List}
use Rattle.supervisor_core.specs.declared.running.Running.{Running}

-- the marks and lists that it keeps, and how many entries more there is room for
pub record Notes : Type 0 where
  pub owner : ℕ
  pub opened : Bool
  pub closed : Bool
  pub authorised : List ℕ
  pub running : List Running
  pub ended : List ℕ
  pub to_cancel : List ℕ
  pub to_cast : List ℕ
  pub committed : List ℕ
  pub spare : ℕ
