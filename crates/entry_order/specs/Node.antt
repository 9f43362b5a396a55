-- What an entry shows of the other entries.
use Rattle.std.specs.Prelude.{ℕ, List}

-- what an entry shows; its stamp is its maker's logical clock (Auditorium, EVT 2007; Lamport 1978)
pub record Node : Type 0 where
  pub digest : List ℕ
  pub names : List (List ℕ)
  pub maker : ℕ
  pub number : ℕ
  pub stamp : ℕ
