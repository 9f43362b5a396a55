-- Whether a file is there.
use Rattle.std.specs.Prelude.{◌≡◌, ℕ, List, Bool, true, false, Option, None, IsSome}

-- the file is there, or it isn't
abbrev pub IsThere : Bool → Option (List ℕ) → Type 0
IsThere true file = IsSome file
IsThere false file = file ≡ None
