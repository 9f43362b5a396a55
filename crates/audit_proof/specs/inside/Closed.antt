-- Whether parents are missing on a line.
use Rattle.std.specs.Prelude.{ℕ, Bool, false, List, slice_index_or}
use Rattle.std.specs.List.{list_all}

-- whether the table shows each of these numbers
abbrev pub closed_at : List Bool → List ℕ → Bool
closed_at listed numbers = list_all (λ number. slice_index_or listed number false) numbers
