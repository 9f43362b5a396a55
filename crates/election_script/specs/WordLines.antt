-- Lines, each in words.
use Rattle.std.specs.Prelude.{ℕ, List}

-- a text's lines, each split into its words
abbrev pub Lines : Type 0
Lines = List (List (List ℕ))
