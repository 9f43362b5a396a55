-- Places of a text that the reader of tokens reaches.
use Rattle.std.specs.Prelude.{◌⊎◌, ℕ, ◌-◌, ◌<◌, List, length, slice_index}
use Rattle.hall_text.specs.Spans.{IsWordByte, IsParenthesis}

-- no word goes on across the place
abbrev pub CutsNoWord : List ℕ → ℕ → Type 0
CutsNoWord text at = 0 < at → at < length text → IsWordByte (slice_index text at) →
    ¬ (IsWordByte (slice_index text (at - 1)))

-- the byte there begins a token
abbrev pub BeginsToken : List ℕ → ℕ → Type 0
BeginsToken text at = IsWordByte (slice_index text at) ⊎ IsParenthesis (slice_index text at)
