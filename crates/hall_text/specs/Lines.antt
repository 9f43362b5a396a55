-- The lines of a text, by one walk over its bytes.
use Rattle.std.specs.Prelude.{ℕ, ◌+◌, ◌==◌, nat_lt, List, [], ◌∷◌, map, if◌then◌else◌}
use Rattle.hall_text.specs.declared.spans.Span.{Span}
use Rattle.hall_text.specs.Spans.{piece}

-- the lines from the one on that began at `start`, of which the bytes up to `at` were passed: a newline
-- ends a line, and the text's end does where the line has a byte
abbrev pub lines_from : ℕ → ℕ → List ℕ → List Span
lines_from start at [] = if nat_lt start at then record { start = start; end = at } ∷ [] else []
lines_from start at (byte ∷ bytes) =
    if byte == 10 then record { start = start; end = at } ∷ lines_from (at + 1) (at + 1) bytes
    else lines_from start (at + 1) bytes

-- where the lines of the text are, each without its newline
abbrev pub line_spans : List ℕ → List Span
line_spans text = lines_from 0 0 text

-- the lines of the text, without their newlines
abbrev pub text_lines : List ℕ → List (List ℕ)
text_lines text = map (piece text) (line_spans text)
