-- The tokens of a text, by one walk over its bytes.
use Rattle.std.specs.Prelude.{ℕ, ◌+◌, ◌==◌, Bool, not, ◌&&◌, ◌||◌, nat_lt, nat_le, List, [], ◌∷◌, if◌then◌else◌}
use Rattle.hall_text.specs.declared.spans.Span.{Span}

-- a parenthesis
abbrev pub is_parenthesis : ℕ → Bool
is_parenthesis byte = (byte == 40) || (byte == 41)

-- a byte of a word: from `!` to `~`, and no parenthesis
abbrev pub is_word_byte : ℕ → Bool
is_word_byte byte = nat_le 33 byte && (nat_le byte 126 && (not (byte == 40) && not (byte == 41)))

-- where the bytes of a word that stand from a place on end
abbrev pub word_end : ℕ → List ℕ → ℕ
word_end at [] = at
word_end at (byte ∷ bytes) = if is_word_byte byte then word_end (at + 1) bytes else at

-- where the token that begins at a place ends, a parenthesis alone or a word; the place itself where
-- none begins there
abbrev pub token_end : ℕ → List ℕ → ℕ
token_end at [] = at
token_end at (byte ∷ bytes) = if is_parenthesis byte then at + 1 else word_end at (byte ∷ bytes)

-- the tokens from a place on, where the bytes before `free` belong to a token that began before
abbrev pub tokens_from : ℕ → ℕ → List ℕ → List Span
tokens_from at free [] = []
tokens_from at free (byte ∷ bytes) =
    if nat_lt at free then tokens_from (at + 1) free bytes
    else if nat_lt at (token_end at (byte ∷ bytes))
    then record { start = at; end = token_end at (byte ∷ bytes) }
    ∷ tokens_from (at + 1) (token_end at (byte ∷ bytes)) bytes
    else tokens_from (at + 1) (at + 1) bytes

-- where the tokens of the text are
abbrev pub token_spans : List ℕ → List Span
token_spans text = tokens_from 0 0 text
