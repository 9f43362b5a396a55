-- The tokens of a text, in a row.
use Rattle.std.specs.Prelude.{ℕ, ◌+◌, Bool, true, false, ◌==◌, ◌||◌, if◌then◌else◌, List, [], ◌∷◌}
use Rattle.std.specs.Prelude.{codes}
use Rattle.hall_text.specs.Tokens.{is_parenthesis, is_word_byte}

-- a token: the bytes of a word, or of a parenthesis (Querifier, SADFE 2008)
abbrev pub Token : Type 0
Token = List ℕ

-- the left parenthesis
abbrev pub left : Token
left = codes "("

-- the right parenthesis
abbrev pub right : Token
right = codes ")"

-- space, tab, newline and carriage return separate tokens
abbrev pub is_separator : ℕ → Bool
is_separator byte = (byte == 32) || ((byte == 9) || ((byte == 10) || (byte == 13)))

-- the tokens of a text, each with the place of its first byte, up to a bad byte or the end
pub data Row : Type 0 where
  token_then : (at : ℕ) (word : Token) (rest : Row) → Row
  bad_byte : (at : ℕ) → Row
  text_end : (at : ℕ) → Row

-- whether a word goes on with these bytes
abbrev pub goes_on : List ℕ → Bool
goes_on [] = false
goes_on (byte ∷ bytes) = is_word_byte byte

-- a byte in front of the row's first word
abbrev pub longer : ℕ → ℕ → Row → Row
longer at byte (token_then next word rest) = token_then at (byte ∷ word) rest
longer at byte row = row

-- a byte and the row after it, whose first word goes on with the byte or not
abbrev pub byte_then : ℕ → ℕ → Bool → Row → Row
byte_then at byte joined row =
    if is_separator byte then row
    else (if is_parenthesis byte then token_then at (byte ∷ []) row
    else (if is_word_byte byte then (if joined then longer at byte row else token_then at (byte ∷ []) row)
    else bad_byte at))

-- the tokens of bytes, of which the first stands at the place
abbrev pub row_from : ℕ → List ℕ → Row
row_from at [] = text_end at
row_from at (byte ∷ bytes) = byte_then at byte (goes_on bytes) (row_from (at + 1) bytes)

-- the tokens of a text
unfoldable pub text_row : List ℕ → Row
text_row text = row_from 0 text

-- the words of a row
abbrev pub words : Row → List Token
words (token_then at word rest) = word ∷ words rest
words (bad_byte at) = []
words (text_end at) = []

-- whether no byte is bad
abbrev pub has_good_bytes : Row → Bool
has_good_bytes (token_then at word rest) = has_good_bytes rest
has_good_bytes (bad_byte at) = false
has_good_bytes (text_end at) = true
