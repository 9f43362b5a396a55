-- Text in markup: what would be read as markup is a reference.
use Rattle.std.specs.Prelude.{ℕ, Bool, ◌==◌, ◌&&◌, ◌||◌, not, nat_le, if◌then◌else◌, List, [], ◌∷◌, codes}
use Rattle.std.specs.List.{flat_map}

-- the byte is one of the five that have a meaning in markup: `&`, `<`, `>`, `"` and `'`
abbrev pub is_special : ℕ → Bool
is_special byte = byte == 38 || byte == 60 || byte == 62 || byte == 34 || byte == 39

-- the byte stands in text as it is: a line feed or a printing character of ASCII, and none of the five
abbrev pub is_plain : ℕ → Bool
is_plain byte = (byte == 10 || nat_le 32 byte && nat_le byte 126) && not (is_special byte)

-- what stands for another byte: of the five their references (Extensible Markup Language 1.0, 4.6), and of what
-- isn't printing a question mark
abbrev pub reference_of : ℕ → List ℕ
reference_of byte =
    if byte == 38 then codes "&amp;"
    else if byte == 60 then codes "&lt;"
    else if byte == 62 then codes "&gt;"
    else if byte == 34 then codes "&quot;"
    else if byte == 39 then codes "&#39;"
    else codes "?"

-- a byte of text
abbrev pub escaped_byte : ℕ → List ℕ
escaped_byte byte = if is_plain byte then byte ∷ [] else reference_of byte

-- text in markup
unfoldable pub escaped : List ℕ → List ℕ
escaped text = flat_map escaped_byte text
