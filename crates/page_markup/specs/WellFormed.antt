-- Markup that is well-formed (Extensible Markup Language 1.0, 2.1 and 3.1).
use Rattle.std.specs.Prelude.{ℕ, Bool, true, false, ◌==◌, ◌&&◌, ◌||◌, nat_le, IsTrue, List, [], ◌∷◌, ◌++◌, codes}
use Rattle.page_markup.specs.Escaping.{is_plain}

-- the byte may be in a name: a letter of ASCII, a digit or a hyphen
abbrev pub is_in_name : ℕ → Bool
is_in_name byte =
    nat_le 97 byte && nat_le byte 122 || nat_le 65 byte && nat_le byte 90 || nat_le 48 byte && nat_le byte 57
    || byte == 45

-- all bytes may be in a name
abbrev pub are_in_name : List ℕ → Bool
are_in_name [] = true
are_in_name (byte ∷ rest) = is_in_name byte && are_in_name rest

-- a name: a small letter, and what may be in a name
abbrev pub is_markup_name : List ℕ → Bool
is_markup_name [] = false
is_markup_name (byte ∷ rest) = nat_le 97 byte && nat_le byte 122 && are_in_name rest

-- a reference to one of the five characters that have a meaning in markup
pub data IsReference : List ℕ → Type 0 where
  ampersand : IsReference (codes "&amp;")
  less_than : IsReference (codes "&lt;")
  greater_than : IsReference (codes "&gt;")
  double_quote : IsReference (codes "&quot;")
  apostrophe : IsReference (codes "&#39;")

-- character data: characters without a meaning in markup, and references
pub data IsCharacterData : List ℕ → Type 0 where
  no_characters : IsCharacterData []
  character : (byte : ℕ) (rest : List ℕ) → IsTrue (is_plain byte) → IsCharacterData rest → IsCharacterData (byte ∷ rest)
  reference : (name rest : List ℕ) → IsReference name → IsCharacterData rest → IsCharacterData (name ++ rest)

-- attributes: of each a space, its name, and character data between double quotes
pub data AreAttributes : List ℕ → Type 0 where
  no_attributes : AreAttributes []
  one_more : (before name value : List ℕ) → AreAttributes before → IsTrue (is_markup_name name) →
      IsCharacterData value → AreAttributes (before ++ (codes " " ++ name ++ codes "=\"" ++ value ++ codes "\""))

-- content: character data and elements, one after another; each start tag has its end tag, with the
-- same name, and what is between them is content
pub data IsContent : List ℕ → Type 0 where
  no_content : IsContent []
  characters : (before text : List ℕ) → IsContent before → IsCharacterData text → IsContent (before ++ text)
  one_tag : (before name attributes : List ℕ) → IsContent before → IsTrue (is_markup_name name) →
      AreAttributes attributes → IsContent (before ++ (codes "<" ++ name ++ attributes ++ codes "/>"))
  two_tags : (before name attributes inner : List ℕ) → IsContent before → IsTrue (is_markup_name name) →
      AreAttributes attributes → IsContent inner →
      IsContent (before
      ++ ((codes "<" ++ name ++ attributes ++ codes ">") ++ inner ++ (codes "</" ++ name ++ codes ">")))

-- a document: a page's type or nothing, one element, and a line feed
pub data IsDocument : List ℕ → Type 0 where
  a_page : (name attributes inner : List ℕ) → IsTrue (is_markup_name name) →
      AreAttributes attributes → IsContent inner → IsDocument (codes "<!DOCTYPE html>" ++ 10 ∷ []
      ++ ((codes "<" ++ name ++ attributes ++ codes ">") ++ inner ++ (codes "</" ++ name ++ codes ">")) ++ 10 ∷ [])
  a_drawing : (name attributes inner : List ℕ) → IsTrue (is_markup_name name) →
      AreAttributes attributes → IsContent inner → IsDocument (
      ((codes "<" ++ name ++ attributes ++ codes ">") ++ inner ++ (codes "</" ++ name ++ codes ">"))
      ++ 10 ∷ [])
