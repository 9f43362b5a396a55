-- Elements, attributes and documents.
use Rattle.std.specs.Prelude.{ℕ, List, [], ◌∷◌, ◌++◌, codes}
use Rattle.page_markup.specs.declared.names.Tag.{Tag}
use Rattle.page_markup.specs.declared.names.Tag.TheVariants.{Html, Svg}
use Rattle.page_markup.specs.declared.names.VoidTag.{VoidTag}
use Rattle.page_markup.specs.declared.names.AttributeName.{AttributeName}
use Rattle.page_markup.specs.Escaping.{escaped}
use Rattle.page_markup.specs.Names.{tag_name, void_name, attribute_name}

-- an attribute: a space, its name, and its value between double quotes (Extensible Markup Language 1.0, 3.1)
unfoldable pub attribute : AttributeName → List ℕ → List ℕ
attribute name value = codes " " ++ attribute_name name ++ codes "=\"" ++ escaped value ++ codes "\""

-- a start tag: its name, and the attributes
unfoldable pub start_tag : Tag → List ℕ → List ℕ
start_tag tag attributes = codes "<" ++ tag_name tag ++ attributes ++ codes ">"

-- an end tag
unfoldable pub end_tag : Tag → List ℕ
end_tag tag = codes "</" ++ tag_name tag ++ codes ">"

-- an element: its start tag, what is in it, and its end tag
unfoldable pub element : Tag → List ℕ → List ℕ → List ℕ
element tag attributes inner = start_tag tag attributes ++ inner ++ end_tag tag

-- an element with nothing in it: one tag
unfoldable pub void_element : VoidTag → List ℕ → List ℕ
void_element tag attributes = codes "<" ++ void_name tag ++ attributes ++ codes "/>"

-- a page: its type, and one element (HTML, 13.1)
unfoldable pub html_document : List ℕ → List ℕ → List ℕ
html_document attributes inner = codes "<!DOCTYPE html>" ++ 10 ∷ [] ++ element Html attributes inner ++ 10 ∷ []

-- a drawing: one element (Scalable Vector Graphics 1.1, 5.1.2)
unfoldable pub svg_document : List ℕ → List ℕ → List ℕ
svg_document attributes inner = element Svg attributes inner ++ 10 ∷ []
