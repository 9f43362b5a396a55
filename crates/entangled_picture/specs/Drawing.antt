-- What a picture is drawn with.
use Rattle.std.specs.Prelude.{ℕ, List, [], ◌∷◌, ◌++◌, codes}
use Rattle.std.specs.List.{concat}
use Rattle.std.specs.Fmt.{decimal}
use Rattle.page_markup.specs.declared.names.Tag.TheVariants as tag
use Rattle.page_markup.specs.declared.names.AttributeName.TheVariants.{Class, Transform, D}
use Rattle.page_markup.specs.Escaping.{escaped}
use Rattle.page_markup.specs.Elements.{attribute, element}

-- a place, as a transformation
abbrev pub place_text : ℕ → ℕ → List ℕ
place_text x y = concat (codes "translate(" ∷ decimal x ∷ codes " " ∷ decimal y ∷ codes ")" ∷ [])

-- words of a class at a place
unfoldable pub words_at : List ℕ → List ℕ → List ℕ → List ℕ
words_at class place text = element tag.Text (attribute Class class ++ attribute Transform place) (escaped text)

-- a line of a class along a path
unfoldable pub drawn_line : List ℕ → List ℕ → List ℕ
drawn_line class path = element tag.Path (attribute Class class ++ attribute D path) []

-- a title
unfoldable pub title : List ℕ → List ℕ
title text = element tag.Title [] (escaped text)

-- a line with a title
unfoldable pub titled_line : List ℕ → List ℕ → List ℕ → List ℕ
titled_line class path text = element tag.Path (attribute Class class ++ attribute D path) (title text)

-- what is drawn of a class at a place
unfoldable pub group : List ℕ → List ℕ → List ℕ → List ℕ
group class place inner = element tag.G (attribute Class class ++ attribute Transform place) inner

-- a mark of a class at a place: a title, a line along a path, and a label
unfoldable pub mark : List ℕ → List ℕ → List ℕ → List ℕ → List ℕ → List ℕ → List ℕ
mark class place text path beside label =
    group class place (title text ++ drawn_line (codes "glyph") path ++ words_at (codes "label") beside label)
