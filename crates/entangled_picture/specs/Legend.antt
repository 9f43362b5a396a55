-- The style of a picture, the heads of its arrows, and its legend.
use Rattle.std.specs.Prelude.{ℕ, List, [], ◌++◌, codes}
use Rattle.page_markup.specs.declared.names.Tag.TheVariants as tag
use Rattle.page_markup.specs.declared.names.AttributeName.TheVariants as name
use Rattle.page_markup.specs.Elements.{attribute, element}
use Rattle.entangled_picture.specs.Drawing.{place_text, drawn_line, words_at, group}
use Rattle.entangled_picture.specs.ShapeMarks.{circle_path}

-- the size of an arrow's head
unfoldable pub head_size : List ℕ
head_size =
    attribute name.MarkerUnits (codes "userSpaceOnUse") ++ attribute name.MarkerWidth (codes "8")
    ++ attribute name.MarkerHeight (codes "8")

-- where it is, at an arrow's end that is this far from the middle of what it points to
unfoldable pub head_place : List ℕ → List ℕ
head_place distance =
    attribute name.RefX distance ++ attribute name.RefY (codes "4")
    ++ attribute name.Orient (codes "auto")

-- the head of an arrow whose end is this far from the middle of what it points to
unfoldable pub arrow_head : List ℕ → List ℕ → List ℕ → List ℕ
arrow_head id class distance =
    element tag.Marker (head_size ++ attribute name.Id id ++ head_place distance)
    (drawn_line class (codes "M0 0L8 4L0 8z"))

-- the heads of both kinds of arrows
unfoldable pub arrow_heads : List ℕ
arrow_heads =
    element tag.Defs [] (arrow_head (codes "p-names") (codes "names-head") (codes "19")
    ++ arrow_head (codes "p-loss") (codes "loss-head") (codes "17"))

-- what a sign means
unfoldable pub meaning : List ℕ → ℕ → ℕ → List ℕ → List ℕ → List ℕ
meaning class x y path text =
    group class (place_text x y)
    (drawn_line (codes "glyph") path ++ words_at (codes "meaning") (codes "translate(22 4)") text)

-- the left half of the legend
unfoldable pub left_meanings : List ℕ
left_meanings =
    meaning (codes "entry") 24 112 circle_path (codes "an entry, with its number")
    ++ meaning (codes "arrow") 24 136 (codes "M-12 0h24") (codes "it names an entry")
    ++ meaning (codes "light") 24 160 (codes "M-9 0a9 9 0 1 0 18 0a9 9 0 1 0 -18 0z")
    (codes "a broken rule names it")
    ++ meaning (codes "gap") 24 184 (codes "M-8 0a8 8 0 1 0 16 0a8 8 0 1 0 -16 0z")
    (codes "a gap: named, and in no log")
    ++ meaning (codes "bar") 24 208 (codes "M-12 0h24") (codes "entries left out")

-- the right half of the legend
unfoldable pub right_meanings : List ℕ
right_meanings =
    meaning (codes "fork") 244 112 (codes "M-12 6v-8h24v8") (codes "a fork")
    ++ meaning (codes "stray") 244 136 (codes "M0 -10L10 0L0 10L-10 0z") (codes "a stray")
    ++ meaning (codes "refused") 244 160 (codes "M-7 -7L7 7M-7 7L7 -7") (codes "a refused record")
    ++ meaning (codes "break") 244 184 (codes "M-4 -10V10M4 -10V10") (codes "a break in a log")
    ++ meaning (codes "ending") 244 208 (codes "M-6 -10L2 -4L-6 2L2 8") (codes "a damaged end")

-- the legend
abbrev pub legend : List ℕ
legend = left_meanings ++ right_meanings
