-- Tables: rows of cells.
use Rattle.std.specs.Prelude.{ℕ, List, [], map}
use Rattle.std.specs.Borrow.{Bor}
use Rattle.std.specs.Fmt.{decimal}
use Rattle.report_page.specs.declared.cell.Cell.{Cell}

-- the texts of a constant table
abbrev pub texts_in : List (record { now : List ℕ }) → List (List ℕ)
texts_in table = map (λ (text : record { now : List ℕ }). text.now) table

-- the texts of a table that is passed on
abbrev pub passed_texts : List (Bor (List ℕ)) → List (List ℕ)
passed_texts table = map (λ (text : Bor (List ℕ)). text.now) table

-- the cells of a row, from left to right
abbrev pub TableRow : Type 0
TableRow = List Cell

-- a cell with a text, and then links to the rows of survivors
abbrev pub places_cell : List ℕ → List ℕ → Cell
places_cell said places = record { said = said; places = places }

-- a cell with a text
abbrev pub text_cell : List ℕ → Cell
text_cell said = places_cell said []

-- a cell with a number
abbrev pub number_cell : ℕ → Cell
number_cell number = text_cell (decimal number)
