-- How tables stand in the page.
use Rattle.std.specs.Prelude.{ℕ, List, [], ◌∷◌, ◌++◌, length, codes, Option, Some, None, slice_get, slice_index_or}
use Rattle.std.specs.List.{flat_map, range_with_len}
use Rattle.std.specs.Fmt.{decimal}
use Rattle.entry_format.specs.SealedEntry.{SealedEntry}
use Rattle.auditor.specs.Report.{AuditReport}
use Rattle.auditor.specs.ReportText.{maker_name}
use Rattle.page_markup.specs.Elements.{attribute, element}
use Rattle.page_markup.specs.Escaping.{escaped}
use Rattle.page_markup.specs.declared.names.Tag.TheVariants as tag
use Rattle.page_markup.specs.declared.names.AttributeName.TheVariants as attribute_name
use Rattle.report_page.specs.declared.cell.Cell.{Cell}
use Rattle.report_page.specs.declared.words.TheConstants.{NOTHING}
use Rattle.report_page.specs.Cells.{TableRow}

-- a paragraph
abbrev pub paragraph : List ℕ → List ℕ
paragraph said = element tag.P [] (escaped said)

-- the name of an entry: its maker's name, a dot, and its number
abbrev pub survivor_name : AuditReport → Option SealedEntry → List ℕ
survivor_name report None = []
survivor_name report (Some sealed) =
    maker_name report.machines sealed.entry.maker ++ codes "." ++ decimal sealed.entry.number

-- a link to the row of the survivor with this number, and a space
abbrev pub link : AuditReport → ℕ → List ℕ
link report place =
    element tag.A (attribute attribute_name.Href (codes "#e" ++ decimal place))
    (escaped (survivor_name report (slice_get report.graph.survivors place))) ++ escaped (codes " ")

-- a cell: its text, and its links
abbrev pub cell_markup : AuditReport → Cell → List ℕ
cell_markup report cell = element tag.Td [] (escaped cell.said ++ flat_map (link report) cell.places)

-- the cells of a row
abbrev pub cells_markup : AuditReport → TableRow → List ℕ
cells_markup report row = flat_map (cell_markup report) row

-- a row
abbrev pub row_markup : AuditReport → TableRow → List ℕ
row_markup report row = element tag.Tr [] (cells_markup report row)

-- a row to which there are links by its number
abbrev pub marked_row : AuditReport → ℕ → TableRow → List ℕ
marked_row report number row =
    element tag.Tr (attribute attribute_name.Id (codes "e" ++ decimal number)) (cells_markup report row)

-- the rows of a table to which there are links by their numbers
abbrev pub marked_rows : AuditReport → List TableRow → List ℕ
marked_rows report rows =
    flat_map (λ number. marked_row report number (slice_index_or rows number [])) (range_with_len 0 (length rows))

-- the title of a column
abbrev pub title_markup : List ℕ → List ℕ
title_markup title = element tag.Th (attribute attribute_name.Scope (codes "col")) (escaped title)

-- the titles of columns
abbrev pub titles_markup : List (List ℕ) → List ℕ
titles_markup titles = flat_map title_markup titles

-- the head of a table
abbrev pub head_markup : List (List ℕ) → List ℕ
head_markup titles = element tag.Thead [] (element tag.Tr [] (titles_markup titles))

-- a table with these rows
abbrev pub table_of : List (List ℕ) → List ℕ → List ℕ
table_of titles rows =
    element tag.Div (attribute attribute_name.Class (codes "wide"))
    (element tag.Table [] (head_markup titles ++ element tag.Tbody [] rows))

-- a table, or that there is nothing in it
abbrev pub table : AuditReport → List (List ℕ) → List TableRow → List ℕ
table report titles [] = paragraph NOTHING.now
table report titles (first ∷ rows) = table_of titles (flat_map (row_markup report) (first ∷ rows))

-- a table to whose rows there are links by their numbers
abbrev pub marked_table : AuditReport → List (List ℕ) → List TableRow → List ℕ
marked_table report titles rows = table_of titles (marked_rows report rows)
