-- The table of the entries that survive.
use Rattle.std.specs.Prelude.{ℕ, Bool, ◌+◌, if◌then◌else◌, List, [], ◌∷◌, ◌++◌, length, map, codes}
use Rattle.std.specs.Prelude.{Option, Some, None, slice_get}
use Rattle.std.specs.List.{flat_map, list_any, range_with_len}
use Rattle.std.specs.Fmt.{decimal}
use Rattle.std.specs.Str.{bytes_eq}
use Rattle.hex.specs.Hex.{encode_lower}
use Rattle.entry_format.specs.declared.deed.Deed.{Deed}
use Rattle.entry_format.specs.declared.deed.Deed.TheVariants as deed
use Rattle.entry_format.specs.EntryText.{deed_word}
use Rattle.entry_format.specs.SealedEntry.{SealedEntry}
use Rattle.entry_graph.specs.EntryGraph.{EntryGraph, parents_of, ragged_of}
use Rattle.log_files.specs.declared.sealed_log.Kept.{Kept}
use Rattle.log_files.specs.Logs.{LogRead}
use Rattle.auditor.specs.Report.{AuditReport}
use Rattle.auditor.specs.ReportText.{maker_name}
use Rattle.survivor_rows.specs.Rows.{session_of}
use Rattle.report_page.specs.declared.words.TheConstants.{A_LOST_ONE}
use Rattle.report_page.specs.Cells.{TableRow, text_cell, number_cell, places_cell}

-- a deed's session; there is none of an opening and a closing
abbrev pub session_words : Deed → List ℕ
session_words deed.Opened = []
session_words deed.Closed = []
session_words other = decimal (session_of other)

-- a record of the log has the digest
abbrev pub is_in_log : List ℕ → LogRead → Bool
is_in_log digest log = list_any (λ (kept : Kept). bytes_eq kept.entry.digest digest) log.kept

-- the number of the log at a place, from 1, if this is so
abbrev pub number_if : Bool → ℕ → List ℕ
number_if so place = if so then decimal (place + 1) ++ codes " " else []

-- the number of the log, from 1, if it has the digest
abbrev pub holder : List ℕ → ℕ → Option LogRead → List ℕ
holder digest place None = []
holder digest place (Some log) = number_if (is_in_log digest log) place

-- the numbers of the logs that have the digest
abbrev pub holders : List LogRead → List ℕ → List ℕ
holders logs digest = flat_map (λ place. holder digest place (slice_get logs place)) (range_with_len 0 (length logs))

-- that a survivor names a lost entry
abbrev pub lost_words : Bool → List ℕ
lost_words ragged = if ragged then A_LOST_ONE.now else []

-- what an entry says: its maker, number, stamp, deed and session
abbrev pub said_cells : AuditReport → SealedEntry → TableRow
said_cells report sealed =
    text_cell (maker_name report.machines sealed.entry.maker) ∷ number_cell sealed.entry.number
    ∷ number_cell sealed.entry.stamp ∷ text_cell (deed_word sealed.entry.deed)
    ∷ text_cell (session_words sealed.entry.deed) ∷ []

-- its digest, and the logs that have it
abbrev pub held_cells : AuditReport → SealedEntry → TableRow
held_cells report sealed =
    text_cell (encode_lower sealed.digest) ∷ text_cell (holders report.logs sealed.digest) ∷ []

-- the other survivors that it names, and whether it names a lost entry
abbrev pub name_cells : EntryGraph SealedEntry → ℕ → TableRow
name_cells graph place = places_cell (lost_words (ragged_of graph.links place)) (parents_of graph.links place) ∷ []

-- the row of a survivor
abbrev pub entry_row : AuditReport → ℕ → Option SealedEntry → TableRow
entry_row report place None = []
entry_row report place (Some sealed) =
    said_cells report sealed ++ held_cells report sealed ++ name_cells report.graph place

-- the row of the survivor at a place
abbrev pub survivor_row : AuditReport → ℕ → TableRow
survivor_row report place = entry_row report place (slice_get report.graph.survivors place)

-- a row for each survivor, by their numbers
abbrev pub entry_rows : AuditReport → List TableRow
entry_rows report = map (survivor_row report) (range_with_len 0 (length report.graph.survivors))
