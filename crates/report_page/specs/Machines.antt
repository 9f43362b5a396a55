-- The table of the machines: which logs were given for each, and how they are.
use Rattle.std.specs.Prelude.{ℕ, ◌==◌, ◌&&◌, nat_lt, not, Bool, if◌then◌else◌, List, [], ◌∷◌, ◌++◌, length, codes}
use Rattle.std.specs.Prelude.{Option, Some, None, slice_get}
use Rattle.std.specs.List.{flat_map, list_any, range_with_len, zip}
use Rattle.std.specs.Fmt.{decimal}
use Rattle.canonical_sexp.specs.Causes.{why_word}
use Rattle.roster.specs.declared.post.Post.{Post}
use Rattle.roster.specs.RosterText.{role_word}
use Rattle.log_files.specs.declared.plain_log.End.{End}
use Rattle.log_files.specs.declared.plain_log.End.TheVariants.{Clean, Torn, Malformed}
use Rattle.log_files.specs.Logs.{LogRead}
use Rattle.auditor.specs.Report.{AuditReport}
use Rattle.report_page.specs.declared.words.TheConstants.{UNLISTED, NO_LOG, WHOLE, UNBROKEN}
use Rattle.report_page.specs.Cells.{TableRow, text_cell, number_cell}

-- an owner's place in a roster of this many machines, or this number where the roster lacks it
abbrev pub seat_of : ℕ → ℕ → ℕ
seat_of machines owner = if nat_lt owner machines then owner else machines

-- one of the logs has this seat
abbrev pub has_log : ℕ → ℕ → List LogRead → Bool
has_log machines seat logs = list_any (λ (log : LogRead). seat_of machines log.owner == seat) logs

-- how a log's file ends, in words
abbrev pub end_words : End → List ℕ
end_words Clean = WHOLE.now
end_words (Torn at) = codes "torn at byte " ++ decimal at
end_words (Malformed at why) = codes "malformed at byte " ++ decimal at ++ codes ": " ++ why_word why

-- where a log's kept records stop being a legal history of its owner, in words
abbrev pub order_words : Option ℕ → List ℕ
order_words None = UNBROKEN.now
order_words (Some place) = codes "broken at record " ++ decimal place

-- a machine's name and its role
abbrev pub owner_cells : Option Post → TableRow
owner_cells None = text_cell UNLISTED.now ∷ text_cell [] ∷ []
owner_cells (Some post) = text_cell post.name ∷ text_cell (role_word post.role) ∷ []

-- a log: its file, how many of its records are kept and refused, its end, and its break
abbrev pub log_cells : List ℕ × LogRead → TableRow
log_cells named =
    text_cell named.0 ∷ number_cell (length named.1.kept) ∷ number_cell (length named.1.refused)
    ∷ text_cell (end_words named.1.end) ∷ text_cell (order_words named.1.broke) ∷ []

-- the row of a log that has this seat
abbrev pub log_row : List Post → ℕ → List ℕ × LogRead → List TableRow
log_row machines seat named =
    if seat_of (length machines) named.1.owner == seat
    then (owner_cells (slice_get machines seat) ++ log_cells named) ∷ [] else []

-- the rows of the logs that have this seat
abbrev pub rows_of_logs : List Post → ℕ → List (List ℕ × LogRead) → List TableRow
rows_of_logs machines seat logs = flat_map (log_row machines seat) logs

-- the row of a machine without a log: it says that none was given
abbrev pub absent_rows : List Post → ℕ → List LogRead → List TableRow
absent_rows machines seat logs =
    if nat_lt seat (length machines) && not (has_log (length machines) seat logs)
    then (owner_cells (slice_get machines seat) ++ text_cell NO_LOG.now ∷ []) ∷ [] else []

-- the rows of a seat: one for each of its logs, or one that says that there is none
abbrev pub rows_of_seat : AuditReport → ℕ → List TableRow
rows_of_seat report seat =
    rows_of_logs report.machines seat (zip report.files report.logs) ++ absent_rows report.machines seat report.logs

-- the rows of each machine in the roster's order, and then those of logs whose owner it lacks
abbrev pub machine_rows : AuditReport → List TableRow
machine_rows report =
    flat_map (rows_of_seat report) (range_with_len 0 (length report.machines))
    ++ rows_of_seat report (length report.machines)
