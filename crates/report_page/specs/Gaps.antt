-- The tables of the gaps: who names each, and whose the lost entries could be.
use Rattle.std.specs.Prelude.{ℕ, Bool, false, ◌==◌, ◌&&◌, if◌then◌else◌, List, [], ◌∷◌, length, map, Option, Some, None}
use Rattle.std.specs.Prelude.{slice_get, take}
use Rattle.std.specs.List.{flat_map, list_any, range_with_len}
use Rattle.hex.specs.Hex.{encode_lower}
use Rattle.entry_order.specs.Naming.{names_digest}
use Rattle.entry_format.specs.Nodes.{node_of_sealed}
use Rattle.entry_format.specs.SealedEntry.{SealedEntry}
use Rattle.entry_graph.specs.EntryGraph.{EntryGraph, ragged_of}
use Rattle.log_files.specs.Logs.{LogRead}
use Rattle.auditor.specs.Outcomes.{log_has_finding}
use Rattle.auditor.specs.Report.{AuditReport}
use Rattle.auditor.specs.ReportText.{maker_name}
use Rattle.report_page.specs.declared.words.TheConstants.{LOG_LACKING, LOG_DAMAGED, LOG_SEEMS_WHOLE}
use Rattle.report_page.specs.Cells.{TableRow, text_cell, places_cell}
use Rattle.report_page.specs.Machines.{has_log, seat_of}

-- the place, if this is so
abbrev pub place_if : Bool → ℕ → List ℕ
place_if so place = if so then place ∷ [] else []

-- the survivors that name a gap
abbrev pub ragged_places : EntryGraph SealedEntry → List ℕ
ragged_places graph =
    flat_map (λ place. place_if (ragged_of graph.links place) place) (range_with_len 0 (length graph.survivors))

-- a survivor names the digest
abbrev pub is_namer : List ℕ → Option SealedEntry → Bool
is_namer digest None = false
is_namer digest (Some sealed) = names_digest node_of_sealed sealed digest

-- those of the survivors at these places that name the digest
abbrev pub namers_among : EntryGraph SealedEntry → List ℕ → List ℕ → List ℕ
namers_among graph digest places =
    flat_map (λ place. place_if (is_namer digest (slice_get graph.survivors place)) place) places

-- the survivors that name the gap
abbrev pub namers_of : EntryGraph SealedEntry → List ℕ → List ℕ
namers_of graph digest = namers_among graph digest (ragged_places graph)

-- the row of a gap: its digest, and the survivors that name it
abbrev pub gap_row : EntryGraph SealedEntry → List ℕ → TableRow
gap_row graph digest = text_cell (encode_lower digest) ∷ places_cell [] (namers_of graph digest) ∷ []

-- of how many gaps there are rows
abbrev pub most_listed : ℕ
most_listed = 300

-- a row for each gap, up to this number
abbrev pub gap_rows : AuditReport → List TableRow
gap_rows report = map (gap_row report.graph) (take most_listed report.graph.gaps)

-- a log of this seat is damaged: it has a refused record, an end that isn't clean, or a break
abbrev pub has_damage : ℕ → ℕ → List LogRead → Bool
has_damage machines seat logs =
    list_any (λ (log : LogRead). seat_of machines log.owner == seat && log_has_finding log) logs

-- why a lost entry could be that of the machine at a seat: it has no log here, or a damaged one, or
-- one that looks complete and may be cut all the same
abbrev pub lost_how : ℕ → List LogRead → ℕ → List ℕ
lost_how machines logs seat =
    if has_damage machines seat logs then LOG_DAMAGED.now
    else if has_log machines seat logs then LOG_SEEMS_WHOLE.now else LOG_LACKING.now

-- the row of a machine that a lost entry could be from
abbrev pub maker_row : AuditReport → ℕ → TableRow
maker_row report seat =
    text_cell (maker_name report.machines seat) ∷ text_cell (lost_how (length report.machines) report.logs seat) ∷ []

-- a row for each machine, in the order of the roster
abbrev pub maker_rows : AuditReport → List TableRow
maker_rows report = map (maker_row report) (range_with_len 0 (length report.machines))
