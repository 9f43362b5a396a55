use Rattle.report_page.proofs.Imports.{◌≡◌, [], flat_map, range_with_len, slice_index_or, report_of}
use Rattle.report_page.specs.Tables.{marked_row}
use Rattle.report_page.proofs.tables.marked_rows_of.Given as goal

-- the rows so far
abbrev pub invariant-loop-number : goal.invariant-loop-number
invariant-loop-number l =
    l.out
    ≡ flat_map (λ number. marked_row (report_of l.report) number (slice_index_or l.rows number []))
    (range_with_len 0 l.number)
