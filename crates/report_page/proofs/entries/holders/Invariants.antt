use Rattle.report_page.proofs.Imports.{◌≡◌, string_bytes, flat_map, range_with_len, slice_get}
use Rattle.report_page.specs.Entries.{holder}
use Rattle.report_page.proofs.entries.holders.Given as goal

-- the numbers so far
abbrev pub invariant-loop-place : goal.invariant-loop-place
invariant-loop-place l =
    string_bytes l.text ≡ flat_map (λ place. holder l.digest place (slice_get l.logs place)) (range_with_len 0 l.place)
