use Rattle.report_page.proofs.Imports.{◌≡◌, flat_map, range_with_len}
use Rattle.entry_graph.specs.EntryGraph.{ragged_of}
use Rattle.report_page.specs.Gaps.{place_if}
use Rattle.report_page.proofs.gaps.ragged_places.Given as goal

-- the places so far
abbrev pub invariant-loop-place : goal.invariant-loop-place
invariant-loop-place l =
    l.places.items ≡ flat_map (λ place. place_if (ragged_of l.graph.links place) place) (range_with_len 0 l.place)
