use Rattle.report_page.proofs.Imports.{◌≡◌, ◌++◌, take, flat_map, report_of}
use Rattle.report_page.specs.Tables.{link}
use Rattle.report_page.proofs.tables.add_links.Given as goal

-- the links so far
abbrev pub invariant-loop-place : goal.invariant-loop-place
invariant-loop-place l = l.out ≡ l.fn.out ++ flat_map (link (report_of l.report)) (take l.place-index l.places)
