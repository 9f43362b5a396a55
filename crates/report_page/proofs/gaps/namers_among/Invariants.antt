use Rattle.report_page.proofs.Imports.{◌≡◌, take}
use Rattle.report_page.specs.Gaps.{namers_among}
use Rattle.report_page.proofs.gaps.namers_among.Given as goal

-- those of the places so far
abbrev pub invariant-loop-place : goal.invariant-loop-place
invariant-loop-place l = l.namers.items ≡ namers_among l.graph l.digest (take l.place-index l.places)
