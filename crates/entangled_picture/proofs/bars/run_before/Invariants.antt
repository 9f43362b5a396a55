use Rattle.entangled_picture.proofs.Imports.{◌≡◌, ◌+◌, ◌≤◌, run_before}
use Rattle.entangled_picture.proofs.bars.run_before.Given as goal

-- the run before the place is the run before what is left, and no more were passed than places
abbrev pub invariant-back : goal.invariant-back
invariant-back l = record {
  same : run_before l.placed l.maker l.at l.passed ≡ run_before l.placed l.maker l.place 0;
  few : l.passed + l.at ≤ l.place;
}

abbrev pub decreases-back : goal.decreases-back
decreases-back l = l.at
