use Rattle.entangled_picture.proofs.Imports.{◌≡◌, ◌≤◌, ◌++◌, [], take, drop, zip, placed_after}
use Rattle.entangled_picture.proofs.placed.all_placed.Given as goal

-- the spots so far, and those of the rest after them
abbrev pub invariant-loop-i : goal.invariant-loop-i
invariant-loop-i l = record {
  so_far : placed_after [] 0 0 (zip l.seen l.drawn)
      ≡ l.placed.items ++ placed_after (take l.i l.seen) l.column l.stamp (zip (drop l.i l.seen) (drop l.i l.drawn));
  few : l.column ≤ l.i;
}
