use Rattle.survivor_rows.proofs.Imports.{◌≡◌, ◌≤◌, map, take, vec_capacity, row_of}
use Rattle.survivor_rows.proofs.row.rows.Given as goal

-- the rows of the survivors so far, and room for the rest
abbrev pub invariant-loop-i : goal.invariant-loop-i
invariant-loop-i g l = record {
  rows : l.rows.items ≡ map (λ e. row_of l.roster.machines (g.T.ShowsSealed.sealed e)) (take l.i l.graph.survivors);
  room : l.count ≤ vec_capacity l.rows;
}
