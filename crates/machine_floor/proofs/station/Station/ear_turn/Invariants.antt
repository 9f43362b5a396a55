use Rattle.machine_floor.proofs.station.Station.ear_turn.Given as goal
use Rattle.machine_floor.proofs.{Imports.HasLooked, Imports.made_of, Imports.◌≡◌, Imports.◌≤◌, Ticks.HasGrown}

abbrev pub invariant-loop-from : goal.invariant-loop-from
invariant-loop-from g l = record {
  made : made_of l.self ≡ made_of l.fn.self;
  grown : HasGrown 1 l.fn.self.ticks l.self.ticks;
  few : l.heard ≤ l.from;
  looked : HasLooked l.own l.from l.fn.self l.self l.heard;
}
