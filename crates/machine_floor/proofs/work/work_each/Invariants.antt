use Rattle.machine_floor.proofs.Imports.{◌≡◌, ℕ, ◌+◌, ◌<◌, get_or, StationState, made_of, Ok, vec_items, vec_len}
use Rattle.machine_floor.proofs.Imports.{into_iter_items, into_iter_len}
use Rattle.machine_floor.proofs.work.work_each.Given as goal

-- those that came out already are as they were made, and the rest, where they come out
abbrev pub invariant-loop-station : goal.invariant-loop-station
invariant-loop-station g l =
    let done = vec_len l.after in let rest = l.station-iterator in
    (done + into_iter_len rest ≡ vec_len l.fn.stations)
    × ((k : ℕ) (d : _) (s : StationState) → k < into_iter_len rest → get_or (into_iter_items rest) k d ≡ Ok s →
    (e : StationState) → made_of s ≡ made_of (get_or l.fn.stations.items (done + k) e))
    × ((k : ℕ) (d e : StationState) → k < done →
    made_of (get_or (vec_items l.after) k d) ≡ made_of (get_or l.fn.stations.items k e))
