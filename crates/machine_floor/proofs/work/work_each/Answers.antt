use Rattle.machine_floor.proofs.Imports.{◌≡◌, ℕ, suc, ◌+◌, ◌<◌, List, refl, ap, ◌∙◌, arith, get_or, StationState}
use Rattle.machine_floor.proofs.Imports.{made_of, Ok, add-zero, below_more, vec_items, vec_len, into_iter_items}
use Rattle.machine_floor.proofs.Imports.{into_iter_len}
use Rattle.machine_floor.proofs.work.work_each.Goals as goal

-- the station that comes out was first among the rest
pub loop-station-preserved : goal.loop-station-preserved
loop-station-preserved g c =
    let (count, left, made) = c.loop-station.invariant in
    let s = c.in-Some.ensures.steps in
    let p = c.in_ok-push.ensures in
    let done = vec_len c.loop-station.after in
    let stations : List StationState = c.args.stations.items in
    let station : StationState = c.in_ok-station.field-0 in
    let some : 0 < into_iter_len c.loop-station.station-iterator = omega arith in
    let read : get_or (into_iter_items c.loop-station.station-iterator) 0 c.in-Some.station ≡ Ok station =
    ap (λ l. get_or l 0 c.in-Some.station) s.0 ∙ c.in_ok-station.was in
    let here : (e : StationState) → made_of station ≡ made_of (get_or stations done e) =
    λ e. left 0 c.in-Some.station station some read e ∙ ap (λ n. made_of (get_or stations n e)) (add-zero done) in
    let grown : vec_len c.push.new.self ≡ done + 1 = p.len in (
      omega (arith, count),
      (λ k d t below is e.
          let at : done + suc k ≡ vec_len c.push.new.self + k = omega arith in
          left (suc k) d t (omega arith) (ap (λ l. get_or l (suc k) d) s.0 ∙ is) e
          ∙ ap (λ n. made_of (get_or stations n e)) at),
      λ k d e below.
          below_more (λ (i : ℕ). (d e : StationState) →
          made_of (get_or (vec_items c.push.new.self) i d) ≡ made_of (get_or stations i e)) done
          (λ i low d e. ap made_of (p.by_index.0 i d low) ∙ made i d e low)
          (λ d e. ap made_of (p.by_index.1 d refl) ∙ here e) k (omega arith) d e,
    )
