-- The stations of a script after they were worked.
use Rattle.machine_floor.proofs.Imports.{◌≡◌, ℕ, ◌<◌, List, length, map, sym, ap, ◌∙◌, subst, arith, get_or, LinkView}
use Rattle.machine_floor.proofs.Imports.{Script, AreNewStations, IsNewStation, StationState, made_of, get-map_from}
use Rattle.machine_floor.proofs.Imports.{length-map, get_or_from_slice_get, slice_get-get_or, slice_get_within}

-- they are still made as the script's new ones
pub still_made : (script : Script) (links : List (List LinkView)) (before after : List StationState) →
    AreNewStations script links before → length after ≡ length before →
    ((i : ℕ) (d : StationState) → i < length before → made_of (get_or after i d) ≡ made_of (get_or before i d)) →
    AreNewStations script links (map made_of after)
still_made script links before after new count same = record {
  count = length-map after made_of ∙ count ∙ new.count;
  rows = new.rows ∙ sym count ∙ sym (length-map after made_of);
  each = λ at s stands.
      let (u, stands_u, is_made) = get-map_from made_of after at s stands in
      let inside : at < length before = (let w = slice_get_within after at u stands_u in omega arith) in
      let one = new.each at (get_or before at u) (slice_get-get_or before at u inside) in
      let is : get_or before at u ≡ s =
      sym one.fresh ∙ sym (same at u inside) ∙ ap made_of (get_or_from_slice_get after at u u stands_u) ∙ is_made in
      subst (IsNewStation script links at) is one;
}
