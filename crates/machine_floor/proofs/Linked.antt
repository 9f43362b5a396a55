-- The links of a station, as it was made, are those of it as it is.
use Rattle.machine_floor.proofs.Imports.{[], ap, arith, get_or, get_or-map, HaveCapacity, InView, IsInOf, IsOfLinks}
use Rattle.machine_floor.proofs.Imports.{IsOutOf, IsRowOf, length, length-map, link_at, LinkView, List, made_of, map}
use Rattle.machine_floor.proofs.Imports.{new_in, new_out, OutView, SealedEntry, StationState, sym, ℕ, ◌<◌, ◌∙◌, ◌≡◌}

-- a station that is made as another has as many ends that take
pub same_inns : (first s : StationState) → made_of s ≡ made_of first → length s.inns ≡ length first.inns
same_inns first s made =
    sym (length-map s.inns new_in) ∙ ap (λ (x : StationState). length x.inns) made ∙ length-map first.inns new_in

-- and as many that put
pub same_outs : (first s : StationState) → made_of s ≡ made_of first → length s.outs ≡ length first.outs
same_outs first s made =
    sym (length-map s.outs new_out) ∙ ap (λ (x : StationState). length x.outs) made ∙ length-map first.outs new_out

module _ (links : List (List LinkView)) (s : StationState) (of : IsOfLinks links (made_of s)) where
  -- as it was made, the station has as many ends that put
  outs_len : length (map new_out s.outs) ≡ length s.outs
  outs_len = length-map s.outs new_out

  -- there is a row of links for each end that puts
  pub rows_are : length links ≡ length s.outs
  rows_are = of.rows ∙ outs_len

  -- each row of links has as many links as the station has ends
  pub row_is : (from : ℕ) → from < length s.outs → length (get_or links from []) ≡ length s.outs
  row_is from lt = of.square from (omega (arith, outs_len)) ∙ outs_len

  -- each end that puts is that of the link from this machine to the receiver
  pub ends_out : (to : ℕ) (l : LinkView) (d : OutView SealedEntry) → to < length s.outs →
      IsOutOf (link_at links s.machine.config.number to l) (get_or s.outs to d)
  ends_out to l d lt =
      let h = of.outs to l (new_out d) (omega (arith, outs_len)) in
      rw (get_or-map new_out s.outs to d (new_out d) lt) at h

  -- each end that takes is that of the link from the sender to this machine
  pub ends_in : (from : ℕ) (l : LinkView) (d : InView SealedEntry) → from < length s.inns →
      IsInOf (link_at links from s.machine.config.number l) (get_or s.inns from d)
  ends_in from l d lt =
      let h = of.inns from l (new_in d) (omega (arith, length-map s.inns new_in)) in
      rw (get_or-map new_in s.inns from d (new_in d) lt) at h

  -- each link of a row carries the entries of the machine at the row's place
  pub from_is : (from to : ℕ) (l : LinkView) → from < length s.outs → to < length s.outs →
      (link_at links from to l).from ≡ from
  from_is from to l a b = of.from from to l (omega (arith, outs_len)) (omega (arith, outs_len))

  -- the ends out are those of the machine's row
  pub row_of : s.machine.config.number < length s.outs → IsRowOf links s.machine.config.number s.outs
  row_of place = record {
    rows = omega (arith, rows_are);
    row = row_is s.machine.config.number place;
    ends = ends_out;
    from = λ to d lt. let l : LinkView = record { queue = d.queue; from = 0; capacity = 0 } in
        (ends_out to l d lt).1 ∙ from_is s.machine.config.number to l place lt;
  }

  -- which hold at most as many as the script says
  pub capacity_is : HaveCapacity links s.machine.config.number (length s.outs) s.link
  capacity_is to l lt = of.capacity to l (omega (arith, outs_len))
