-- Numbers of the entries that a machine sent.
use Rattle.finished_floor.proofs.Imports.{node_of_sealed, SealedEntry, nth_split, IsLegal, sent, Event, Sent, List}
use Rattle.finished_floor.proofs.Imports.{Some, arith, length, refl, sym, ℕ, slice_get-get_or, AllPairs, Contains}
use Rattle.finished_floor.proofs.Imports.{slice_get, slice_get_read, ◌<◌, ◌∙◌, ◌≡◌}

module _ (owner : ℕ) (h : List (Event SealedEntry)) (legal : IsLegal node_of_sealed owner h) where
  -- the number of an entry is its place among those that its machine sent
  pub number_at : (i : ℕ) (e : SealedEntry) → slice_get (sent h) i ≡ Some e →
      (e.entry.number ≡ i) × (e.entry.maker ≡ owner)
  number_at i e is =
      let (front, back, parts, count) = nth_split h i e is in
      let next = (legal front (Sent e) back parts).1 in
      (next.number ∙ count, next.maker)

  -- each entry that a machine sent has a number below how many it sent
  pub numbers_below : (x : SealedEntry) → Contains (sent h) x →
      (x.entry.number < length (sent h)) × (x.entry.maker ≡ owner)
  numbers_below x (k, lt, at) =
      let (number, maker) = number_at k x (slice_get_read (sent h) (length (sent h)) k x refl lt (sym at)) in
      (omega arith, maker)

  -- the numbers of what a machine sent rise
  pub rising_sent : AllPairs (λ (x y : SealedEntry). x.entry.number < y.entry.number) (sent h)
  rising_sent i j d lt within =
      let a = number_at i _ (slice_get-get_or (sent h) i d (omega arith)) in
      let b = number_at j _ (slice_get-get_or (sent h) j d within) in
      omega (arith, a.0, b.0)
