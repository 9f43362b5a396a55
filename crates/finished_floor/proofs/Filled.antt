-- Lists that are filled up, and lists place by place.
use Rattle.finished_floor.proofs.Imports.{SealedEntry, one_at, Event, IsBy, pass_of, IsBegunBy, set_cases, set_get}
use Rattle.finished_floor.proofs.Imports.{MachineState, List, None, Option, Some, [], ap, arith, inl, inr, length}
use Rattle.finished_floor.proofs.Imports.{length-append, map, refl, replicate, suc, sym, zero, ℕ, cases_eq, length-map}
use Rattle.finished_floor.proofs.Imports.{replicate-append-replicate, slice_get_within, AllZip, slice_get, slice_set}
use Rattle.finished_floor.proofs.Imports.{◌++◌, ◌+◌, ◌-◌, ◌<◌, ◌∙◌, ◌∷◌, ◌≡◌, ◌≢◌, ◌≤◌}
use Rattle.std.proofs.lemmas.List.{append_assoc}
use Rattle.finished_floor.proofs.Places.{length_set}

-- one more is added
pub filled_more : {X : Type 0} (row : List X) (x : X) (now more : List X) (at : ℕ) → length row ≤ at →
    now ≡ row ++ replicate (at - length row) x → more ≡ now ++ x ∷ [] → more ≡ row ++ replicate (at + 1 - length row) x
filled_more row x now more at low is pushed =
    let next : at + 1 - length row ≡ (at - length row) + 1 = omega arith in
    rw (pushed, is, append_assoc, next, ← replicate-append-replicate (at - length row) 1 x)

module _ {A B C : Type 0} (R : A → C → Type 0) (f : B → C) where
  -- what holds place by place holds at each place
  pub zip_at : (xs : List A) (ys : List B) → AllZip R xs (map f ys) → (k : ℕ) (x : A) (y : B) →
      slice_get xs k ≡ Some x → slice_get ys k ≡ Some y → R x (f y)
  zip_at [] [] all k x y is there = cc
  zip_at [] (v ∷ ys) all k x y is there = cc
  zip_at (u ∷ xs) [] all k x y is there = cc
  zip_at (u ∷ xs) (v ∷ ys) all zero x y is there =
      let a : u ≡ x = cc in let b : v ≡ y = cc in rw (a, b) at all.0
  zip_at (u ∷ xs) (v ∷ ys) all (suc k) x y is there = zip_at xs ys all.1 k x y is there

  -- there are as many
  pub zip_many : (xs : List A) (ys : List B) → AllZip R xs (map f ys) → length ys ≡ length xs
  zip_many [] [] all = refl
  zip_many [] (v ∷ ys) all = absurd all
  zip_many (u ∷ xs) [] all = absurd all
  zip_many (u ∷ xs) (v ∷ ys) all = ap suc (zip_many xs ys all.1)

  -- two lists are paired by a relation if it holds at each place
  pub zip_from : (xs : List A) (ys : List B) → length ys ≡ length xs →
      ((k : ℕ) (x : A) (y : B) → slice_get xs k ≡ Some x → slice_get ys k ≡ Some y → R x (f y)) →
      AllZip R xs (map f ys)
  zip_from [] [] many each = tt
  zip_from [] (v ∷ ys) many each = cc
  zip_from (u ∷ xs) [] many each = cc
  zip_from (u ∷ xs) (v ∷ ys) many each = (
    each zero u v refl refl,
    zip_from xs ys (omega arith) (λ k x y is there. each (suc k) x y is there),
  )

-- the workers that are reported did no more events than there are, and none did the rest
pub begun_few : (events : List (Event SealedEntry)) (row : List (Option ℕ)) → IsBegunBy events row →
    (length row ≤ length events) × IsBy events (row ++ replicate (length events - length row) None)
begun_few events row (first, later, whole, row_is) =
    let all = ap length whole ∙ length-append first later in
    let told = ap length row_is ∙ length-map first (λ x. Some (pass_of x)) in
    let rest : length events - length row ≡ length later = omega arith in
    (omega arith, (first, later, whole, rw (rest, row_is)))

module _ {B : Type 0} (f : B → List (Option ℕ)) (ms : List MachineState) where
  -- the lists of the machines below `at` are filled up
  pub record Filling (at : ℕ) (by : List B) : Type 0 where
    -- there is a list for each machine
    pub many : length by ≡ length ms
    -- those below `at` report of each event who did it, or that no worker did
    pub done : (k : ℕ) (m : MachineState) (row : B) → slice_get ms k ≡ Some m → slice_get by k ≡ Some row → k < at →
        IsBy m.events (f row)
    -- the others report who did the first events
    pub rest : (k : ℕ) (m : MachineState) (row : B) → slice_get ms k ≡ Some m → slice_get by k ≡ Some row → at ≤ k →
        IsBegunBy m.events (f row)

  -- before the first list is filled up
  pub filling_none : (by : List B) → AllZip (λ m row. IsBegunBy m.events row) ms (map f by) → Filling 0 by
  filling_none by all = record {
    many = zip_many (λ (m : MachineState) row. IsBegunBy m.events row) f ms by all;
    done = λ k m row is there lt. absurd (omega arith);
    rest = λ k m row is there le.
        zip_at (λ (m : MachineState) row. IsBegunBy m.events row) f ms by all k m row is there;
  }

  -- one list more
  pub filling_more : (at : ℕ) (by : List B) (m : MachineState) (row new : B) → Filling at by →
      slice_get ms at ≡ Some m → slice_get by at ≡ Some row →
      f new ≡ f row ++ replicate (length m.events - length (f row)) None → Filling (at + 1) (slice_set by at new)
  filling_more at by m row new filling stood there is = record {
    many = length_set by at new ∙ filling.many;
    done = λ k u z here has lt.
        elim (cases_eq k at) [
          | inl s ↦ (let a : m ≡ u = one_at ms at m u stood (rw (← s) here) in
              let b : new ≡ z = one_at _ at new z (set_get by at row new there)
              (ap (slice_get (slice_set by at new)) (sym s) ∙ has) in
              rw (← is, a, b) at (begun_few m.events (f row) (filling.rest at m row stood there (omega arith))).1)
          | inr differs ↦ filling.done k u z here (others k z differs has) (omega arith)
        ];
    rest = λ k u z here has le.
        filling.rest k u z here (others k z (λ s. absurd (omega arith)) has) (omega arith);
  }
    where
      -- the list at another place is as it was
      others : (k : ℕ) (z : B) → k ≢ at → slice_get (slice_set by at new) k ≡ Some z → slice_get by k ≡ Some z
      others k z differs has =
          elim (set_cases by at k row new z there has) [ inl s ↦ absurd (differs s.0) | inr s ↦ s ]

  -- all are
  pub filling_all : (at : ℕ) (by : List B) → Filling at by → length ms ≤ at →
      AllZip (λ m row. IsBy m.events row) ms (map f by)
  filling_all at by filling past =
      zip_from (λ (m : MachineState) row. IsBy m.events row) f ms by filling.many
      (λ k m row is there. let lt = slice_get_within ms k m is in filling.done k m row is there (omega arith))
