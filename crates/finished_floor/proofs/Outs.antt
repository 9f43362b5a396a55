-- A new entry is handed to each other machine, in ascending order.
use Rattle.finished_floor.proofs.Handed.{handed_on, none_on, same_on, then_on}
use Rattle.finished_floor.proofs.Imports.{[], actions_left, All, All-pop, ap, arith, cond, IsHanded, IsNumbered, le-leb}
use Rattle.finished_floor.proofs.Imports.{length, length-append, List, nat_le, nat_tests, no_waits, refl, SealedEntry}
use Rattle.finished_floor.proofs.Imports.{Some, subst, SweepsOn, SweptFloor, sym, waits_from, ℕ, ◌&&◌, ◌++◌, ◌+◌, ◌<◌}
use Rattle.finished_floor.proofs.Imports.{◌==◌, ◌∙◌, ◌∷◌, ◌≡◌, ◌≢◌}
use Rattle.finished_floor.proofs.{Left.handed_left, Lists.only_if}

module _ (maker : ℕ) (e : SealedEntry) (to c d : ℕ) where
  -- where it waits from a machine on, it is the first to be handed to that machine
  waits_here : waits_from maker e to c d ≡ only_if ((to == d) && (maker == c)) e ++ waits_from maker e (to + 1) c d
  waits_here = grind (arith, nat_tests)

  -- its maker is passed over
  waits_there : to ≡ maker → c ≢ d → waits_from maker e (to + 1) c d ≡ waits_from maker e to c d
  waits_there own differs = grind (arith, nat_tests)

  -- it doesn't wait for a machine below
  waits_past : d < to → [] ≡ waits_from maker e to c d
  waits_past lt = grind (arith, nat_tests)

-- the machines below `to` were handed their copies
pub record Handing (from count : ℕ) (copies0 : List SealedEntry) (floor0 : SweptFloor) (to : ℕ)
    (copies : List SealedEntry) (floor : SweptFloor) : Type 0 where
  -- there are `count` machines
  pub as_many : length floor.machines.items ≡ count
  -- the maker is one of them
  pub inside : from < count
  -- each has its place as its number
  pub numbered : IsNumbered floor
  -- no action was done since the first was handed its copy
  pub left : actions_left floor.machines.items ≡ actions_left floor0.machines.items
  -- the copies that are left are the maker's
  pub makers : All (λ (x : SealedEntry). x.entry.maker ≡ from) copies
  -- a copy is left for each machine from `to` on but the maker
  pub many : length copies + to + cond (nat_le to from) 1 0 ≡ count
  -- the sweep goes on, with the entry waiting for the machines from `to` on alone
  pub goes_on : (e : SealedEntry) → e.entry.maker ≡ from → All (λ (x : SealedEntry). x ≡ e) copies0 →
      All (λ (x : SealedEntry). x ≡ e) copies × SweepsOn (waits_from from e 0) floor0 (waits_from from e to) floor

module _ (from count : ℕ) (copies0 : List SealedEntry) (floor0 : SweptFloor) where
  -- before the first machine is reached
  pub handing_none : length floor0.machines.items ≡ count → from < count → IsNumbered floor0 →
      All (λ (x : SealedEntry). x.entry.maker ≡ from) copies0 → length copies0 + 1 ≡ length floor0.machines.items →
      Handing from count copies0 floor0 0 copies0 floor0
  handing_none as_many inside numbered makers many = record {
    as_many = as_many;
    inside = inside;
    numbered = numbered;
    left = refl;
    makers = makers;
    many = rw (le-leb 0 from (omega arith)) (omega arith);
    goes_on = λ e maker all. (all, none_on (waits_from from e 0) floor0 numbered);
  }

  module _ (to : ℕ) (copies : List SealedEntry) (floor : SweptFloor)
      (is : Handing from count copies0 floor0 to copies floor) (within : to < count) where
    -- the maker itself is passed over
    pub handing_past : to ≡ from → Handing from count copies0 floor0 (to + 1) copies floor
    handing_past here = record {
      as_many = is.as_many;
      inside = is.inside;
      numbered = is.numbered;
      left = is.left;
      makers = is.makers;
      many = passed to from (length copies) count is.many here;
      goes_on = λ e maker all. let was = is.goes_on e maker all in (
        was.0,
        same_on _ _ _ floor0 floor
            (λ c d lc ld differs. waits_there from e to c d here differs) was.1,
      );
    }
      where
        -- it has no copy
        passed : (to from left count : ℕ) → left + to + cond (nat_le to from) 1 0 ≡ count → to ≡ from →
            left + (to + 1) + cond (nat_le (to + 1) from) 1 0 ≡ count
        passed to from left count many here = grind (arith, nat_tests)

    -- a copy is left for each that wasn't reached
    pub some_left : to ≢ from → 0 < length copies
    some_left differs = by (length copies) is.many is.inside
      where
        -- either the maker is behind, or it is further on
        by : (left : ℕ) → left + to + cond (nat_le to from) 1 0 ≡ count → from < count → 0 < left
        by left many inside = grind (arith, nat_tests)

    module _ (rest : List SealedEntry) (copy : SealedEntry) (split : copies ≡ rest ++ copy ∷ []) where
      -- the next copy is the maker's
      pub copy_maker : copy.entry.maker ≡ from
      copy_maker = (All-pop (λ (x : SealedEntry). x.entry.maker ≡ from) copies rest (Some copy) split is.makers).1

      -- another is handed its copy
      pub handing_more : (new : SweptFloor) → to ≢ from → IsHanded to copy floor new →
          Handing from count copies0 floor0 (to + 1) rest new
      handing_more new differs hands =
          let len : length copies ≡ length rest + 1 = ap length split ∙ length-append rest (copy ∷ []) in
          let there = is.as_many in
          let inside = is.inside in
          let on : SweepsOn (waits_from from copy to) floor (waits_from from copy (to + 1)) new =
          subst (λ m. SweepsOn (waits_from m copy to) floor (waits_from m copy (to + 1)) new) copy_maker (handed_on (waits_from copy.entry.maker copy to)
          (waits_from copy.entry.maker copy (to + 1)) floor new to copy is.numbered
          (let own = copy_maker in omega arith) (omega arith) (λ t. differs (sym t ∙ copy_maker))
          (waits_here copy.entry.maker copy to) hands) in
          record {
            as_many = on.count ∙ is.as_many;
            inside = is.inside;
            numbered = on.numbered;
            left = handed_left to copy floor new hands ∙ is.left;
            makers = (All-pop (λ (x : SealedEntry). x.entry.maker ≡ from) copies rest (Some copy) split is.makers).0;
            many = handed (length rest) (length copies) is.many len;
            goes_on = λ e maker all.
                let was = is.goes_on e maker all in
                let popped = All-pop (λ (x : SealedEntry). x ≡ e) copies rest (Some copy) split was.0 in
                (popped.0, then_on _ _ _ floor0 floor new was.1 (rw popped.1 at on));
          }
        where
          -- one copy fewer is left, for the machines after this one
          handed : (left before : ℕ) → before + to + cond (nat_le to from) 1 0 ≡ count → before ≡ left + 1 →
              left + (to + 1) + cond (nat_le (to + 1) from) 1 0 ≡ count
          handed left before many one = grind (arith, nat_tests)

  -- at the end nothing waits
  pub handing_done : (to : ℕ) (copies : List SealedEntry) (floor : SweptFloor) → to ≡ count →
      Handing from count copies0 floor0 to copies floor → (e : SealedEntry) → e.entry.maker ≡ from →
      All (λ (x : SealedEntry). x ≡ e) copies0 → SweepsOn (waits_from from e 0) floor0 no_waits floor
  handing_done to copies floor end is e maker all =
      same_on _ _ _ floor0 floor
      (λ c d lc ld differs. waits_past from e to c d (let n = is.as_many in omega arith)) (is.goes_on e maker all).1
