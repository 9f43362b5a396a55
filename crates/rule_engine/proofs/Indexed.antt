-- Rows in the order of their numbers, and the places that a quantifier has to visit by them.
use Rattle.rule_engine.proofs.Imports
use Imports.{[], ap, AreKindsOf, ArePlacesOf, ArePlacesOfKind, arith, as_three, bind, Bool, breadth, bytes_eq-Decides}
use Imports.{cases_Bool, cases_eq, cases_lt, Contains, Contains-append_left, Contains-get_or, Contains-none}
use Imports.{Contains-permutation, Contains-push, Contains-push_cases, drop, entry_kinds, Formula, Found, found_at}
use Imports.{get_or, get_or-drop, get_or-map, get_or-set_other, get_or-set_same, get_or-take, Global, group_in}
use Imports.{has_kind, Index, inl, inr, is_kind, IsEachEmpty, IsIndexBy, IsNonDecreasing, IsNonDecreasingBy}
use Imports.{IsPermutation, IsPermutation-sym, IsStart, IsVisitedFor, Key, Kind, kind_named, kind_word, Kinds, least_of}
use Imports.{length, length-drop, length-map, length-set, length-take-le, List, map, not, number_in, Option, other_at}
use Imports.{Quantifier, rank, refl, Row, same_Some, set, settled_at, slice_get, slice_get-get_or, slice_get_within}
use Imports.{Some, subst, sym, take, Three, true, value_of, Vec, ℕ, ◌++◌, ◌+◌, ◌-◌, ◌<◌, ◌∙◌, ◌∷◌, ◌≡◌, ◌≢◌, ◌≤◌}
use Rattle.rule_language.specs.declared.kind.Kind.TheVariants as kinds

-- a rank is below 11
rank_below : (k : Kind) → rank k < 11
rank_below kinds.Any = omega arith
rank_below k = omega arith

-- the first rows are listed with their numbers, and nothing else is
pub record AreListed (rows : List Row) (by : Key) (n : ℕ) (found : List Found) : Type 0 where
  pub each : (j : ℕ) (row : Row) → j < n → slice_get rows j ≡ Some row → Contains found (found_at by row j)
  pub only : (it : Found) → Contains found it →
      (row : Row) × (slice_get rows it.place ≡ Some row) × (it.number ≡ number_in by row)

-- numbers that don't fall along what is listed don't fall
numbers_rise : (found : List Found) → IsNonDecreasingBy (λ (it : Found). it.number) found →
    IsNonDecreasing (map (λ (it : Found). it.number) found)
numbers_rise found rises i j d low high =
    let e : Found = record { number = d; place = 0 } in
    let inside : j < length found = omega (arith, high, length-map found (λ (it : Found). it.number)) in
    omega (
      arith,
      get_or-map (λ (it : Found). it.number) found i e d (omega (arith, low, inside)),
      get_or-map (λ (it : Found). it.number) found j e d inside,
      rises i j e low inside,
    )

-- in the order of the numbers they are an index
pub index_from : (rows : List Row) (by : Key) (n : ℕ) (found sorted : List Found) (index : Index) →
    length rows ≤ n → AreListed rows by n found → IsPermutation found sorted →
    IsNonDecreasingBy (λ (it : Found). it.number) sorted →
    index.numbers.items ≡ map (λ (it : Found). it.number) sorted →
    index.places.items ≡ map (λ (it : Found). it.place) sorted → IsIndexBy rows by index
index_from rows by n found sorted index all listed moved rises numbers places = record {
  found = sorted;
  listed = record {
    each = λ j row at. Contains-permutation found sorted (found_at by row j) moved
        (listed.each j row (omega (arith, all, slice_get_within rows j row at)) at);
    only = λ it there. listed.only it (Contains-permutation sorted found it
        (IsPermutation-sym found sorted moved) there);
  };
  numbers = numbers;
  places = places;
  ordered = record {
    as_many = ap length places ∙ length-map sorted (λ (it : Found). it.place)
        ∙ sym (ap length numbers ∙ length-map sorted (λ (it : Found). it.number));
    rises = subst IsNonDecreasing (sym numbers) (numbers_rise sorted rises);
  };
}

-- where the greater of two numbers starts isn't before where the lesser does
pub starts_rise : {numbers : List ℕ} {l h low high : ℕ} → IsStart numbers l low → IsStart numbers h high → l ≤ h →
    low ≤ high
starts_rise {low} {high} first second rise = elim (cases_lt high low) [
  | inl less ↦
      absurd (omega (
        arith,
        rise,
        first.below high 0 (omega arith) less,
        second.from high 0 (omega arith) (omega (arith, less, first.within)),
      ))
  | inr more ↦ more
]

-- what is between two starts are the rows with the numbers between
pub between_starts : (rows : List Row) (by : Key) (index : Index) (l h low high : ℕ) → IsIndexBy rows by index →
    IsStart index.numbers.items l low → IsStart index.numbers.items h high →
    ArePlacesOf rows by l h (take (high - low) (drop low index.places.items))
between_starts rows by index l h low high indexed first second = record {
  each = λ j row stands least most.
      let (k, within, is) = indexed.listed.each j row stands in
      let number = stored (λ o. o.number) index.numbers.items indexed.numbers k (found_at by row j) (number_in by row)
      within ∙ ap (λ (o : Found). o.number) is in
      let place = stored (λ o. o.place) index.places.items indexed.places k (found_at by row j) j within
      ∙ ap (λ (o : Found). o.place) is in
      elim (cases_lt k low) [
        | inl before ↦ absurd (omega (arith, least, number, first.below k (number_in by row) (omega arith) before))
        | inr from ↦ elim (cases_lt k high) [
          | inl inner ↦
              let again : low + (k - low) ≡ k = omega (arith, from) in (
                k - low,
                omega (arith, many, from, inner),
                same (k - low) j (omega (arith, from, inner))
                    ∙ ap (λ (n : ℕ). get_or index.places.items n j) again ∙ place,
              )
          | inr over ↦ absurd (omega (
            arith,
            most,
            number,
            second.from k (number_in by row) over (omega (arith, within, as_many)),
          ))
        ]
      ];
  only = λ j (k, within, is).
      let less : k < high - low = omega (arith, within, many) in
      let inside : low + k < length indexed.found = omega (arith, less, second.within, as_many) in
      let none : Found = record { number = 0; place = 0 } in
      let it : Found = get_or indexed.found (low + k) none in
      let number : get_or index.numbers.items (low + k) 0 ≡ it.number =
      stored (λ o. o.number) index.numbers.items indexed.numbers (low + k) none 0 inside in
      let place : it.place ≡ j =
      sym (same k j less ∙ stored (λ o. o.place) index.places.items indexed.places (low + k) none j inside) ∙ is in
      let (row, stands, numbered) = indexed.listed.only it (Contains-get_or indexed.found (low + k) none inside) in (
        row,
        ap (slice_get rows) (sym place) ∙ stands,
        omega (arith, number, numbered, first.from (low + k) 0 (omega arith) (omega (arith, inside, as_many))),
        omega (arith, number, numbered, second.below (low + k) 0 (omega arith) (omega (arith, less))),
      );
}
  where
    -- as many numbers as are listed
    as_many : length index.numbers.items ≡ length indexed.found
    as_many = ap length indexed.numbers ∙ length-map indexed.found (λ (it : Found). it.number)

    -- how many places are between
    many : length (take (high - low) (drop low index.places.items)) ≡ high - low
    many =
        let left = length-drop low index.places.items in
        length-take-le (high - low) (drop low index.places.items)
        (omega (arith, left, second.within, indexed.ordered.as_many))

    -- and which
    same : (k d : ℕ) → k < high - low →
        get_or (take (high - low) (drop low index.places.items)) k d ≡ get_or index.places.items (low + k) d
    same k d below =
        get_or-take (high - low) (drop low index.places.items) k d below ∙ get_or-drop low index.places.items k d

    -- what is stored of what is found
    stored : (f : Found → ℕ) (ns : List ℕ) → ns ≡ map f indexed.found → (k : ℕ) (d : Found) (e : ℕ) →
        k < length indexed.found → get_or ns k e ≡ f (get_or indexed.found k d)
    stored f ns are k d e within = ap (λ (ms : List ℕ). get_or ms k e) are ∙ get_or-map f indexed.found k d e within

-- a rank is the place of its kind among all
kind_at : (k : Kind) → get_or entry_kinds (rank k) kinds.Any ≡ k
kind_at kinds.Any = refl
kind_at k = refl

-- no other kind has it
same_by_rank : (k l : Kind) → rank k ≡ rank l → k ≡ l
same_by_rank k l e = sym (kind_at k) ∙ ap (λ (n : ℕ). get_or entry_kinds n kinds.Any) e ∙ kind_at l

-- a kind is named by its word
named : (k : Kind) → kind_named (kind_word k) ≡ Some k
named kinds.Any = refl
named k = refl

-- what is of a kind, and not of any, is that kind
of_kind : (wanted k : Kind) → wanted ≢ kinds.Any → is_kind wanted k ≡ true → k ≡ wanted
of_kind kinds.Any k some is = absurd (some refl)
of_kind wanted k some is =
    let same = (bytes_eq-Decides (kind_word wanted) (kind_word k)).0 is in
    sym (same_Some wanted k (sym (named wanted) ∙ ap kind_named same ∙ named k))

-- each kind is of itself
own_kind : (k : Kind) → is_kind k k ≡ true
own_kind kinds.Any = refl
own_kind k = refl

-- a number of the kind in the group is that of a row of the kind
in_breadth : (wanted : Kind) (group g : ℕ) (k : Kind) → least_of group wanted ≤ least_of g k →
    least_of g k < least_of group wanted + breadth wanted → is_kind wanted k ≡ true
in_breadth kinds.Any group g k least most = refl
in_breadth wanted group g k least most =
    let same : rank k ≡ rank wanted = omega (arith, least, most, rank_below k, rank_below wanted) in
    ap (is_kind wanted) (same_by_rank k wanted same) ∙ own_kind wanted

-- and a row of the kind in the group has such a number
has_number : (wanted : Kind) (group g : ℕ) (k : Kind) → g ≡ group → is_kind wanted k ≡ true →
    (least_of group wanted ≤ least_of g k) × (least_of g k < least_of group wanted + breadth wanted)
has_number kinds.Any group g k same is = omega (arith, same, rank_below k)
has_number wanted group g k same is =
    let rank_is : rank k ≡ rank wanted = ap rank (of_kind wanted k (λ e. cc) is) in omega (arith, same, rank_is)

-- rows of a kind in a group are those to go over where in every other group the body is settled
pub visited_from : (rows : List Row) (order : ℕ → ℕ → Three) (wholes : ℕ → Bool) (q : Quantifier) (body : Formula)
    (env : ℕ → Option ℕ) (by : Key) (group : ℕ) (places : List ℕ) →
    ArePlacesOf rows by (least_of group q.kind) (least_of group q.kind + breadth q.kind) places →
    ((j : ℕ) (row : Row) → slice_get rows j ≡ Some row → group_in by row ≢ group →
    value_of rows order wholes body (bind q.v j env) ≡ as_three (not q.some)) →
    IsVisitedFor rows order wholes q body env places
visited_from rows order wholes q body env by group places are settled = record {
  kind = λ j there.
      let (row, stands, least, most) = are.only j there in
      ap (has_kind q.kind) stands ∙ in_breadth q.kind group (group_in by row) row.kind least most;
  others = λ j row stands. elim (cases_eq (group_in by row) group) [
    | inl same ↦ elim (cases_Bool (is_kind q.kind row.kind)) [
      | inl is ↦
          let (least, most) = has_number q.kind group (group_in by row) row.kind same is in
          inl (are.each j row stands least most)
      | inr other ↦ inr (other_at rows order wholes q.some body q.v q.kind q.within env j row stands other)
    ]
    | inr apart ↦
        inr (settled_at rows order wholes q.some body q.v q.kind q.within env j (settled j row stands apart))
  ];
}

-- the places of those of the first rows that have a rank
pub record ArePlacesSoFar (rows : List Row) (n rank_is : ℕ) (places : List ℕ) : Type 0 where
  pub each : (j : ℕ) (row : Row) → j < n → slice_get rows j ≡ Some row → rank row.kind ≡ rank_is → Contains places j
  pub only : (j : ℕ) → Contains places j → (row : Row) × (slice_get rows j ≡ Some row) × (rank row.kind ≡ rank_is)

-- for each rank they are listed
pub record AreListedByKind (rows : List Row) (n : ℕ) (lists : List (List ℕ)) : Type 0 where
  pub many : length lists ≡ 11
  pub each : (m : ℕ) → ArePlacesSoFar rows n m (get_or lists m [])

-- none is listed at first
pub by_kind_none : (rows : List Row) (lists : List (List ℕ)) → IsEachEmpty 11 lists → AreListedByKind rows 0 lists
by_kind_none rows lists empty = record {
  many = empty.many;
  each = λ m. rw (empty.none m) (record {
    each = λ j row below stands is. absurd (omega arith);
    only = λ j there. absurd (Contains-none j there);
  });
}

-- one row more
pub by_kind_more : (rows : List Row) (n r : ℕ) (lists more : List (List ℕ)) (d : Row) → n < length rows →
    r ≡ rank (get_or rows n d).kind → more ≡ set lists r (get_or lists r [] ++ n ∷ []) →
    AreListedByKind rows n lists → AreListedByKind rows (n + 1) more
by_kind_more rows n r lists more d within ranked is listed = rw is (record {
  many = length-set lists r _ ∙ listed.many;
  each = λ m. elim (cases_eq m r) [
    | inl same ↦
        rw (
          same,
          get_or-set_same lists r (get_or lists r [] ++ n ∷ []) []
              (omega (arith, listed.many, ranked, rank_below (get_or rows n d).kind)),
        ) own
    | inr apart ↦ rw (get_or-set_other lists r m (get_or lists r [] ++ n ∷ []) [] apart) (other m apart)
  ];
})
  where
    -- the row is at its place
    here : slice_get rows n ≡ Some (get_or rows n d)
    here = slice_get-get_or rows n d within

    -- those of its own rank
    own : ArePlacesSoFar rows (n + 1) r (get_or lists r [] ++ n ∷ [])
    own = record {
      each = λ j row below stands ranks. elim (cases_eq j n) [
        | inl last ↦ rw last (Contains-push (get_or lists r []) n)
        | inr earlier ↦ Contains-append_left (get_or lists r []) (n ∷ []) j
            ((listed.each r).each j row (omega (arith, below, earlier)) stands ranks)
      ];
      only = λ j there. elim (Contains-push_cases (get_or lists r []) n j there) [
        | inl old ↦ (listed.each r).only j old
        | inr new ↦ rw (← new) (get_or rows n d, here, sym ranked)
      ];
    }

    -- those of other ranks are as before
    other : (m : ℕ) → m ≢ r → ArePlacesSoFar rows (n + 1) m (get_or lists m [])
    other m apart = record {
      each = λ j row below stands ranks. elim (cases_eq j n) [
        | inl last ↦
            let same = same_Some row (get_or rows n d) (sym stands ∙ ap (slice_get rows) last ∙ here) in
            absurd (apart (sym ranks ∙ ap (λ (q : Row). rank q.kind) same ∙ sym ranked))
        | inr earlier ↦ (listed.each m).each j row (omega (arith, below, earlier)) stands ranks
      ];
      only = (listed.each m).only;
    }

-- all rows are listed
pub by_kind_all : (rows : List Row) (n : ℕ) (kinds : Kinds) → length rows ≤ n →
    AreListedByKind rows n (map (λ (v : Vec ℕ Global). v.items) kinds.places.items) → AreKindsOf rows kinds
by_kind_all rows n kinds all listed = record {
  many = sym (length-map kinds.places.items (λ (v : Vec ℕ Global). v.items)) ∙ listed.many;
  each = λ k. record {
    each = λ j row at is. (listed.each (rank k)).each j row
        (omega (arith, all, slice_get_within rows j row at)) at (ap rank is);
    only = λ j there.
        let (row, at, is) = (listed.each (rank k)).only j there in
        (row, at, same_by_rank row.kind k is);
  };
}

-- rows of the quantifier's kind are those to go over, if it isn't any
pub visited_by_kind : (rows : List Row) (order : ℕ → ℕ → Three) (wholes : ℕ → Bool) (q : Quantifier) (body : Formula)
    (env : ℕ → Option ℕ) (places : List ℕ) → q.kind ≢ kinds.Any → ArePlacesOfKind rows q.kind places →
    IsVisitedFor rows order wholes q body env places
visited_by_kind rows order wholes q body env places some are = record {
  kind = λ j there.
      let (row, stands, is) = are.only j there in
      ap (has_kind q.kind) stands ∙ ap (is_kind q.kind) is ∙ own_kind q.kind;
  others = λ j row stands. elim (cases_Bool (is_kind q.kind row.kind)) [
    | inl is ↦ inl (are.each j row stands (of_kind q.kind row.kind some is))
    | inr other ↦ inr (other_at rows order wholes q.some body q.v q.kind q.within env j row stands other)
  ];
}
