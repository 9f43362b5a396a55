-- Ascending digests: what is in such a list, and that its members say which list it is.
use Rattle.entry_order.proofs.Imports.Words
use Words.{Bool, Contains, Equal, Greater, IsAscending, Less, List, Ordering, [], ap, arith, ascending, exact_bytes}
use Words.{false, filter, inl, inr, insert_digest, length, nat_cmp, nat_list_cmp_total, not, not-true, not_from_false}
use Words.{ordering_reverse, refl, slice_cmp, suc, sym, zero, ℕ, ◌+◌, ◌↔◌, ◌∙◌, ◌∷◌, ◌≡◌, ◌≤◌, ◌⊎◌}
use Rattle.entry_order.proofs.Lists.{Contains-at, Contains-cons_cases, Contains-filter, Contains-filter_cases}
use Rattle.entry_order.proofs.{Comparisons.not_both, Lists.Contains-later, Lists.Contains-none, Rising.Rises}
use Rattle.entry_order.proofs.Rising.{rises_filter, same_rising}
use Rattle.entry_order.specs.Ascending.{AscendingIsUnique, inserted}

-- putting d in its place adds d alone
added : (o : Ordering) (d c : List ℕ) (cs : List (List ℕ)) (y : List ℕ) → slice_cmp nat_cmp d c ≡ o →
    (d ≡ y) ⊎ Contains (c ∷ cs) y → ((d ≡ y) ⊎ Contains cs y → Contains (insert_digest d cs) y) →
    Contains (inserted o d c cs (insert_digest d cs)) y
added Less d c cs y is (inl e) rest = Contains-at d (c ∷ cs) y e
added Less d c cs y is (inr g) rest = Contains-later d (c ∷ cs) y g
added Equal d c cs y is (inl e) rest = Contains-at c cs y (sym (exact_bytes d c is) ∙ e)
added Equal d c cs y is (inr g) rest = g
added Greater d c cs y is (inl e) rest = Contains-later c (insert_digest d cs) y (rest (inl e))
added Greater d c cs y is (inr (zero, l, e)) rest = Contains-at c (insert_digest d cs) y e
added Greater d c cs y is (inr (suc k, l, e)) rest = Contains-later c _ y (rest (inr (k, omega arith, e)))

-- a list into which a digest was put has that digest and all that it had
pub Contains-insert_digest : (d : List ℕ) (ds : List (List ℕ)) (y : List ℕ) → (d ≡ y) ⊎ Contains ds y →
    Contains (insert_digest d ds) y
Contains-insert_digest d [] y h = elim h [ inl e ↦ Contains-at d [] y e | inr g ↦ absurd (Contains-none y g) ]
Contains-insert_digest d (c ∷ cs) y h = added (slice_cmp nat_cmp d c) d c cs y refl h (Contains-insert_digest d cs y)

-- what is in the list after a digest was put in its place was put in or was there
taken_out : (o : Ordering) (d c : List ℕ) (cs : List (List ℕ)) (y : List ℕ) →
    Contains (inserted o d c cs (insert_digest d cs)) y →
    (Contains (insert_digest d cs) y → (d ≡ y) ⊎ Contains cs y) → (d ≡ y) ⊎ Contains (c ∷ cs) y
taken_out Less d c cs y h rest = Contains-cons_cases d (c ∷ cs) y h
taken_out Equal d c cs y h rest = inr h
taken_out Greater d c cs y (zero, l, e) rest = inr (Contains-at c cs y e)
taken_out Greater d c cs y (suc k, l, e) rest =
    elim (rest (k, omega arith, e)) [ inl is ↦ inl is | inr g ↦ inr (Contains-later c cs y g) ]

-- what is in the list was put in or was there
pub Contains-insert_digest_cases : (d : List ℕ) (ds : List (List ℕ)) (y : List ℕ) →
    Contains (insert_digest d ds) y → (d ≡ y) ⊎ Contains ds y
Contains-insert_digest_cases d [] y h = Contains-cons_cases d [] y h
Contains-insert_digest_cases d (c ∷ cs) y h = taken_out _ d c cs y h (Contains-insert_digest_cases d cs y)

-- the ascending list has each of the digests
pub Contains-ascending : (ds : List (List ℕ)) (y : List ℕ) → Contains ds y → Contains (ascending ds) y
Contains-ascending [] y h = h
Contains-ascending (d ∷ ds) y h = Contains-insert_digest d (ascending ds) y
    (elim (Contains-cons_cases d ds y h) [ inl e ↦ inl e | inr c ↦ inr (Contains-ascending ds y c) ])

-- sorting adds no digest to a list
pub Contains-ascending_cases : (ds : List (List ℕ)) (y : List ℕ) → Contains (ascending ds) y → Contains ds y
Contains-ascending_cases [] y h = h
Contains-ascending_cases (d ∷ ds) y h =
    elim (Contains-insert_digest_cases d (ascending ds) y h)
    [ inl e ↦ Contains-at d ds y e | inr g ↦ Contains-later d ds y (Contains-ascending_cases ds y g) ]

-- one digest is below another in the order of their bytes
abbrev pub IsBelow : List ℕ → List ℕ → Type 0
IsBelow d c = slice_cmp nat_cmp d c ≡ Less

-- in an ascending list each digest goes before all later ones
rising : (ds : List (List ℕ)) → IsAscending ds ≡ Rises IsBelow ds
rising [] = refl
rising (d ∷ ds) = ap (λ R. ((c : List ℕ) → Contains ds c → IsBelow d c) × R) (rising ds)

-- two ascending lists with the same members are equal
pub same_ascending : (xs ys : List (List ℕ)) → IsAscending xs → IsAscending ys →
    ((d : List ℕ) → Contains xs d → Contains ys d) → ((d : List ℕ) → Contains ys d → Contains xs d) → xs ≡ ys
same_ascending xs ys a b to from = same_rising IsBelow not_both xs ys (rw rising at a) (rw rising at b) to from

-- putting a digest beside the first keeps the order, where the rest keeps it
inserted_ascending : (o : Ordering) (d c : List ℕ) (cs after : List (List ℕ)) → slice_cmp nat_cmp d c ≡ o →
    IsAscending (c ∷ cs) → IsAscending after → ((x : List ℕ) → Contains after x → (d ≡ x) ⊎ Contains cs x) →
    IsAscending (inserted o d c cs after)
inserted_ascending Less d c cs after is a b from = (
  λ x h. elim (Contains-cons_cases c cs x h)
      [ inl e ↦ rw e at is | inr l ↦ nat_list_cmp_total.trans d c x is (a.0 x l) ],
  a,
)
inserted_ascending Equal d c cs after is a b from = a
inserted_ascending Greater d c cs after is a b from =
    let below : IsBelow c d = nat_list_cmp_total.antisymm c d ∙ ap ordering_reverse is in
    (λ x h. elim (from x h) [ inl e ↦ rw e at below | inr l ↦ a.0 x l ], b)

-- putting a digest in its place keeps the order
pub insert_digest_ascending : (d : List ℕ) (ds : List (List ℕ)) → IsAscending ds → IsAscending (insert_digest d ds)
insert_digest_ascending d [] a = (λ c h. absurd (Contains-none c h), tt)
insert_digest_ascending d (c ∷ cs) a =
    inserted_ascending _ d c cs _ refl a (insert_digest_ascending d cs a.1) (Contains-insert_digest_cases d cs)

-- the ascending list is ascending
pub ascending_ascending : (ds : List (List ℕ)) → IsAscending (ascending ds)
ascending_ascending [] = tt
ascending_ascending (d ∷ ds) = insert_digest_ascending d (ascending ds) (ascending_ascending ds)

-- what is ascending and has the members of an ascending list is that list
pub only_ascending : (ds : List (List ℕ)) (P : List ℕ → Type 0) → ((d : List ℕ) → Contains (ascending ds) d ↔ P d) →
    (ordered : List (List ℕ)) → IsAscending ordered → ((d : List ℕ) → Contains ordered d ↔ P d) →
    ordered ≡ ascending ds
only_ascending ds P members ordered rises same =
    same_ascending ordered (ascending ds) rises (ascending_ascending ds) (λ d c. (members d).1 ((same d).0 c))
    (λ d c. (same d).1 ((members d).0 c))

-- exactly the ascending list is ascending and has these members
pub ascending_is_unique : AscendingIsUnique
ascending_is_unique ds ordered = (
  λ is. rw is (record { rises = ascending_ascending ds; members = members }),
  λ is. only_ascending ds (Contains ds) members ordered is.rises is.members,
)
  where
    members : (d : List ℕ) → Contains (ascending ds) d ↔ Contains ds d
    members d = (Contains-ascending_cases ds d, Contains-ascending ds d)

-- the ascending ones of those that a test leaves are those that are given and don't pass it
pub in_left : (test : List ℕ → Bool) (ds : List (List ℕ)) (d : List ℕ) →
    Contains (ascending (filter (λ c. not (test c)) ds)) d ↔ (Contains ds d × (test d ≡ false))
in_left test ds d = (
  λ c. let (there, passes) = Contains-filter_cases _ ds d (Contains-ascending_cases _ d c) in
      (there, not-true (test d) passes),
  λ (there, fails). Contains-ascending _ d (Contains-filter _ ds d there (not_from_false (test d) fails)),
)

-- a part of an ascending list is ascending
pub filter_ascending : (p : List ℕ → Bool) (ds : List (List ℕ)) → IsAscending ds → IsAscending (filter p ds)
filter_ascending p ds a = rw rising (rises_filter IsBelow p ds (rw rising at a))

-- a digest put in its place makes a list longer by at most one
pub length-insert_digest : (d : List ℕ) (ds : List (List ℕ)) → length (insert_digest d ds) ≤ length ds + 1
length-insert_digest d [] = omega arith
length-insert_digest d (c ∷ cs) =
    let rest = length-insert_digest d cs in
    elim (slice_cmp nat_cmp d c) as (λ o. length (inserted o d c cs (insert_digest d cs)) ≤ length (c ∷ cs) + 1)
    [ Less ↦ omega arith | Equal ↦ omega arith | Greater ↦ omega arith ]
