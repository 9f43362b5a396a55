-- Losses that are sorted.
use Rattle.finished_floor.proofs.Imports.{AreOnce, Differ, is_of, IsToldBefore, Loss, Bool, List, [], arith, false}
use Rattle.finished_floor.proofs.Imports.{get_or, suc, ℕ, nat_cmp_total, All-from_recursion, recursion_from_All}
use Rattle.finished_floor.proofs.Imports.{AllPairs-cons, ranks_by, sorted_far, IsDistinct-IsPermutation, IsTotalOrder}
use Rattle.finished_floor.proofs.Imports.{on_total, then_total, AllPairs, IsDistinct, IsPermutation, IsSortedByKey}
use Rattle.finished_floor.proofs.Imports.{is_lt, nat_cmp, ordering_then, Ordering, nat_tests, ◌∷◌, ◌≡◌}

-- what a loss is sorted by
abbrev pub key_of : Loss → ℕ × ℕ × ℕ
key_of loss = (loss.from, loss.to, loss.number)

-- by sender, then by receiver, then by number
abbrev pub compare : ℕ × ℕ × ℕ → ℕ × ℕ × ℕ → Ordering
compare (from_p, to_p, number_p) (from_q, to_q, number_q) =
    ordering_then (ordering_then (nat_cmp from_p from_q) (nat_cmp to_p to_q)) (nat_cmp number_p number_q)

-- this is a total order
compare_total : IsTotalOrder compare
compare_total =
    then_total (then_total (on_total (λ (p : ℕ × ℕ × ℕ). p.0) nat_cmp_total) (on_total (λ (p : ℕ × ℕ × ℕ). p.1) nat_cmp_total))
    (on_total (λ (p : ℕ × ℕ × ℕ). p.2) nat_cmp_total)

-- of two losses on different ways or of different entries, the one that isn't above is reported first
told_from : (a b : Loss) → is_lt (compare (key_of b) (key_of a)) ≡ false → Differ a b → IsToldBefore a b
told_from a b not_lt differ = grind (arith, nat_tests)

-- sorted losses are reported in order
pub told_from_sorted : (xs : List Loss) → AreOnce xs → IsSortedByKey key_of compare xs → AllPairs IsToldBefore xs
told_from_sorted xs once sorted i j d lt within =
    told_from (get_or xs i d) (get_or xs j d)
    (sorted_far (λ x y. is_lt (compare (key_of x) (key_of y))) (ranks_by compare_total key_of) xs sorted i j d
    (omega arith) within) (once i j d lt within)

-- what is reported in order is reported once
pub told_once : (xs : List Loss) → AllPairs IsToldBefore xs → AreOnce xs
told_once xs told i j d lt within = by (get_or xs i d) (get_or xs j d) (told i j d lt within)
  where
    -- a loss that is reported before another is of another entry, or on another way
    by : (a b : Loss) → IsToldBefore a b → Differ a b
    by a b before = grind (arith, nat_tests)

-- whether two losses are of one entry on one way
abbrev same_way : Loss → Loss → Bool
same_way a b = is_of a.from a.number a.to b

-- the answer is the same in whichever order the two are given
flips : (a b : Loss) → same_way a b ≡ same_way b a
flips a b = grind (arith, nat_tests)

-- where no entry is lost twice on one way, no two losses pass this test
distinct_of : (xs : List Loss) → AreOnce xs → IsDistinct same_way xs
unfolding IsDistinct
distinct_of [] once = tt
distinct_of (x ∷ xs) once = (
  recursion_from_All (λ y. same_way x y ≡ false) xs (λ k d lt. once 0 (suc k) d (omega arith) (omega arith)),
  distinct_of xs (λ i j d lt within. once (suc i) (suc j) d (omega arith) (omega arith)),
)

-- and the other way round
once_of : (xs : List Loss) → IsDistinct same_way xs → AreOnce xs
unfolding IsDistinct
once_of [] distinct = λ i j d lt within. absurd (omega arith)
once_of (x ∷ xs) distinct =
    AllPairs-cons Differ x xs (All-from_recursion (λ y. same_way x y ≡ false) xs distinct.0) (once_of xs distinct.1)

-- losses that differ still differ when they change places
pub once_moved : (xs ys : List Loss) → IsPermutation xs ys → AreOnce xs → AreOnce ys
once_moved xs ys moved once =
    once_of ys (IsDistinct-IsPermutation same_way flips xs ys moved (distinct_of xs once))
