-- Numbers and digests as the order compares them.
use Rattle.entry_order.proofs.Imports.Words
use Words.{Equal, Greater, Less, List, Ordering, ap, arith, exact_bytes, false, is_lt, nat_cmp, nat_list_cmp_total}
use Words.{nat_tests, ordering_reverse, refl, slice_cmp, sym, true≢false, ℕ, ◌<◌, ◌∙◌, ◌≡◌, ◌≢◌}

-- a lower number compares as less
pub less : (m n : ℕ) → m < n → nat_cmp m n ≡ Less
less m n lower = grind (arith, nat_tests)

-- numbers that are the same compare as equal
pub level : (m n : ℕ) → m ≡ n → nat_cmp m n ≡ Equal
level m n same = grind (arith, nat_tests)

-- of two digests the one that isn't above and isn't the same is below
pub below : (x y : List ℕ) → is_lt (slice_cmp nat_cmp y x) ≡ false → x ≢ y → slice_cmp nat_cmp x y ≡ Less
below x y not_lt differ = by (slice_cmp nat_cmp y x) refl not_lt
  where
    -- by how the second compares with the first: it isn't less, and equal would make them the same
    by : (o : Ordering) → slice_cmp nat_cmp y x ≡ o → is_lt o ≡ false → slice_cmp nat_cmp x y ≡ Less
    by Less e h = absurd (true≢false h)
    by Equal e h = absurd (differ (sym (exact_bytes y x e)))
    by Greater e h = nat_list_cmp_total.antisymm x y ∙ ap ordering_reverse e

-- no two digests are each below the other
pub not_both : (x y : List ℕ) → slice_cmp nat_cmp x y ≡ Less → slice_cmp nat_cmp y x ≡ Less → ⊥
not_both x y a b = let e : Less ≡ Greater = sym a ∙ nat_list_cmp_total.antisymm x y ∙ ap ordering_reverse b in cc
