-- Entries with different digests, among others.
use Rattle.entry_order.proofs.Imports
use Imports.{Contains, Contains-append_cases, Contains-append_left, Contains-append_right, Contains-cons_cases}
use Imports.{Contains-head, Contains-later, List, Node, [], ap, arith, inl, inr, length, member_split, refl, sym, ℕ}
use Imports.{◌++◌, ◌∷◌, ◌≡◌, ◌≢◌, ◌≤◌}
use Rattle.std.{proofs.lemmas.List.Sums.sum_by-append, proofs.lemmas.List.Sums.sum_by-cons, specs.List.sum_by}

module _ {T : Type 0} (node : T → Node) where
  -- no digest of an entry is that of a later one
  abbrev pub DigestsDiffer : List T → Type 0
  DigestsDiffer [] = Unit {0}
  DigestsDiffer (x ∷ xs) = ((y : T) → Contains xs y → (node y).digest ≢ (node x).digest) × DigestsDiffer xs

  -- entries that are apart sum up to no more than the entries that they are among
  pub sum_among : (f : T → ℕ) (xs ys : List T) → DigestsDiffer xs → ((x : T) → Contains xs x → Contains ys x) →
      sum_by f xs ≤ sum_by f ys
  sum_among f [] ys apart among = omega arith
  sum_among f (x ∷ xs) ys apart among =
      let (before, later, is) = member_split ys x (among x (Contains-head x xs)) in
      let rest = sum_among f xs (before ++ later) apart.1 (λ y c.
      elim (Contains-append_cases before (x ∷ later) y (rw is at (among y (Contains-later x xs y c)))) [
        | inl first ↦ Contains-append_left before later y first
        | inr last ↦ elim (Contains-cons_cases x later y last) [
          | inl same ↦ absurd (apart.0 y c (ap (λ z. (node z).digest) (sym same)))
          | inr after ↦ Contains-append_right before later y after
        ]
      ]) in
      omega (
        arith,
        rest,
        ap (sum_by f) is,
        sum_by-cons f x xs,
        sum_by-append f before (x ∷ later),
        sum_by-cons f x later,
        sum_by-append f before later,
      )

  -- entries with different digests are no more than the entries that they are among
  pub few_among : (xs ys : List T) → DigestsDiffer xs → ((x : T) → Contains xs x → Contains ys x) →
      length xs ≤ length ys
  few_among xs ys apart among = omega (arith, sum_among (λ e. 1) xs ys apart among, ones xs, ones ys)
    where
      -- a list is as long as the sum of ones over it
      ones : (es : List T) → sum_by (λ e. 1) es ≡ length es
      ones [] = refl
      ones (e ∷ es) = omega (arith, sum_by-cons (λ (g : T). 1) e es, ones es)
