-- Entries that are sorted by stamp and then digest.
use Rattle.std.proofs.Common.{◌≢◌}
use Rattle.entry_graph.proofs.Imports.{◌≡◌, ℕ, ◌<◌, false, List, length, get_or, map, sym, ap, ◌∙◌, inl, inr, arith}
use Rattle.entry_graph.proofs.Imports.{AllPairs, IsPermutation, IsSortedByKey, bytes_eq, IsTotalOrder, on_total}
use Rattle.entry_graph.proofs.Imports.{then_total, slice_cmp, nat_cmp, ordering_then, is_lt, Ordering, cases_order}
use Rattle.entry_graph.proofs.Imports.{true≢false, nat_cmp_total, nat_list_cmp_total, nat_list_eq_equiv, sorted_far}
use Rattle.entry_graph.proofs.Imports.{ranks_by, IsPermutation-map, IsDistinct-IsPermutation, slice_get-get_or, Node}
use Rattle.entry_graph.proofs.Imports.{level, less, below, IsLower, HasNoDigestTwice}
use Rattle.entry_graph.proofs.Places.{one_place}

-- a stamp and a digest, and their order
abbrev pub Key : Type 0
Key = ℕ × List ℕ

-- the lower stamp first, and of one stamp the lower digest
abbrev pub compare : Key → Key → Ordering
compare p q = ordering_then (nat_cmp p.0 q.0) (slice_cmp nat_cmp p.1 q.1)

-- so any two keys are ordered
compare_total : IsTotalOrder compare
compare_total = then_total (on_total (λ (p : Key). p.0) nat_cmp_total) (on_total (λ (p : Key). p.1) nat_list_cmp_total)

module _ {T : Type 0} (node : T → Node) where
  -- the key of an entry
  abbrev pub key_of : T → Key
  key_of e = ((node e).stamp, (node e).digest)

  -- no two of the entries have one digest, in any order
  pub single_moved : (es fs : List T) → IsPermutation es fs → HasNoDigestTwice node es → HasNoDigestTwice node fs
  single_moved es fs moved single =
      IsDistinct-IsPermutation bytes_eq nat_list_eq_equiv.symm (map (λ e. (node e).digest) es)
      (map (λ e. (node e).digest) fs)
      (IsPermutation-map (λ (e : T). (node e).digest) es fs moved) single

  -- of two entries with different digests the one that isn't above is lower
  lower_from : (e f : T) → is_lt (compare (key_of f) (key_of e)) ≡ false → (node e).digest ≢ (node f).digest
      → IsLower node e f
  lower_from e f not_lt differ =
      elim (cases_order (node e).stamp (node f).stamp) [
        | inl same ↦ inr (
          same,
          below (node e).digest (node f).digest
              (sym (ap (λ o. is_lt (ordering_then o (slice_cmp nat_cmp (node f).digest (node e).digest)))
              (level (node f).stamp (node e).stamp (sym same)))
              ∙ not_lt)
              differ,
        )
        | inr (inl lower) ↦ inl lower
        | inr (inr higher) ↦
            absurd (true≢false
            (sym (ap (λ o. is_lt (ordering_then o (slice_cmp nat_cmp (node f).digest (node e).digest)))
            (less (node f).stamp (node e).stamp higher))
            ∙ not_lt))
      ]

  -- sorted entries rise
  pub rises_from_sorted : (es : List T) → HasNoDigestTwice node es → IsSortedByKey key_of compare es
      → AllPairs (IsLower node) es
  rises_from_sorted es single sorted i j d l within =
      let first : i < length es = omega arith in
      lower_from (get_or es i d) (get_or es j d)
      (sorted_far (λ x y. is_lt (compare (key_of x) (key_of y))) (ranks_by compare_total key_of) es sorted i j d
      (omega arith) within)
      (λ same.
      let one : i ≡ j =
      one_place node es i j (get_or es i d) (get_or es j d) single (slice_get-get_or es i d first)
      (slice_get-get_or es j d within) same in
      absurd (omega arith))
