-- Eight words of a row, united with the eight at the same places of another.
use Rattle.std.proofs.Common.{◌≡◌, ℕ, ◌+◌, ◌-◌, ◌<◌, ◌≤◌, List, length, get_or, bit_or}
use Rattle.std.proofs.Common.{sym, ap, ◌∙◌, subst, arith}
use lib.Lanes.{zip2, chunk, put_chunk}
use Rattle.std.proofs.lemmas.Simd.{length-zip2, length-chunk, get_or-chunk, get_or-zip2}
use Rattle.std.proofs.lemmas.Simd.{get_or-put_chunk_below, get_or-put_chunk_at, get_or-put_chunk_above}

module _ (xs ys : List ℕ) (at : ℕ) (room : at + 8 ≤ length xs) (same : length xs ≡ length ys) where
  -- the eight words united
  abbrev both : List ℕ
  both = zip2 bit_or (chunk at 8 xs) (chunk at 8 ys)

  -- they are eight words
  eight : length both ≡ 8
  eight =
      let first = length-chunk at 8 xs room in
      let second = length-chunk at 8 ys (omega arith) in
      length-zip2 bit_or (chunk at 8 xs) (chunk at 8 ys) (first ∙ sym second) ∙ first

  -- the word at a place among the eight
  pub stored_inside : (j : ℕ) → j < 8 →
      get_or (put_chunk at xs both) (at + j) 0 ≡ bit_or (get_or xs (at + j) 0) (get_or ys (at + j) 0)
  stored_inside j l =
      let first = length-chunk at 8 xs room in
      let second = length-chunk at 8 ys (omega arith) in
      let long = eight in
      get_or-put_chunk_at at xs both j 0 (omega arith) (omega arith)
      ∙ get_or-zip2 bit_or (chunk at 8 xs) (chunk at 8 ys) j 0 0 0 (omega arith) (omega arith)
      ∙ ap (λ w. bit_or w (get_or (chunk at 8 ys) j 0)) (get_or-chunk at 8 xs j 0 l)
      ∙ ap (bit_or (get_or xs (at + j) 0)) (get_or-chunk at 8 ys j 0 l)

  -- the words after the eight stay
  pub stored_above : (k : ℕ) → at + 8 ≤ k → get_or (put_chunk at xs both) k 0 ≡ get_or xs k 0
  stored_above k l = let long = eight in get_or-put_chunk_above at xs both k 0 (omega arith)

  -- the words before the eight stay
  pub stored_below : (k : ℕ) → k < at → get_or (put_chunk at xs both) k 0 ≡ get_or xs k 0
  stored_below k l = get_or-put_chunk_below at xs both k 0 l

  -- a word at a place from `at` on, below `at + 8`
  pub stored_at : (k : ℕ) → at ≤ k → k < at + 8 →
      get_or (put_chunk at xs both) k 0 ≡ bit_or (get_or xs k 0) (get_or ys k 0)
  stored_at k low high =
      let is : at + (k - at) ≡ k = omega arith in
      subst (λ (i : ℕ). get_or (put_chunk at xs both) i 0 ≡ bit_or (get_or xs i 0) (get_or ys i 0)) is
      (stored_inside (k - at) (omega arith))
