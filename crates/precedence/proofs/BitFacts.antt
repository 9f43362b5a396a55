-- Bits of a row of words.
use Rattle.precedence.specs.Bits.{has_bit}
use Rattle.std.proofs.Common.{ap, arith, bit_or, Bool, drop, false, get_or, inl, inr, length, List, max, refl, set}
use Rattle.std.proofs.Common.{subst, suc, sym, take, true, w64, zero, ℕ, ◌%◌, ◌*◌, ◌++◌, ◌+◌, ◌-◌, ◌/◌, ◌<◌, ◌^◌, ◌∙◌}
use Rattle.std.proofs.{Common.◌≡◌, Common.◌≢◌, Common.◌≤◌, Math.Bool.or-false, Math.Seq.get_or-append_right}
use Rattle.std.proofs.lemmas.{Bool.cases_eq, Bool.cases_lt, Bool.eq-eqb, Bool.ne_eqb, List.get_or-drop}
use Rattle.std.proofs.lemmas.List.{get_or-set_other, get_or-set_same, get_or-take, get_or_append_left, get_or_past}
use Rattle.std.proofs.lemmas.Nat.Bits.{bit_at-lt, bit_at-zero, bit_at_or, bit_at_set_other, bit_at_set_same}
use Rattle.std.specs.{Int.bit_at, Prelude.◌==◌, Prelude.◌||◌}

-- the greater of two bits is 1 exactly when one of them is
one_of_two : (u v : ℕ) → u < 2 → v < 2 → (max u v == 1) ≡ ((u == 1) || (v == 1))
one_of_two zero zero a b = refl
one_of_two zero (suc zero) a b = refl
one_of_two (suc zero) zero a b = refl
one_of_two (suc zero) (suc zero) a b = refl
one_of_two (suc (suc u)) v a b = absurd (omega arith)
one_of_two zero (suc (suc v)) a b = absurd (omega arith)
one_of_two (suc zero) (suc (suc v)) a b = absurd (omega arith)

-- the bits of a row whose first words were united with those of a row that may be shorter
module _ (words row united : List ℕ) (room : length row ≤ length words) (long : length united ≡ length row)
    (is : (k : ℕ) → get_or united k 0 ≡ bit_or (get_or (take (length row) words) k 0) (get_or row k 0)) where
  -- a bit of the united words is set exactly when it is in one of the two
  pub has_united : (y : ℕ) → has_bit (united ++ drop (length row) words) y ≡ (has_bit words y || has_bit row y)
  has_united y = elim (cases_lt (y / 64) (length row)) [ inl low ↦ inside low | inr high ↦ above high ]
    where
      -- the same of a bit within the shorter row
      inside : y / 64 < length row →
          has_bit (united ++ drop (length row) words) y ≡ (has_bit words y || has_bit row y)
      inside low =
          let k = y / 64 in
          let a = get_or words k 0 in
          let b = get_or row k 0 in
          ap (λ w. bit_at w (y % 64) == 1) (
          get_or_append_left united (drop (length row) words) 0 k (omega arith)
          ∙ is k
          ∙ ap (λ w. bit_or w b) (get_or-take (length row) words k 0 low)
          )
          ∙ ap (λ n. n == 1) (bit_at_or a b (y % 64))
          ∙ one_of_two (bit_at a (y % 64)) (bit_at b (y % 64)) (bit_at-lt a (y % 64)) (bit_at-lt b (y % 64))

      -- after the shorter row the bits are as they were
      above : length row ≤ y / 64 →
          has_bit (united ++ drop (length row) words) y ≡ (has_bit words y || has_bit row y)
      above high =
          let k = y / 64 in
          let a = get_or words k 0 in
          let back : length row + (k - length united) ≡ k = omega arith in
          ap (λ w. bit_at w (y % 64) == 1) (
          get_or-append_right united (drop (length row) words) k 0 (omega arith)
          ∙ get_or-drop (length row) words (k - length united) 0
          ∙ ap (λ i. get_or words i 0) back
          )
          ∙ sym (or-false (bit_at a (y % 64) == 1))
          ∙ ap (λ b. (bit_at a (y % 64) == 1) || b) (
          sym
          (ap (λ w. bit_at w (y % 64) == 1) (get_or_past row k 0 high)
          ∙ ap (λ n. n == 1) (bit_at-zero (y % 64)))
          )

-- the bits of a row in which the bit of a node was set
module _ (words : List ℕ) (node : ℕ) (within : node < 64 * length words) where
  -- the words with the node's bit set
  abbrev after : List ℕ
  after = set words (node / 64) (bit_or (get_or words (node / 64) 0) (1 * 2 ^ (node % 64) % 2 ^ 64))

  -- the node's own bit is set
  at_node : has_bit after node ≡ ((node == node) || has_bit words node)
  at_node =
      ap (λ w. bit_at w (node % 64) == 1) (get_or-set_same words (node / 64) _ 0 (omega arith))
      ∙ ap (λ n. n == 1) (bit_at_set_same w64 (get_or words (node / 64) 0) (node % 64) (omega arith))
      ∙ sym (ap (λ b. b || has_bit words node) (eq-eqb node node refl))

  -- another node's bit stays
  at_other : (y : ℕ) → node ≢ y → has_bit after y ≡ ((node == y) || has_bit words y)
  at_other y other =
      elim (cases_eq (y / 64) (node / 64)) [
        | inl word ↦
            ap (λ i. bit_at (get_or after i 0) (y % 64) == 1) word
            ∙ ap (λ w. bit_at w (y % 64) == 1) (get_or-set_same words (node / 64) _ 0 (omega arith))
            ∙ ap (λ n. n == 1)
            (bit_at_set_other w64 (get_or words (node / 64) 0) (node % 64) (omega arith) (y % 64)
            (λ bit. other (omega arith)))
            ∙ sym (ap (λ i. bit_at (get_or words i 0) (y % 64) == 1) word)
            ∙ sym (ap (λ b. b || has_bit words y) (ne_eqb node y other))
        | inr word ↦
            ap (λ w. bit_at w (y % 64) == 1) (get_or-set_other words (node / 64) (y / 64) _ 0 word)
            ∙ sym (ap (λ b. b || has_bit words y) (ne_eqb node y other))
      ]

  -- each bit after the node's was set
  pub has_set : (y : ℕ) → has_bit after y ≡ ((node == y) || has_bit words y)
  has_set y =
      elim (cases_eq node y) [
        | inl same ↦ subst (λ (z : ℕ). has_bit after z ≡ ((node == z) || has_bit words z)) same at_node
        | inr other ↦ at_other y other
      ]

-- the first two of three may change places
pub or_swap : (a b c : Bool) → (a || (b || c)) ≡ (b || (a || c))
or_swap true true c = refl
or_swap true false c = refl
or_swap false b c = refl
