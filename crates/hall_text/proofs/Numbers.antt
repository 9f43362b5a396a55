-- A decimal is read as its number.
use Rattle.canonical_sexp.proofs.Decimal.{number_from, number_from-decimal}
use Rattle.canonical_sexp.specs.Forms.{Finds}
use Rattle.hall_text.specs.Words.{number_in, value_from}
use Rattle.std.proofs.Common.{[], ap, arith, Bool, false, List, None, Option, refl, Some, sym, true, ℕ, ◌*◌, ◌+◌, ◌-◌}
use Rattle.std.proofs.Common.{◌<◌, ◌^◌, ◌∙◌, ◌∷◌, ◌≡◌}
use Rattle.std.proofs.lemmas.{Bool.lt-ltb, Bool.ltb-true, Slice.Eq.bytes_eq-Decides}
use Rattle.std.specs.{Fmt.decimal, Prelude.if◌then◌else◌, Prelude.nat_lt, Prelude.◌&&◌, Str.bytes_eq}

-- digits have the value here that they have in the library's decimals
value_is : (n : ℕ) (bytes : List ℕ) → value_from n bytes ≡ number_from n bytes
value_is n [] = refl
value_is n (byte ∷ bytes) = value_is (10 * n + (byte - 48)) bytes

-- the value of a number's decimal is the number
pub value-decimal : (n : ℕ) → n < 2 ^ 32 → value_from 0 (decimal n) ≡ n
value-decimal n small = value_is 0 (decimal n) ∙ number_from-decimal n (omega arith)

-- a test of two parts that both hold
both_hold : (a b : Bool) (n : ℕ) → a ≡ true → b ≡ true → (if a && b then Some n else None) ≡ Some n
both_hold a b n ha hb = rw ha (rw hb refl)

-- the decimal of a number of 32 bits is read as that number
pub number-found : (word : List ℕ) (n : ℕ) → n < 2 ^ 32 → word ≡ decimal n → number_in word ≡ Some n
number-found word n small is =
    let value : value_from 0 word ≡ n = ap (value_from 0) is ∙ value-decimal n small in
    let same : bytes_eq word (decimal (value_from 0 word)) ≡ true =
    (bytes_eq-Decides word (decimal (value_from 0 word))).1 (is ∙ ap decimal (sym value)) in
    let less : nat_lt (value_from 0 word) (2 ^ 32) ≡ true =
    ap (λ k. nat_lt k (2 ^ 32)) value ∙ lt-ltb n (2 ^ 32) small in
    both_hold (nat_lt (value_from 0 word) (2 ^ 32)) (bytes_eq word (decimal (value_from 0 word)))
    (value_from 0 word) less same
    ∙ ap (λ k. Some k) value

-- a word that is the decimal of no number of 32 bits is read as none
pub number-none : (word : List ℕ) → ((n : ℕ) → (n < 2 ^ 32) × (word ≡ decimal n) → ⊥) → number_in word ≡ None
number-none word none =
    cases (nat_lt (value_from 0 word) (2 ^ 32)) (bytes_eq word (decimal (value_from 0 word))) refl refl
  where
    -- not both tests can have held
    cases : (a b : Bool) → nat_lt (value_from 0 word) (2 ^ 32) ≡ a → bytes_eq word (decimal (value_from 0 word)) ≡ b
        → (if a && b then Some (value_from 0 word) else None) ≡ None
    cases true true ha hb = absurd
        (none (value_from 0 word) (
          ltb-true (value_from 0 word) (2 ^ 32) ha,
          (bytes_eq-Decides word (decimal (value_from 0 word))).0 hb,
        ))
    cases true false ha hb = refl
    cases false b ha hb = refl

-- a search for the number whose decimal the word is finds what the reader finds
pub number_is : (word : List ℕ) (found : Option ℕ) → Finds (λ n. (n < 2 ^ 32) × (word ≡ decimal n)) found
    → found ≡ number_in word
number_is word None none = sym (number-none word none)
number_is word (Some n) is = sym (number-found word n is.0 is.1)
