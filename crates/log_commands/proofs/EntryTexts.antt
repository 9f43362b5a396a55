-- Words with a dot.
use Rattle.log_commands.proofs.Imports
use Imports.{[], agree_below_at, All, and_from, and_parts, ap, append_assoc, arith, Bool, by_digest, by_number}
use Imports.{Contains, decimal, decimal_injective, decode_of, decode_of-encode_lower, decode_of-same, drop}
use Imports.{encode_lower, encode_with, EntryName, inl, inr, IsBytes, IsDigestText, IsFirstDot, IsName, IsNameByte}
use Imports.{IsNamedBy, IsPlaceOf, IsSpelt, List, list_all, lower_digits, MeansEntry, member_at, None, not, Option}
use Imports.{Post, refl, SealedEntry, slice_index, Some, subst, suc, sym, take, true, true≢false, ℕ, ◌%◌, ◌++◌, ◌+◌}
use Imports.{◌/◌, ◌<◌, ◌==◌, ◌∙◌, ◌∷◌, ◌≡◌, ◌≢◌}

-- in front of the first dot is one text, and after it one
one_split : (a b c d : List ℕ) → All (λ byte. byte ≢ 46) a → All (λ byte. byte ≢ 46) c → a ++ 46 ∷ b ≡ c ++ 46 ∷ d →
    (a ≡ c) × (b ≡ d)
one_split [] b [] d none other e = (refl, cc)
one_split [] b (y ∷ c) d none other e = absurd (other 0 0 (omega arith) (let same : y ≡ 46 = cc in same))
one_split (x ∷ a) b [] d none other e = absurd (none 0 0 (omega arith) (let same : x ≡ 46 = cc in same))
one_split (x ∷ a) b (y ∷ c) d none other e =
    let heads : x ≡ y = cc in
    let rest : a ++ 46 ∷ b ≡ c ++ 46 ∷ d = cc in
    let same = one_split a b c d (λ i z within. none (suc i) z (omega arith))
    (λ i z within. other (suc i) z (omega arith))
    rest in
    (ap (λ h. h ∷ a) heads ∙ ap (λ t. y ∷ t) same.0, same.1)

-- a dot is no byte of a name
no_dot : (byte : ℕ) → IsNameByte byte → byte ≢ 46
no_dot byte (inl letter) e = omega arith
no_dot byte (inr digit) e = omega arith

-- so a name has none
name_has_no_dot : (name : List ℕ) → IsName name → All (λ byte. byte ≢ 46) name
name_has_no_dot name is = λ i d within. no_dot _ (is.bytes i d within)

-- a name and a dot are in front of the text after the first dot
pub dot_splits : (word : List ℕ) (dot : ℕ) (name rest : List ℕ) → IsFirstDot word (Some dot) → IsName name →
    word ≡ (name ++ 46 ∷ []) ++ rest → (take dot word ≡ name) × (drop (dot + 1) word ≡ rest)
dot_splits word dot name rest first is spelt =
    one_split (take dot word) (drop (dot + 1) word) name rest first.1 (name_has_no_dot name is)
    (sym first.0 ∙ spelt ∙ append_assoc name (46 ∷ []) rest)

-- whether a byte is no dot
abbrev is_no_dot : ℕ → Bool
is_no_dot byte = not (byte == 46)

-- none of the sixteen digits is one
hex_digit : (digit : ℕ) → digit < 16 → is_no_dot (slice_index lower_digits digit) ≡ true
hex_digit digit small = agree_below_at (λ d. is_no_dot (slice_index lower_digits d)) (λ _. true) 16 digit refl small

-- hexadecimal digits have no dot
hex_has_no_dot : (bytes : List ℕ) → IsBytes bytes → list_all is_no_dot (encode_lower bytes) ≡ true
unfolding encode_with
hex_has_no_dot [] h = refl
hex_has_no_dot (b ∷ rest) h =
    let small : b < 256 = h 0 in
    and_from (is_no_dot (slice_index lower_digits (b / 16))) _ (hex_digit (b / 16) (omega arith))
    (and_from (is_no_dot (slice_index lower_digits (b % 16))) _ (hex_digit (b % 16) (omega arith))
    (hex_has_no_dot rest (λ i. h (suc i))))

-- a text with a dot has one
dot_is_one : (a b : List ℕ) → list_all is_no_dot (a ++ 46 ∷ b) ≡ true → ⊥
dot_is_one [] b e = true≢false (sym e)
dot_is_one (x ∷ a) b e = dot_is_one a b (and_parts (is_no_dot x) (list_all is_no_dot (a ++ 46 ∷ b)) e).1

-- so a digest's text isn't a machine, a dot and more
digest_is_no_number : (word digest machine rest : List ℕ) → IsDigestText word digest →
    word ≡ (machine ++ 46 ∷ []) ++ rest →
    ⊥
digest_is_no_number word digest machine rest text spelt =
    dot_is_one machine rest
    (subst (λ w. list_all is_no_dot w ≡ true)
    (sym text.digits ∙ spelt ∙ append_assoc machine (46 ∷ []) rest) (hex_has_no_dot digest text.bytes))

-- a word says one thing
pub one_name : (word : List ℕ) (name other : EntryName) → IsSpelt name word → IsSpelt other word → name ≡ other
one_name word (by_digest d) (by_digest c) x y =
    ap by_digest (decode_of-same (encode_lower d) d c (decode_of-encode_lower d x.bytes)
    (ap decode_of (sym x.digits ∙ y.digits) ∙ decode_of-encode_lower c y.bytes))
one_name word (by_digest d) (by_number m n) x (is, small, spelt) =
    absurd (digest_is_no_number word d m (decimal n) x spelt)
one_name word (by_number m n) (by_digest d) (is, small, spelt) y =
    absurd (digest_is_no_number word d m (decimal n) y spelt)
one_name word (by_number m n) (by_number k l) (is, small, spelt) (is', small', spelt') =
    let same = one_split m (decimal n) k (decimal l) (name_has_no_dot m is) (name_has_no_dot k is')
    (sym (append_assoc m (46 ∷ []) (decimal n)) ∙ sym spelt ∙ spelt' ∙ append_assoc k (46 ∷ []) (decimal l)) in
    ap (λ t. by_number t n) same.0
    ∙ ap (by_number k) (decimal_injective n l (omega (arith, small)) (omega (arith, small')) same.1)

-- what a name says is of the list
pub named_has : (machines : List Post) (S : List SealedEntry) (name : EntryName) (e : SealedEntry) →
    IsNamedBy machines S name e → Contains S e
named_has machines S (by_digest d) e named = named.0
named_has machines S (by_number m n) e named = named.0

-- a place of what the word's name says is one of what the word means
pub place_means : (machines : List Post) (S : List SealedEntry) (word : List ℕ) (name : EntryName)
    (P : SealedEntry → Type 0) (found : Option ℕ) → IsSpelt name word →
    ((e : SealedEntry) → Contains S e → P e → IsNamedBy machines S name e) →
    ((e : SealedEntry) → IsNamedBy machines S name e → P e) → IsPlaceOf P S found →
    IsPlaceOf (MeansEntry machines S word) S found
place_means machines S word name P None spelt to from none =
    λ e has (other, said, named). none e has
    (from e (subst (λ n. IsNamedBy machines S n e) (sym (one_name word name other spelt said)) named))
place_means machines S word name P (Some at) spelt to from (e, is, holds) =
    (e, is, (name, spelt, to e (member_at S at e is) holds))
