-- A signature's candidate is the public key.
use Rattle.lms_ots.proofs.{DigitLemmas.coef_le, Imports.ap, Imports.append_assoc, Imports.arith}
use Rattle.lms_ots.proofs.Imports.{candidate_of, chain, cksm, coef, digit_of, drop-drop, drop_at, element_in, flat_map}
use Rattle.lms_ots.proofs.Imports.{fold, key_from_elements, length, length-append, length-sha256, List, message_hash}
use Rattle.lms_ots.proofs.Imports.{OtsKind, parameters, public_key, randomizer, randomizer_in, range_with_len, refl}
use Rattle.lms_ots.proofs.Imports.{secret_element, signature_len, signature_of, signed_element, step, suc, sym, take_at}
use Rattle.lms_ots.proofs.Imports.{u16str, u32str, zero, ℕ, ◌*◌, ◌++◌, ◌+◌, ◌-◌, ◌<◌, ◌^◌, ◌∙◌, ◌≡◌, ◌≤◌}
use Rattle.lms_ots.proofs.Pieces.{length-pieces, piece_at, same_pieces}

-- steps a number of times, from a place on
abbrev runs : List ℕ → ℕ → ℕ → ℕ → ℕ → List ℕ → List ℕ
runs id q i from n tmp = fold (step id q i) tmp (range_with_len from n)

-- some steps and then others are all these steps
runs-add : (id tmp : List ℕ) (q i from n m : ℕ)
    → runs id q i from (n + m) tmp ≡ runs id q i (from + n) m (runs id q i from n tmp)
runs-add id tmp q i from zero m =
    let e : zero + m ≡ m = omega arith in
    let f : from + zero ≡ from = omega arith in
    rw (e, f) refl
runs-add id tmp q i from (suc n) m =
    let e : suc n + m ≡ suc (n + m) = omega arith in
    let f : from + suc n ≡ from + 1 + n = omega arith in
    rw (e, f) (runs-add id (step id q i tmp from) q i (from + 1) n m)

-- two parts of a chain are one
pub chain-chain : (id tmp : List ℕ) (q i a most : ℕ) → a ≤ most
    → chain id q i a most (chain id q i 0 a tmp) ≡ chain id q i 0 most tmp
unfolding chain
chain-chain id tmp q i a most h =
    let first : a - 0 ≡ a = omega arith in
    let all : most - 0 ≡ a + (most - a) = omega arith in
    let at : 0 + a ≡ a = omega arith in
    let joined = runs-add id tmp q i 0 a (most - a) in
    rw (first, all) (sym (rw at at joined))

-- steps leave 32 bytes
length-runs : (id tmp : List ℕ) (q i from n : ℕ) → length tmp ≡ 32 → length (runs id q i from n tmp) ≡ 32
length-runs id tmp q i from zero h = h
length-runs id tmp q i from (suc n) h = length-runs id (step id q i tmp from) q i (from + 1) n (length-sha256 _)

-- a chain ends in 32 bytes
length-chain : (id tmp : List ℕ) (q i from to : ℕ) → length tmp ≡ 32 → length (chain id q i from to tmp) ≡ 32
unfolding chain
length-chain id tmp q i from to h = length-runs id tmp q i from (to - from) h

-- an element of the secret key has 32 bytes
length-secret : (id seed : List ℕ) (q i : ℕ) → length (secret_element id q seed i) ≡ 32
unfolding secret_element
length-secret id seed q i = length-sha256 _

-- an element of a signature has 32 bytes
pub length-signed : (id seed digits : List ℕ) (q w i : ℕ) → length (signed_element id q seed digits w i) ≡ 32
length-signed id seed digits q w i = length-chain id _ q i 0 (coef digits i w) (length-secret id seed q i)

-- a randomizer has 32 octets
pub length-randomizer : (id seed : List ℕ) (q : ℕ) → length (randomizer id q seed) ≡ 32
unfolding randomizer
length-randomizer id seed q = length-sha256 _

-- the lengths of the parts
pub length-u32str : (n : ℕ) → length (u32str n) ≡ 4
unfolding u32str
length-u32str n = refl

-- a signature has the length of its kind
pub length-signature_of : (kind : OtsKind) (id : List ℕ) (q : ℕ) (seed message : List ℕ)
    → length (signature_of kind id q seed message) ≡ signature_len kind
unfolding signature_of digit_of
length-signature_of kind id q seed message =
    let p : ℕ = (parameters kind).p in
    let c : List ℕ = randomizer id q seed in
    let t : List ℕ = u32str (parameters kind).typecode in
    let f : ℕ → List ℕ =
    λ i. chain id q i 0 (digit_of kind (message_hash id q c message) i) (secret_element id q seed i) in
    let ys : List ℕ = flat_map f (range_with_len 0 p) in
    let pieces : length ys ≡ 32 * p =
    length-pieces f (λ i. length-chain id _ q i 0 _ (length-secret id seed q i)) 0 p in
    omega (
      arith,
      pieces,
      length-u32str (parameters kind).typecode,
      length-randomizer id seed q,
      length-append t c,
      length-append (t ++ c) ys,
    )

-- what a signature made of these parts holds
randomizer_in_parts : (t c ys : List ℕ) → length t ≡ 4 → length c ≡ 32 → randomizer_in (t ++ c ++ ys) ≡ c
randomizer_in_parts t c ys lt lc = rw (append_assoc t c ys, drop_at t (c ++ ys) 4 lt) (take_at c ys 32 lc)

-- the element at a place is the one that was put there
element_in_parts : (t c : List ℕ) (f : ℕ → List ℕ) (n i : ℕ) → length t ≡ 4 → length c ≡ 32
    → ((i : ℕ) → length (f i) ≡ 32) → i < n
    → element_in (t ++ c ++ flat_map f (range_with_len 0 n)) i ≡ f i
element_in_parts t c f n i lt lc wide h =
    let ys : List ℕ = flat_map f (range_with_len 0 n) in
    let front : length (t ++ c) ≡ 36 = omega (arith, length-append t c) in
    let at : 0 + i ≡ i = omega arith in
    let piece = piece_at f wide 0 n i h in
    rw (← drop-drop (32 * i) 36 (t ++ c ++ ys), drop_at (t ++ c) ys 36 front) (rw at at piece)

-- the candidate of a signature is its key's public key
pub candidate-signed : (kind : OtsKind) (id : List ℕ) (q : ℕ) (seed message : List ℕ)
    → candidate_of kind id q message (signature_of kind id q seed message) ≡ public_key kind id q seed
unfolding candidate_of signature_of public_key key_from_elements digit_of
candidate-signed kind id q seed message =
    let w : ℕ = (parameters kind).w in
    let p : ℕ = (parameters kind).p in
    let t : List ℕ = u32str (parameters kind).typecode in
    let c : List ℕ = randomizer id q seed in
    let hash : List ℕ = message_hash id q c message in
    let digits : List ℕ = hash ++ u16str (cksm kind hash) in
    let signed : ℕ → List ℕ = λ i. chain id q i 0 (coef digits i w) (secret_element id q seed i) in
    let s : List ℕ = t ++ c ++ flat_map signed (range_with_len 0 p) in
    let same_c : randomizer_in s ≡ c = randomizer_in_parts t c _ (length-u32str _) (length-randomizer id seed q) in
    let wide : (i : ℕ) → length (signed i) ≡ 32 =
    λ i. length-chain id _ q i 0 (coef digits i w) (length-secret id seed q i) in
    let found : ℕ → List ℕ = λ i. chain id q i (coef digits i w) (2 ^ w - 1) (element_in s i) in
    let known : ℕ → List ℕ = λ i. chain id q i 0 (2 ^ w - 1) (secret_element id q seed i) in
    let each : (i : ℕ) → i < p → found (0 + i) ≡ known (0 + i) = λ i h.
    let at : 0 + i ≡ i = omega arith in
    rw at (ap (chain id q i (coef digits i w) (2 ^ w - 1))
    (element_in_parts t c signed p i (length-u32str _) (length-randomizer id seed q) wide h)
    ∙ chain-chain id (secret_element id q seed i) q i (coef digits i w) (2 ^ w - 1) (coef_le digits i w)) in
    let all : flat_map found (range_with_len 0 p) ≡ flat_map known (range_with_len 0 p) =
    same_pieces found known 0 p each in
    rw (same_c, all) refl
