-- Verification, part by part.
use Rattle.hss_sign.specs.{Signs.HssSigns, inside.Below.SignsBelow}
use Rattle.lms_ots.proofs.Candidates.{length-u32str}
use Rattle.lms_ots.specs.{Ots.u32str, declared.kind.OtsKind.OtsKind}
use Rattle.lms_sign.proofs.Types.{same_types}
use Rattle.lms_sign.specs.Signs.{HasSignatureLen, HasTypes, lms_signature_len, Signs}
use Rattle.lms_sign.specs.declared.public.KeyFault.{KeyFault, TheVariants.Length, TheVariants.UnknownType}
use Rattle.std.proofs.Common.{ap, arith, Bool, drop, Err, false, IsErrOf, IsTrue, length, List, refl, subst, sym, take}
use Rattle.std.proofs.Common.{ℕ, ◌++◌, ◌+◌, ◌↔◌, ◌∙◌, ◌≡◌, ◌≤◌}
use Rattle.std.proofs.lemmas.List.{append_assoc, drop_at, length-append, take-append-drop, take_at}

-- the parts of a signature, by the length of the first
pub record IsDivided (top message parts : List ℕ) (len : ℕ) : Type 0 where
  pub long : len + 56 ≤ length parts
  pub top_signs : Signs top (take 56 (drop len parts)) (take len parts)
  pub low_signs : Signs (take 56 (drop len parts)) message (drop 56 (drop len parts))

-- the top key's types fix the length of its signature
length_is : (top low signed : List ℕ) (len : ℕ) → HasSignatureLen top len → Signs top low signed → length signed ≡ len
length_is top low signed len known signs =
    let (kind, height) = same_types top signs.kind known.kind signs.height known.height signs.types known.types in
    signs.signs.size ∙ ap (λ (k : OtsKind). lms_signature_len k signs.height) kind
    ∙ ap (lms_signature_len known.kind) height ∙ sym known.size

-- a signature below a top key has these three parts
pub divided : (top message parts : List ℕ) (len : ℕ) → HasSignatureLen top len → SignsBelow top message parts
    → IsDivided top message parts len
divided top message parts len known below =
    let a : List ℕ = below.top_signature in
    let b : List ℕ = below.low_key in
    let d : List ℕ = below.low_signature in
    let la : length a ≡ len = length_is top b a len known below.top_signs in
    let lb : length b ≡ 56 = below.low_signs.key_size in
    let whole : parts ≡ a ++ (b ++ d) = below.parts_are ∙ append_assoc a b d in
    let front : take len parts ≡ a = ap (take len) whole ∙ take_at a (b ++ d) len la in
    let rest : drop len parts ≡ b ++ d = ap (drop len) whole ∙ drop_at a (b ++ d) len la in
    let low : take 56 (drop len parts) ≡ b = ap (take 56) rest ∙ take_at b d 56 lb in
    let last : drop 56 (drop len parts) ≡ d = ap (drop 56) rest ∙ drop_at b d 56 lb in
    record {
      long = omega (arith, la, lb, ap length whole, length-append a (b ++ d), length-append b d);
      top_signs = rw (low, front) below.top_signs;
      low_signs = rw (low, last) below.low_signs;
    }

-- parts that are signed one by the other make a signature below the top key
pub below_of : (top message parts : List ℕ) (len : ℕ) → Signs top (take 56 (drop len parts)) (take len parts)
    → Signs (take 56 (drop len parts)) message (drop 56 (drop len parts)) → SignsBelow top message parts
below_of top message parts len top_signs low_signs =
    let rest : List ℕ = drop len parts in
    record {
      top_signature = take len parts;
      low_key = take 56 rest;
      low_signature = drop 56 rest;
      parts_are = sym (append_assoc (take len parts) (take 56 rest) (drop 56 rest)
          ∙ ap (λ (x : List ℕ). take len parts ++ x) (take-append-drop 56 rest) ∙ take-append-drop len parts);
      top_signs = top_signs;
      low_signs = low_signs;
    }

-- a signature begins with 1, and then comes what the top key signs; the public key begins with 2
pub begun : (key message signature : List ℕ) → HssSigns key message signature
    → (take 4 key ≡ u32str 2) × (take 4 signature ≡ u32str 1) × SignsBelow (drop 4 key) message (drop 4 signature)
begun key message signature signs =
    let a : List ℕ = signs.top_signature in
    let b : List ℕ = signs.low_key in
    let d : List ℕ = signs.low_signature in
    let whole : signature ≡ u32str 1 ++ (a ++ b ++ d) =
    signs.signature_is ∙ append_assoc (u32str 1 ++ a) b d ∙ append_assoc (u32str 1) a (b ++ d)
    ∙ ap (λ (x : List ℕ). u32str 1 ++ x) (sym (append_assoc a b d)) in (
      ap (take 4) signs.key_is ∙ take_at (u32str 2) signs.top_key 4 (length-u32str 2),
      ap (take 4) whole ∙ take_at (u32str 1) (a ++ b ++ d) 4 (length-u32str 1),
      record {
        top_signature = a;
        low_key = b;
        low_signature = d;
        parts_are = ap (drop 4) whole ∙ drop_at (u32str 1) (a ++ b ++ d) 4 (length-u32str 1);
        top_signs = subst (λ (x : List ℕ). Signs x b a)
            (sym (ap (drop 4) signs.key_is ∙ drop_at (u32str 2) signs.top_key 4 (length-u32str 2))) signs.top_signs;
        low_signs = signs.low_signs;
      },
    )

-- what begins as a two-level key and signature do, and goes on as a signature below, is a signature
pub signs_of : (key message signature : List ℕ) → take 4 key ≡ u32str 2 → take 4 signature ≡ u32str 1
    → SignsBelow (drop 4 key) message (drop 4 signature) → HssSigns key message signature
signs_of key message signature ek es below =
    let a : List ℕ = below.top_signature in
    let b : List ℕ = below.low_key in
    let d : List ℕ = below.low_signature in
    let whole : signature ≡ u32str 1 ++ (a ++ b ++ d) =
    sym (take-append-drop 4 signature) ∙ ap (λ (x : List ℕ). x ++ drop 4 signature) es
    ∙ ap (λ (x : List ℕ). u32str 1 ++ x) below.parts_are in
    record {
      top_key = drop 4 key;
      top_signature = a;
      low_key = b;
      low_signature = d;
      key_is = sym (take-append-drop 4 key) ∙ ap (λ (x : List ℕ). x ++ drop 4 key) ek;
      signature_is = whole ∙ ap (λ (x : List ℕ). u32str 1 ++ x) (append_assoc a b d)
          ∙ sym (append_assoc (u32str 1) a (b ++ d)) ∙ sym (append_assoc (u32str 1 ++ a) b d);
      top_signs = below.top_signs;
      low_signs = below.low_signs;
    }

-- what can't be is false
pub no_such : {A : Type 0} → (A → ⊥) → IsTrue false ↔ A
no_such none = (λ no. (cc), λ a. absurd (none a))

-- bytes that are refused as a key are none
pub no_key : (key : List ℕ) (e : KeyFault)
    → (IsErrOf {T = List ℕ} {E = KeyFault} (Err e) Length → length key ≡ 56 → ⊥)
    → (IsErrOf {T = List ℕ} {E = KeyFault} (Err e) UnknownType
    → (length key ≡ 56) × ((kind : OtsKind) (h : ℕ) → HasTypes key kind h → ⊥))
    → (kind : OtsKind) (h : ℕ) → length key ≡ 56 → HasTypes key kind h → ⊥
no_key key Length short unknown kind h size types = short refl size
no_key key UnknownType short unknown kind h size types = (unknown refl).1 kind h types

-- where the top key signs the low key, it remains that the low key signs the message
pub low_remains : (top message parts signed low last key : List ℕ) (len : ℕ) (b : Bool) → HasSignatureLen top len
    → signed ≡ take len parts → low ≡ take 56 (drop len parts) → last ≡ drop 56 (drop len parts) → key ≡ low
    → Signs top low signed → (IsTrue b ↔ Signs key message last) → IsTrue b ↔ SignsBelow top message parts
low_remains top message parts signed low last key len b known es el er ek first second = (
  λ yes. below_of top message parts len (rw (es, el) at first) (rw (ek, el, er) at (second.0 yes)),
  λ below. second.1 (rw (ek, el, er) (divided top message parts len known below).low_signs),
)
