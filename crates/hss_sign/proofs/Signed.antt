-- The signatures of a two-level key are signatures under its public key.
use Rattle.hss_sign.proofs.Numbers.{tree_within, whole_of}
use Rattle.hss_sign.specs.Signs.{HssSigns, leaves_in}
use Rattle.hss_sign.specs.TwoLevels.{hss_public, hss_signed, low_id, low_tree, top_tree, TwoLevelSecret}
use Rattle.hss_sign.specs.inside.Kept.{head_of}
use Rattle.lms_ots.proofs.{Candidates.length-signature_of, Candidates.length-u32str, Pieces.length-pieces}
use Rattle.lms_ots.specs.{Ots.signature_of, Ots.u32str, Parameters.parameters, declared.kind.OtsKind.OtsKind}
use Rattle.lms_sign.proofs.{Heights.leaves_of, Parts.fourth_part, Parts.length_parts}
use Rattle.lms_sign.proofs.Signatures.{index-signed, length-node, signed_signs}
use Rattle.lms_sign.specs.{Height.IsHeight, Height.lms_typecode, Secret.public_of, Secret.Secret, Secret.signed_by}
use Rattle.lms_sign.specs.Signs.{index_in, lms_signature_len}
use Rattle.lms_sign.specs.Tree.{lms_public, lms_signed, node, sibling}
use Rattle.sha2.proofs.Facts256.{length-sha256}
use Rattle.sha2.specs.Sha256.{sha256}
use Rattle.std.proofs.Common.{ap, arith, codes, drop, length, List, refl, sym, ℕ, ◌%◌, ◌*◌, ◌++◌, ◌+◌, ◌/◌, ◌<◌, ◌^◌}
use Rattle.std.proofs.Common.{◌∙◌, ◌≡◌}
use Rattle.std.proofs.lemmas.List.{append_assoc, drop_at, length-take-le, take-append-le}
use Rattle.std.specs.{Int.from_be_bytes, Int.w32, List.flat_map, List.range_with_len}

-- a signature of a tree has the length of its types
length-lms_signed : (kind : OtsKind) (h : ℕ) (id seed : List ℕ) (q : ℕ) (message : List ℕ)
    → length (lms_signed kind h id seed q message) ≡ lms_signature_len kind h
unfolding lms_signed
length-lms_signed kind h id seed q message =
    let beside : ℕ → List ℕ = λ i. node kind h id seed i (sibling h q i) in
    let path : length (flat_map beside (range_with_len 0 h)) ≡ 32 * h =
    length-pieces beside (λ i. length-node kind h id seed i (sibling h q i)) 0 h in
    length_parts (u32str q) (signature_of kind id q seed message) (u32str (lms_typecode h))
    (flat_map beside (range_with_len 0 h))
    ∙ omega (
      arith,
      path,
      length-u32str q,
      length-u32str (lms_typecode h),
      length-signature_of kind id q seed message,
    )

-- a public key of a tree has 56 bytes
pub length-lms_public : (kind : OtsKind) (h : ℕ) (id seed : List ℕ) → length id ≡ 16
    → length (lms_public kind h id seed) ≡ 56
unfolding lms_public
length-lms_public kind h id seed lid =
    let one_time : ℕ = (parameters kind).typecode in
    length_parts (u32str (lms_typecode h)) (u32str one_time) id (node kind h id seed h 1)
    ∙ omega (arith, lid, length-u32str (lms_typecode h), length-u32str one_time, length-node kind h id seed h 1)

-- an identifier of a low tree has 16 bytes
pub length-low_id : (id seed : List ℕ) (i : ℕ) → length (low_id id seed i) ≡ 16
unfolding low_id
length-low_id id seed i =
    let digest : List ℕ = sha256 (codes "auditorium hss id" ++ id ++ u32str i ++ seed) in
    length-take-le 16 digest (omega (arith, length-sha256 (codes "auditorium hss id" ++ id ++ u32str i ++ seed)))

-- what the kept low tree signs is the signature of its number
pub signed_is : (s : TwoLevelSecret) (i q : ℕ) (key : Secret) (head items message : List ℕ)
    → s.next / 2 ^ s.low ≡ i → s.next % 2 ^ s.low ≡ q → key ≡ low_tree s i q → head ≡ head_of (top_tree s i) key
    → items ≡ head ++ signed_by key message → items ≡ hss_signed s s.next message
unfolding hss_signed
signed_is s i q key head items message ei eq ek eh e =
    let low : Secret = low_tree s (s.next / 2 ^ s.low) (s.next % 2 ^ s.low) in
    let tree : key ≡ low =
    ek ∙ ap (λ (n : ℕ). low_tree s n q) (sym ei) ∙ ap (low_tree s (s.next / 2 ^ s.low)) (sym eq) in
    e ∙ ap (λ (front : List ℕ). front ++ signed_by key message) eh
    ∙ ap (λ (k : Secret). head_of (top_tree s i) k ++ signed_by k message) tree
    ∙ ap (λ (n : ℕ). head_of (top_tree s n) low ++ signed_by low message) (sym ei)

-- what is signed is a signature under the public key
pub signed_verifies : (s : TwoLevelSecret) (message : List ℕ) → IsHeight s.top → IsHeight s.low → length s.id ≡ 16
    → s.next < 2 ^ (s.top + s.low) → HssSigns (hss_public s) message (hss_signed s s.next message)
unfolding hss_public hss_signed
signed_verifies s message top low lid left =
    let i : ℕ = s.next / 2 ^ s.low in
    let q : ℕ = s.next % 2 ^ s.low in
    let tree : Secret = low_tree s i q in
    record {
      top_key = public_of (top_tree s 0);
      top_signature = signed_by (top_tree s i) (public_of tree);
      low_key = public_of tree;
      low_signature = signed_by tree message;
      key_is = refl;
      signature_is = refl;
      top_signs = signed_signs s.kind s.top s.id s.seed i (public_of tree) top lid
          (tree_within s.top s.low s.next top low left);
      low_signs = signed_signs s.kind s.low tree.id tree.seed q message low (length-low_id s.id s.seed i)
          ((whole_of s.low s.next low).1);
    }

-- a signature begins with its index, also where more follows
index_first : (kind : OtsKind) (h : ℕ) (id seed : List ℕ) (q : ℕ) (message rest : List ℕ) → q < 2 ^ 32
    → index_in (lms_signed kind h id seed q message ++ rest) ≡ q
index_first kind h id seed q message rest small =
    ap (from_be_bytes w32) (take-append-le 4 (lms_signed kind h id seed q message) rest
    (omega (arith, length-lms_signed kind h id seed q message)))
    ∙ index-signed kind h id seed q message small

-- what is signed names its leaves
pub leaves_named : (s : TwoLevelSecret) (message : List ℕ) → IsHeight s.top → IsHeight s.low
    → s.next < 2 ^ (s.top + s.low) → leaves_in s.kind s.top (hss_signed s s.next message)
    ≡ (s.next / 2 ^ s.low, s.next % 2 ^ s.low)
unfolding hss_signed
leaves_named s message top low left =
    let i : ℕ = s.next / 2 ^ s.low in
    let q : ℕ = s.next % 2 ^ s.low in
    let tree : Secret = low_tree s i q in
    let a : List ℕ = u32str 1 in
    let b : List ℕ = signed_by (top_tree s i) (public_of tree) in
    let p : List ℕ = public_of tree in
    let d : List ℕ = signed_by tree message in
    let whole : List ℕ = a ++ b ++ p ++ d in
    let la : length a ≡ 4 = length-u32str 1 in
    let lb : length b ≡ lms_signature_len s.kind s.top =
    length-lms_signed s.kind s.top s.id s.seed i (public_of tree) in
    let lp : length p ≡ 56 = length-lms_public s.kind s.low tree.id tree.seed (length-low_id s.id s.seed i) in
    let few = (leaves_of s.top top).1 in
    let small = (leaves_of s.low low).1 in
    let tree_below : i < 2 ^ s.top = tree_within s.top s.low s.next top low left in
    let leaf_below : q < 2 ^ s.low = (whole_of s.low s.next low).1 in
    let at : ℕ = 4 + lms_signature_len s.kind s.top + 56 in
    let first : drop 4 whole ≡ b ++ (p ++ d) =
    ap (drop 4) (append_assoc (a ++ b) p d ∙ append_assoc a b (p ++ d)) ∙ drop_at a (b ++ (p ++ d)) 4 la in
    let second : drop at whole ≡ d = fourth_part a b p d at (omega (arith, la, lb, lp)) in
    let top_leaf : index_in (drop 4 whole) ≡ i =
    ap index_in first
    ∙ index_first s.kind s.top s.id s.seed i (public_of tree) (p ++ d) (omega (arith, tree_below, few)) in
    let low_leaf : index_in (drop at whole) ≡ q =
    ap index_in second
    ∙ index-signed s.kind s.low tree.id tree.seed q message (omega (arith, leaf_below, small)) in
    ap (λ (x : ℕ). (x, index_in (drop at whole))) top_leaf ∙ ap (λ (y : ℕ). (i, y)) low_leaf
