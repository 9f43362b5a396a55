-- What is kept between signatures.
use Rattle.hss_sign.proofs.{Numbers.next_tree, Numbers.parts_of, Numbers.whole_of, Signed.signed_is}
use Rattle.hss_sign.specs.TwoLevels.{hss_signed, low_tree_of, top_tree, TwoLevelSecret}
use Rattle.hss_sign.specs.declared.low_tree.LowTree.{LowTree}
use Rattle.hss_sign.specs.inside.Kept.{head_of, IsKept, Keeps}
use Rattle.lms_sign.specs.{Height.IsHeight, Secret.public_of, Secret.Secret, Secret.signed_by}
use Rattle.std.proofs.Common.{ap, arith, IfSome, inl, inr, List, None, Option, Some, subst, sym, ℕ, ◌%◌, ◌++◌, ◌+◌, ◌/◌}
use Rattle.std.proofs.{Common.◌<◌, Common.◌^◌, Common.◌∙◌, Common.◌≡◌, Common.◌≢◌, lemmas.Bool.cases_lt}

-- the kept tree has a leaf for the next signature
abbrev pub IsReady : TwoLevelSecret → Secret → LowTree → Type 0
IsReady s top tree = (i : ℕ) × (top ≡ top_tree s (i + 1)) × (kept : IsKept s i tree) × (kept.leaf < 2 ^ s.low)

-- where the low tree isn't used up, the tree that was kept before is ready for the next signature
pub from_kept : (s : TwoLevelSecret) (top : Secret) (old : Option LowTree) (tree : LowTree) → Keeps s top old
    → old ≡ Some tree → tree.key.next ≢ 2 ^ tree.key.height → IsReady s top tree
from_kept s top old tree keeps e left =
    let (i, at, kept) = subst (Keeps s top) e keeps in
    let next : tree.key.next ≡ kept.leaf = ap (λ (k : Secret). k.next) kept.key in
    let all : 2 ^ s.low ≡ 2 ^ tree.key.height = ap (λ (k : Secret). 2 ^ k.height) (sym kept.key) in
    let within = kept.within in
    let below : kept.leaf < 2 ^ s.low =
    elim (cases_lt kept.leaf (2 ^ s.low)) [
      | inl lt ↦ lt
      | inr ge ↦ (let spent : kept.leaf ≡ 2 ^ s.low = omega arith in absurd (left (next ∙ spent ∙ all)))
    ] in
    (i, at, kept, below)

-- a low tree that was made for the next signature is ready for it
pub from_made : (s : TwoLevelSecret) (top after key : Secret) (tree : LowTree) → IsHeight s.low
    → top ≡ top_tree s (s.next / 2 ^ s.low) → key ≡ low_tree_of s s.next → tree.key ≡ key
    → tree.head.items ≡ head_of top key → after ≡ record top { next = top.next + 1 } → IsReady s after tree
from_made s top after key tree low et ek em eh ea =
    let (whole, below) = whole_of s.low s.next low in (
      s.next / 2 ^ s.low,
      ea ∙ ap (λ (t : Secret). record t { next = t.next + 1 }) et,
      record {
        leaf = s.next % 2 ^ s.low;
        next = whole;
        within = omega (arith, below);
        key = em ∙ ek;
        head = eh ∙ ap (λ (t : Secret). head_of t key) et ∙ ap (head_of (top_tree s (s.next / 2 ^ s.low))) (sym em);
      },
      below,
    )

-- where no kept tree has a leaf left, the top tree is to sign the key of the next one
pub to_make : (s : TwoLevelSecret) (top : Secret) (old : Option LowTree) → IsHeight s.low → Keeps s top old
    → IfSome old (λ t. t.key.next ≡ 2 ^ t.key.height) → top ≡ top_tree s (s.next / 2 ^ s.low)
to_make s top None low keeps spent = keeps
to_make s top (Some tree) low (i, at, kept) spent =
    let all : kept.leaf ≡ 2 ^ s.low =
    sym (ap (λ (k : Secret). k.next) kept.key) ∙ spent ∙ ap (λ (k : Secret). 2 ^ k.height) kept.key in
    at ∙ ap (top_tree s) (sym (next_tree s.low i kept.leaf s.next low kept.next all))

-- the top tree's public key is that of the secret
pub top_public : (s : TwoLevelSecret) (top : Secret) (old : Option LowTree) → Keeps s top old
    → public_of top ≡ public_of (top_tree s 0)
top_public s top None keeps = ap public_of keeps
top_public s top (Some tree) (i, at, kept) = ap public_of at

-- what it signs is the next signature
pub ready_signs : (s : TwoLevelSecret) (top : Secret) (tree : LowTree) (items message : List ℕ) → IsHeight s.low
    → IsReady s top tree → items ≡ tree.head.items ++ signed_by tree.key message
    → items ≡ hss_signed s s.next message
ready_signs s top tree items message low (i, at, kept, below) e =
    let (number, leaf) = parts_of s.low i kept.leaf s.next low kept.next below in
    signed_is s i kept.leaf tree.key tree.head.items items message number leaf kept.key kept.head e

-- a refusal leaves it
pub stays : (s : TwoLevelSecret) (top : Secret) (tree after : LowTree) → IsReady s top tree → after.key ≡ tree.key
    → after.head ≡ tree.head → Keeps s top (Some after)
stays s top tree after (i, at, kept, below) ek eh = (
  i,
  at,
  record {
    leaf = kept.leaf;
    next = kept.next;
    within = kept.within;
    key = ek ∙ kept.key;
    head = ap (λ h. h.items) eh ∙ kept.head ∙ ap (head_of (top_tree s i)) (sym ek);
  },
)

-- a signature uses a leaf up
pub advances : (s : TwoLevelSecret) (top : Secret) (tree after : LowTree) → IsReady s top tree
    → after.key ≡ record tree.key { next = tree.key.next + 1 } → after.head ≡ tree.head
    → Keeps (record s { next = s.next + 1 }) top (Some after)
advances s top tree after (i, at, kept, below) ek eh =
    let number = kept.next in (
      i,
      at,
      record {
        leaf = kept.leaf + 1;
        next = omega (arith, number);
        within = omega (arith, below);
        key = ek ∙ ap (λ (k : Secret). record k { next = k.next + 1 }) kept.key;
        head = ap (λ h. h.items) eh ∙ kept.head ∙ ap (head_of (top_tree s i)) (sym ek);
      },
    )
