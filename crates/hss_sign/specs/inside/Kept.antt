-- What a secret key keeps between signatures.
use Rattle.std.specs.Prelude.{◌≡◌, ℕ, ◌+◌, ◌*◌, ◌/◌, ◌^◌, ◌≤◌, List, ◌++◌, Option, Some, None}
use Rattle.lms_ots.specs.Ots.{u32str}
use Rattle.lms_sign.specs.Secret.{Secret, public_of, signed_by}
use Rattle.hss_sign.specs.TwoLevels.{TwoLevelSecret, low_tree, top_tree}
use Rattle.hss_sign.specs.declared.low_tree.LowTree.{LowTree}

-- what the signatures of a low tree begin with, when the top tree signs its key with this leaf
abbrev pub head_of : Secret → Secret → List ℕ
head_of top low = u32str 1 ++ signed_by top (public_of low) ++ public_of low

-- the tree is low tree i, whose leaves before that of the next signature are used up
pub record IsKept (s : TwoLevelSecret) (i : ℕ) (tree : LowTree) : Type 0 where
  pub leaf : ℕ
  pub next : s.next ≡ i * 2 ^ s.low + leaf
  pub within : leaf ≤ 2 ^ s.low
  pub key : tree.key ≡ low_tree s i leaf
  pub head : tree.head.items ≡ head_of (top_tree s i) tree.key

-- the top tree has signed the key of the kept low tree last; with none kept, it is to sign that of
-- the next signature's tree
abbrev pub Keeps : TwoLevelSecret → Secret → Option LowTree → Type 0
Keeps s top None = top ≡ top_tree s (s.next / 2 ^ s.low)
Keeps s top (Some tree) = (i : ℕ) × (top ≡ top_tree s (i + 1)) × IsKept s i tree
