-- Keys and signatures of two levels, HSS with L = 2 (RFC 8554, 6.1 and 6.2).
use Rattle.std.specs.Prelude.{ℕ, ◌/◌, ◌%◌, ◌^◌, List, ◌++◌, take, codes}
use Rattle.sha2.specs.Sha256.{sha256}
use Rattle.lms_ots.specs.declared.kind.OtsKind.{OtsKind}
use Rattle.lms_ots.specs.Ots.{u32str}
use Rattle.lms_sign.specs.Secret.{Secret, public_of, signed_by}

-- what a secret key is made of: the heights of its trees, the top tree's identifier and seed, and
-- the number of its next signature
pub record TwoLevelSecret : Type 0 where
  pub kind : OtsKind
  pub top : ℕ
  pub low : ℕ
  pub id : List ℕ
  pub seed : List ℕ
  pub next : ℕ

-- the identifier of low tree i: this project's choice
unfoldable pub low_id : List ℕ → List ℕ → ℕ → List ℕ
low_id id seed i = take 16 (sha256 (codes "auditorium hss id" ++ id ++ u32str i ++ seed))

-- the seed of low tree i: this project's choice
unfoldable pub low_seed : List ℕ → List ℕ → ℕ → List ℕ
low_seed id seed i = sha256 (codes "auditorium hss seed" ++ id ++ u32str i ++ seed)

-- the top tree at leaf i (RFC 8554, 6)
abbrev pub top_tree : TwoLevelSecret → ℕ → Secret
top_tree s i = record { kind = s.kind; height = s.top; id = s.id; seed = s.seed; next = i }

-- low tree i at leaf q
abbrev pub low_tree : TwoLevelSecret → ℕ → ℕ → Secret
low_tree s i q = record {
  kind = s.kind;
  height = s.low;
  id = low_id s.id s.seed i;
  seed = low_seed s.id s.seed i;
  next = q;
}

-- the low tree of signature n, at its leaf: the low trees sign one after another
abbrev pub low_tree_of : TwoLevelSecret → ℕ → Secret
low_tree_of s n = low_tree s (n / 2 ^ s.low) (n % 2 ^ s.low)

-- the public key: L and the public key of the top tree (RFC 8554, 6.1)
unfoldable pub hss_public : TwoLevelSecret → List ℕ
hss_public s = u32str 2 ++ public_of (top_tree s 0)

-- signature n of a message: the number of signed public keys, the top tree's signature of the low
-- tree's public key, that key, and the low tree's signature of the message (RFC 8554, 6.2)
unfoldable pub hss_signed : TwoLevelSecret → ℕ → List ℕ → List ℕ
hss_signed s n message =
    let i = n / 2 ^ s.low in
    let low = low_tree s i (n % 2 ^ s.low) in
    u32str 1 ++ signed_by (top_tree s i) (public_of low) ++ public_of low ++ signed_by low message
