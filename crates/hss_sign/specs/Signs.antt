-- What verification accepts (RFC 8554, 6.3), with L = 2.
use Rattle.std.specs.Prelude.{◌≡◌, ℕ, ◌+◌, List, ◌++◌, drop}
use Rattle.lms_ots.specs.declared.kind.OtsKind.{OtsKind}
use Rattle.lms_ots.specs.Ots.{u32str}
use Rattle.lms_sign.specs.Signs.{Signs, index_in, lms_signature_len}

-- the signature is one of the message under the key: the top key signs the low key, and the low key
-- signs the message; `Signs` fixes the length of each part (RFC 8554, 6.3)
pub record HssSigns (key message signature : List ℕ) : Type 0 where
  pub top_key : List ℕ
  pub top_signature : List ℕ
  pub low_key : List ℕ
  pub low_signature : List ℕ
  pub key_is : key ≡ u32str 2 ++ top_key
  pub signature_is : signature ≡ u32str 1 ++ top_signature ++ low_key ++ low_signature
  pub top_signs : Signs top_key low_key top_signature
  pub low_signs : Signs low_key message low_signature

-- the leaf of the top tree and that of the low tree with which a signature was made (RFC 8554, 6.2)
abbrev pub leaves_in : OtsKind → ℕ → List ℕ → ℕ × ℕ
leaves_in kind top signature =
    (index_in (drop 4 signature), index_in (drop (4 + lms_signature_len kind top + 56) signature))
