-- The elements of signatures.
use Rattle.std.specs.Prelude.{◌≡◌, ℕ, ◌+◌, ◌*◌, ◌<◌, List, [], length, slice_index_or}
use Rattle.lms_ots.specs.declared.kind.OtsKind.{OtsKind}
use Rattle.lms_ots.specs.Checkpoints.{chain_checkpoints, checkpoint}
use Rattle.lms_ots.specs.Digits.{coef}
use Rattle.lms_ots.specs.Ots.{chain, secret_element}

-- the element i of a signature, with the digits as bytes
abbrev pub signed_element : List ℕ → ℕ → List ℕ → List ℕ → ℕ → ℕ → List ℕ
signed_element id q seed digits w i = chain id q i 0 (coef digits i w) (secret_element id q seed i)

-- the blocks before place `end` are the key's checkpoints, chain by chain, from the first one on
abbrev pub AreKeptTo : OtsKind → List ℕ → ℕ → List ℕ → ℕ → List (List ℕ) → Type 0
AreKeptTo kind id q seed end blocks = (i n : ℕ) → n < chain_checkpoints kind →
    i * chain_checkpoints kind + n < end → i * chain_checkpoints kind + n < length blocks →
    slice_index_or blocks (i * chain_checkpoints kind + n) [] ≡ checkpoint kind id q seed i n
