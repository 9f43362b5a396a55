-- Checkpoints: values along the chains of a key, which a signer may keep.
use Rattle.std.specs.Prelude.{◌≡◌, ℕ, ◌+◌, ◌*◌, ◌<◌, List, [], length, slice_index_or}
use Rattle.lms_ots.specs.declared.kind.OtsKind.{OtsKind}
use Rattle.lms_ots.specs.declared.kind.OtsKind.TheVariants.{W1, W2, W4, W8}
use Rattle.lms_ots.specs.Parameters.{parameters}
use Rattle.lms_ots.specs.Ots.{chain, secret_element}

-- the steps from one checkpoint of a chain to the next
abbrev pub stride : OtsKind → ℕ
stride W1 = 2
stride W2 = 4
stride W4 = 4
stride W8 = 16

-- the number of checkpoints of a chain: its start isn't one, and they don't go past its end
abbrev pub chain_checkpoints : OtsKind → ℕ
chain_checkpoints W1 = 0
chain_checkpoints W2 = 0
chain_checkpoints W4 = 3
chain_checkpoints W8 = 15

-- the number of checkpoints of a key
abbrev pub checkpoint_count : OtsKind → ℕ
checkpoint_count kind = (parameters kind).p * chain_checkpoints kind

-- checkpoint n of chain i, counted from 0: the secret element after n + 1 strides (RFC 8554, 4.3)
unfoldable pub checkpoint : OtsKind → List ℕ → ℕ → List ℕ → ℕ → ℕ → List ℕ
checkpoint kind id q seed i n = chain id q i 0 ((n + 1) * stride kind) (secret_element id q seed i)

-- the blocks are the key's checkpoints, chain by chain, from the first one on as far as they go
abbrev pub AreCheckpoints : OtsKind → List ℕ → ℕ → List ℕ → List (List ℕ) → Type 0
AreCheckpoints kind id q seed blocks = (i n : ℕ) → n < chain_checkpoints kind →
    i * chain_checkpoints kind + n < length blocks →
    slice_index_or blocks (i * chain_checkpoints kind + n) [] ≡ checkpoint kind id q seed i n
