-- Leaves that are kept with the checkpoints of their one-time keys.
use Rattle.std.specs.Prelude.{◌≡◌, ℕ, ◌+◌, ◌^◌, ◌<◌, ◌≤◌, List, length, vec_len, slice_index_or}
use Rattle.std.specs.List.{All}
use Rattle.lms_ots.specs.declared.kind.OtsKind.{OtsKind}
use Rattle.lms_ots.specs.Checkpoints.{AreCheckpoints, checkpoint_count}
use Rattle.lms_sign.specs.declared.leaves.Leaf.{Leaf}
use Rattle.lms_sign.specs.Tree.{node}

-- each leaf has room for at most the checkpoints of its key
abbrev pub AreBlank : OtsKind → List Leaf → Type 0
AreBlank kind leaves = All (λ (l : Leaf). vec_len l.checkpoints ≤ checkpoint_count kind) leaves

-- the leaf has the value of leaf q, and checkpoints of its key
abbrev pub IsLeaf : OtsKind → ℕ → List ℕ → List ℕ → ℕ → Leaf → Type 0
IsLeaf kind h id seed q l =
    (l.value ≡ node kind h id seed 0 (2 ^ h + q)) × AreCheckpoints kind id q seed l.checkpoints.items

-- the leaves are all those of the tree
abbrev pub AreLeaves : OtsKind → ℕ → List ℕ → List ℕ → List Leaf → Type 0
AreLeaves kind h id seed leaves = (length leaves ≡ 2 ^ h)
    × ((q : ℕ) (d : Leaf) → q < 2 ^ h → IsLeaf kind h id seed q (slice_index_or leaves q d))
