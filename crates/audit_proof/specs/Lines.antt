-- A proof of an audit: for some survivors, by their numbers, the ancestors of each, with a path to
-- each of them.
use Rattle.std.specs.Prelude.{◌≡◌, ◌⊎◌, ℕ, ◌<◌, List, map, AllPairs, All, Some, slice_get}
use Rattle.std.specs.List.{Contains}
use Rattle.precedence.specs.Graph.{Graph}
use Rattle.audit_proof.specs.declared.step.ProofStep.{ProofStep}

-- one line: an entry, and its ancestors, each with the entry via which it is reached
pub record Line : Type 0 where
  pub entry : ℕ
  pub steps : List ProofStep

-- the ancestors that are listed
abbrev pub listed_in : List ProofStep → List ℕ
listed_in steps = map (λ step. step.ancestor) steps

-- x is the line's entry, or is listed on it
abbrev pub IsOnLine : Line → ℕ → Type 0
IsOnLine line x = (x ≡ line.entry) ⊎ Contains (listed_in line.steps) x

-- x is the line's entry, or is listed on it before the k-th step
abbrev pub IsReached : Line → ℕ → ℕ → Type 0
IsReached line k x =
    (x ≡ line.entry)
    ⊎ ((j : ℕ) × (earlier : ProofStep) × (j < k) × (slice_get line.steps j ≡ Some earlier)
    × (earlier.ancestor ≡ x))

-- no parent of what is on the line is missing
abbrev pub LacksNoParent : Graph → Line → Type 0
LacksNoParent graph line =
    (x p : ℕ) → IsOnLine line x → Contains (graph.parents x) p → Contains (listed_in line.steps) p

-- what a line is as far as it goes: all are survivors; the ancestors fall; and each is a parent of
-- its via, which was reached before
pub record IsBegun (graph : Graph) (line : Line) : Type 0 where
  pub inside : (x : ℕ) → IsOnLine line x → x < graph.count
  pub falls : AllPairs (λ earlier later. later.ancestor < earlier.ancestor) line.steps
  pub reached : (k : ℕ) (step : ProofStep) → slice_get line.steps k ≡ Some step →
      IsReached line k step.via
  pub arrows : (k : ℕ) (step : ProofStep) → slice_get line.steps k ≡ Some step →
      Contains (graph.parents step.via) step.ancestor

-- a complete line: as far as it goes it is one, and no parent is missing
pub record IsLineOf (graph : Graph) (line : Line) : Type 0 where
  pub begun : IsBegun graph line
  pub closed : LacksNoParent graph line

-- the lines rise by their entries, and each is one of the graph; not every survivor needs one
pub record IsProofOf (graph : Graph) (lines : List Line) : Type 0 where
  pub rises : AllPairs (λ earlier later. earlier.entry < later.entry) lines
  pub each : All (IsLineOf graph) lines

-- every survivor has one
abbrev pub HasEachLine : Graph → List Line → Type 0
HasEachLine graph lines =
    (x : ℕ) → x < graph.count → (line : Line) × Contains lines line × (line.entry ≡ x)
