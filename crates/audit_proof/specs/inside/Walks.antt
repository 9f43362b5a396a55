-- The line of a survivor that is being made.
use Rattle.std.specs.Prelude.{◌≡◌, ◌⊎◌, ℕ, zero, suc, ◌<◌, ◌≤◌, List, [], ◌∷◌, ◌++◌, length, All, map}
use Rattle.std.specs.Prelude.{Option, Some, None, replicate, slice_set, slice_index_or}
use Rattle.std.specs.Option.{option_or}
use Rattle.std.specs.List.{Contains, range_with_len}
use Rattle.precedence.specs.Graph.{Graph}
use Rattle.audit_proof.specs.declared.step.ProofStep.{ProofStep}
use Rattle.audit_proof.specs.Lines.{Line, IsOnLine, IsBegun, listed_in}

-- via which entry a place is reached, if it was noted
abbrev pub via_at : List (Option ℕ) → ℕ → Option ℕ
via_at vias p = slice_index_or vias p None

-- the notes with one more, where there was none
abbrev pub noted_one : List (Option ℕ) → ℕ → ℕ → List (Option ℕ)
noted_one vias place via = slice_set vias place (option_or (via_at vias place) (Some via))

-- the notes with these more
abbrev pub noted_all : List (Option ℕ) → List ℕ → ℕ → List (Option ℕ)
noted_all vias [] via = vias
noted_all vias (p ∷ parents) via = noted_all (noted_one vias p via) parents via

-- the steps once a place was visited: where it is noted it is a step, and its parents are noted
abbrev pub visited : (List (Option ℕ) → List ProofStep → List ProofStep) → (ℕ → List ℕ) → ℕ →
    Option ℕ → List (Option ℕ) → List ProofStep → List ProofStep
visited below parents a None vias steps = below vias steps
visited below parents a (Some via) vias steps =
    below (noted_all vias (parents a) a) (steps ++ (record { ancestor = a; via = via }) ∷ [])

-- the steps once all places below one were visited, from the greatest down
abbrev pub walked : (ℕ → List ℕ) → ℕ → List (Option ℕ) → List ProofStep → List ProofStep
walked parents zero vias steps = steps
walked parents (suc a) vias steps =
    visited (walked parents a) parents a (via_at vias a) vias steps

-- the line of a survivor: its parents are noted first
abbrev pub made_line : Graph → ℕ → Line
made_line graph entry =
    let vias = noted_all (replicate entry None) (graph.parents entry) entry in
    record { entry = entry; steps = walked graph.parents entry vias [] }

-- the lines of the first survivors
abbrev pub made_lines : Graph → ℕ → List Line
made_lines graph count = map (made_line graph) (range_with_len 0 count)

-- what was noted stays, each of these is noted, and what is new is one of them, via this entry
pub record IsNoted (old new : List (Option ℕ)) (parents : List ℕ) (via : ℕ) : Type 0 where
  pub each : length new ≡ length old
  pub kept : (p v : ℕ) → via_at old p ≡ Some v → via_at new p ≡ Some v
  pub all : (p : ℕ) → Contains parents p → (v : ℕ) × (via_at new p ≡ Some v)
  pub fresh : (p v : ℕ) → via_at new p ≡ Some v →
      (via_at old p ≡ Some v) ⊎ ((v ≡ via) × Contains parents p)

-- the places from x up to the entry are done: those that were noted are steps
pub record IsWalking (graph : Graph) (entry x : ℕ) (vias : List (Option ℕ)) (steps : List ProofStep)
    : Type 0 where
  pub each : length vias ≡ entry
  pub begun : IsBegun graph (record { entry = entry; steps = steps })
  pub above : All (λ step. x ≤ step.ancestor) steps
  pub noted : (p v : ℕ) → via_at vias p ≡ Some v →
      IsOnLine (record { entry = entry; steps = steps }) v × Contains (graph.parents v) p
  pub done : (p v : ℕ) → x ≤ p → via_at vias p ≡ Some v → Contains (listed_in steps) p
  pub next : (y p : ℕ) → IsOnLine (record { entry = entry; steps = steps }) y →
      Contains (graph.parents y) p → (p < entry) × ((v : ℕ) × (via_at vias p ≡ Some v))
  pub kept : All (λ step. via_at vias step.ancestor ≡ Some step.via) steps
  pub greatest : (p v : ℕ) → via_at vias p ≡ Some v → (y : ℕ) →
      IsOnLine (record { entry = entry; steps = steps }) y → Contains (graph.parents y) p → y ≤ v
