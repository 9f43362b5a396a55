-- Other forms of being held before, each shown to be the same.
use Rattle.std.specs.Prelude.{◌↔◌, ◌⊎◌, ℕ, zero, suc, List, [], ◌∷◌, Option}
use Rattle.std.specs.List.{Contains}
use Rattle.entry_order.specs.declared.event.Event.{Event}
use Rattle.entry_order.specs.declared.step.Step.{Step}
use Rattle.entry_order.specs.Node.{Node}
use Rattle.entry_order.specs.Naming.{Distinct}
use Rattle.entry_order.specs.History.{held}
use Rattle.entry_order.specs.World.{World, start, sent_in, IsLegalNext, play}
use Rattle.entry_order.specs.HeldBefore.{WasSentAfter, HeldBefore}

module _ {T : Type 0} (w : World T) where
  -- when e was sent its maker held f
  abbrev pub HeldItself : T → T → Type 0
  HeldItself f e = (past : List (Event T)) × WasSentAfter w past e × Contains (held past) f

  -- from f through these to e, each was held when the next was sent
  abbrev pub IsChain : T → List T → T → Type 0
  IsChain f [] e = HeldItself f e
  IsChain f (g ∷ gs) e = HeldItself f g × IsChain g gs e

  -- by a list, as a path by names is
  abbrev pub HeldByChain : T → T → Type 0
  HeldByChain f e = (between : List T) × IsChain f between e

  -- by recursion, with a bound on how deep it goes
  abbrev pub HeldWithin : ℕ → T → T → Type 0
  HeldWithin zero f e = ⊥
  HeldWithin (suc n) f e = HeldItself f e ⊎ ((g : T) × HeldItself g e × HeldWithin n f g)

-- the three are one; the bound is the entry's stamp
abbrev pub FormsAgree : {T : Type 0} → (T → Node) → Type 0
FormsAgree {T} node =
    (next : ℕ → List (Event T) → Option T) (log machines : ℕ) (steps : List Step) →
    IsLegalNext node next →
    let w = play node next log (start machines) steps in
    Distinct node (sent_in w) →
    (f e : T) → (HeldByChain w f e ↔ HeldBefore w f e)
    × (HeldWithin w (node e).stamp f e ↔ HeldBefore w f e)
