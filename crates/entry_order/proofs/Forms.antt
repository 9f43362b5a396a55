-- The forms of being held before are one.
use Rattle.entry_order.proofs.Imports
use Imports.{FormsAgree, HeldBefore, HeldByChain, HeldItself, HeldWithin, IsChain, IsOrderly, List, Node, World, []}
use Imports.{arith, descendant, inl, inr, itself, play, start, suc, zero, ℕ, ◌++◌, ◌∷◌, ◌≤◌}
use Rattle.entry_order.proofs.{Orders.along, Orders.held_lower, Orders.held_rises, Plays.IsOrderly-play}
use Rattle.entry_order.proofs.Plays.{IsOrderly-start}

module _ {T : Type 0} (w : World T) where
  -- a chain with one more at its end
  chain_on : (f : T) (gs : List T) (g e : T) → IsChain w f gs g → HeldItself w g e → IsChain w f (gs ++ g ∷ []) e
  chain_on f [] g e c h = (c, h)
  chain_on f (d ∷ gs) g e c h = (c.0, chain_on d gs g e c.1 h)

  -- what is held by a list was held before
  from_chain : (f : T) (gs : List T) (e : T) → IsChain w f gs e → HeldBefore w f e
  from_chain f [] e (past, s, c) = itself past s c
  from_chain f (g ∷ gs) e ((past, s, c), rest) = along w f g e (itself past s c) (from_chain g gs e rest)

  -- what was held before is so by a list
  pub to_chain : (f e : T) → HeldBefore w f e → HeldByChain w f e
  to_chain f e (itself past s c) = ([], (past, s, c))
  to_chain f e (descendant {g = g} past s c h) =
      let (between, chain) = to_chain f g h in (between ++ g ∷ [], chain_on f between g e chain (past, s, c))

  -- what is held within a bound was held before
  from_within : (n : ℕ) (f e : T) → HeldWithin w n f e → HeldBefore w f e
  from_within zero f e h = absurd h
  from_within (suc n) f e (inl (past, s, c)) = itself past s c
  from_within (suc n) f e (inr (g, (past, s, c), rest)) = descendant past s c (from_within n f g rest)

module _ {T : Type 0} (node : T → Node) (w : World T) (orderly : IsOrderly node w) where
  -- what was held before is held within the stamp
  to_within : (f e : T) → HeldBefore w f e → (n : ℕ) → (node e).stamp ≤ n → HeldWithin w n f e
  to_within f e h zero l = absurd (omega (arith, held_rises node w orderly f e h))
  to_within f e (itself past s c) (suc n) l = inl (past, s, c)
  to_within f e (descendant {g = g} past s c h) (suc n) l =
      let b = held_lower node w orderly past e s g c in inr (g, (past, s, c), to_within f g h n (omega arith))

-- all forms are one in a world that was played
pub forms_agree : {T : Type 0} (node : T → Node) → FormsAgree node
forms_agree node next log machines steps lawful distinct f e =
    let w = play node next log (start machines) steps in
    let orderly = IsOrderly-play node next log lawful (start machines) steps (IsOrderly-start node machines) in (
      (λ c. from_chain w f c.0 e c.1, to_chain w f e),
      (from_within w (node e).stamp f e, λ h. to_within node w orderly f e h (node e).stamp (omega arith)),
    )
