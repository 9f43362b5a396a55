-- The greatest stamp is at least each stamp.
use Rattle.entry_order.proofs.Imports.Words.{[], ap, arith, Contains, fold, greatest_stamp, List, max, Node, suc, zero}
use Rattle.entry_order.proofs.{Imports.Words.ℕ, Imports.Words.◌∷◌, Imports.Words.◌≤◌, Lists.Contains-none}

module _ {T : Type 0} (node : T → Node) where
  -- a greatest stamp is at least what it began with
  pub top_at_least : (top : ℕ) (es : List T) → top ≤ fold (λ top e. max top (node e).stamp) top es
  top_at_least top [] = omega arith
  top_at_least top (z ∷ es) = let rest = top_at_least (max top (node z).stamp) es in omega arith

  -- a greatest stamp is at least each stamp that it was taken over
  top_above : (top : ℕ) (es : List T) (e : T) → Contains es e →
      (node e).stamp ≤ fold (λ top e. max top (node e).stamp) top es
  top_above top [] e c = absurd (Contains-none e c)
  top_above top (z ∷ es) e (zero, l, s) =
      omega (arith, ap (λ u. (node u).stamp) s, top_at_least (max top (node z).stamp) es)
  top_above top (z ∷ es) e (suc k, l, s) = top_above (max top (node z).stamp) es e (k, omega arith, s)

  -- each stamp is at most the greatest
  pub stamp_below : (es : List T) (e : T) → Contains es e → (node e).stamp ≤ greatest_stamp node es
  stamp_below es e c = top_above 0 es e c
