-- In an orderly world a stamp is at most how many entries were sent.
use Rattle.entry_order.proofs.Imports
use Imports.{Contains, Contains-head, Contains-later, Contains-map, IsOrderly, List, Node, World, [], arith, cases_eq}
use Imports.{cases_lt, eq-eqb, fold, held, inl, inr, le-length_from_below, length, length-map, list_any, list_any_of}
use Imports.{map, max, refl, sent_in, suc, true, zero, ℕ, ◌+◌, ◌-◌, ◌<◌, ◌==◌, ◌∷◌, ◌≡◌, ◌≤◌, ◌⊎◌}
use Rattle.entry_order.proofs.Orders.{held_was_sent, next_of, was_sent}

module _ {T : Type 0} (node : T → Node) where
  -- the greatest stamp is one of them, or what it began with
  attained_from : (top : ℕ) (es : List T) → (fold (λ top e. max top (node e).stamp) top es ≡ top) ⊎
      ((f : T) × Contains es f × ((node f).stamp ≡ fold (λ top e. max top (node e).stamp) top es))
  attained_from top [] = inl refl
  attained_from top (z ∷ es) =
      elim (attained_from (max top (node z).stamp) es) [
        | inl same ↦ elim (cases_lt top (node z).stamp)
            [ inl lt ↦ inr (z, Contains-head z es, omega arith) | inr le ↦ inl (omega arith) ]
        | inr (g, there, is) ↦ inr (g, Contains-later z es g there, is)
      ]

  module _ (w : World T) (orderly : IsOrderly node w) where
    -- below each stamp there are all stamps
    each_stamp : (n : ℕ) (e : T) → Contains (sent_in w) e → (node e).stamp ≤ n → (t : ℕ) → 1 ≤ t →
        t ≤ (node e).stamp → (f : T) × Contains (sent_in w) f × ((node f).stamp ≡ t)
    each_stamp zero e c fuel t low high = absurd (omega arith)
    each_stamp (suc n) e c fuel t low high =
        elim (cases_eq (node e).stamp t) [
          | inl s ↦ (e, c, s)
          | inr differs ↦
              let (past, s) = was_sent w e c in
              let stamp = (next_of node w orderly past e s).stamp in
              elim (attained_from 0 (held past)) [
                | inl none ↦ absurd (omega arith)
                | inr (g, there, is) ↦
                    each_stamp n g (held_was_sent node w orderly past e s g there) (omega arith) t low (omega arith)
              ]
        ]

    -- the number of stamps below an entry's, which count from 1
    abbrev before : T → ℕ
    before x = (node x).stamp - 1

    -- a stamp is at most the number of entries that were sent
    pub stamps_are_few : (e : T) → Contains (sent_in w) e → (node e).stamp ≤ length (sent_in w)
    stamps_are_few e c =
        let each : (q : ℕ) → q < (node e).stamp → list_any (λ k. q == k) (map before (sent_in w)) ≡ true = λ q low.
        let (g, there, is) = each_stamp (node e).stamp e c (omega arith) (q + 1) (omega arith) (omega arith) in
        list_any_of _ _ (before g) (Contains-map before _ g there) (eq-eqb q (before g) (omega arith)) in
        omega (arith, length-map (sent_in w) before, le-length_from_below (map before (sent_in w)) (node e).stamp each)
