-- Graphs whose nodes list their parents.
use Rattle.entry_order.proofs.{Lists.Contains-none, Settled.list_all_each}
use Rattle.entry_order.specs.Ancestors.{Descends}
use Rattle.std.proofs.Common.{[], Bool, cond, false, List, refl, true, ℕ, ◌<◌, ◌≡◌}
use Rattle.std.proofs.lemmas.Bool.{ltb-true}
use Rattle.std.specs.{List.Contains, List.list_all, Prelude.nat_lt}

-- where only lists of lower nodes count, each parent is below its child
pub lower_lists_descend : (lists : ℕ → List ℕ) →
    Descends (λ i. cond (list_all (λ p. nat_lt p i) (lists i)) (lists i) [])
lower_lists_descend lists x z c = by (list_all (λ p. nat_lt p x) (lists x)) refl c
  where
    -- the same by whether all are lower
    by : (b : Bool) → list_all (λ p. nat_lt p x) (lists x) ≡ b → Contains (cond b (lists x) []) z → z < x
    by true all c = ltb-true z x (list_all_each (λ p. nat_lt p x) (lists x) all z c)
    by false some c = absurd (Contains-none z c)
