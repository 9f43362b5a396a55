-- Rounds after one that raises nothing.
use Rattle.entry_order.specs.{Node.Node, World.World}
use Rattle.held_counts.specs.inside.Counts.{spread, spread_times}
use Rattle.std.proofs.Common.{ap, arith, inl, inr, List, suc, sym, zero, ℕ, ◌∙◌, ◌≡◌, ◌≤◌}
use Rattle.std.proofs.lemmas.Bool.{cases_eq}

-- further rounds raise nothing where one round raises nothing
pub spread_times_fixed : {T : Type 0} (node : T → Node) (w : World T) (counts : List ℕ) (n m : ℕ) →
    spread node w 0 (spread_times node n w counts) ≡ spread_times node n w counts → n ≤ m →
    spread_times node m w counts ≡ spread_times node n w counts
spread_times_fixed node w counts n zero fixed le =
    let none : n ≡ 0 = omega arith in ap (λ k. spread_times node k w counts) (sym none)
spread_times_fixed node w counts n (suc m) fixed le =
    elim (cases_eq n (suc m)) [
      | inl same ↦ ap (λ k. spread_times node k w counts) (sym same)
      | inr other ↦ ap (spread node w 0) (spread_times_fixed node w counts n m fixed (omega arith)) ∙ fixed
    ]
