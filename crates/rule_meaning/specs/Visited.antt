-- The places that a quantifier has to visit.
use Rattle.std.specs.Prelude.{◌≡◌, ◌⊎◌, ℕ, Bool, true, List, Option, Some, slice_get}
use Rattle.std.specs.List.{Contains}
use Rattle.entry_order.specs.declared.three.Three.{Three}
use Rattle.entry_order.specs.declared.three.Three.TheVariants.{True}
use Rattle.rule_language.specs.declared.row.Row.{Row}
use Rattle.rule_language.specs.declared.formula.Formula.{Formula}
use Rattle.rule_meaning.specs.declared.quantifier.Quantifier.{Quantifier}
use Rattle.rule_meaning.specs.Judging.{if_meant}
use Rattle.rule_meaning.specs.Tests.{has_kind}

-- places of the quantifier's kind, so that its width counts them, and at each other row its body
-- counts as true
pub record IsVisitedFor (rows : List Row) (order : ℕ → ℕ → Three) (wholes : ℕ → Bool) (quantifier : Quantifier)
    (body : Formula) (env : ℕ → Option ℕ) (places : List ℕ) : Type 0 where
  pub kind : (j : ℕ) → Contains places j → has_kind quantifier.kind (slice_get rows j) ≡ true
  pub others : (j : ℕ) (row : Row) → slice_get rows j ≡ Some row → Contains places j
      ⊎ (if_meant rows order wholes quantifier.some body quantifier.v quantifier.kind quantifier.within env j ≡ True)
