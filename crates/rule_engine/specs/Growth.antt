-- Rows that come after those that a rule was judged by.
use Rattle.std.specs.Prelude.{◌≡◌, ℕ, ◌<◌, ◌≤◌, false, List}
use Rattle.entry_order.specs.declared.three.Three.{Three}
use Rattle.precedence.specs.Known.{Known}
use Rattle.rule_language.specs.declared.row.Row.{Row}
use Rattle.rule_meaning.specs.Kleene.{is_true}

-- the survivors' rows, and what is known of their order
pub record Ready : Type 0 where
  pub rows : List Row
  pub known : Known

-- no row from this place on is known to come before one of those below it
abbrev pub ComesBeforeNone : ℕ → (ℕ → ℕ → Three) → Type 0
ComesBeforeNone count order =
    (y x : ℕ) → x < count → count ≤ y → is_true (order y x) ≡ false
