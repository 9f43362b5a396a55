-- The variables that are bound.
use Rattle.std.specs.Prelude.{ℕ, ◌<◌, Option}
use Rattle.rule_meaning.specs.declared.scope.Scope.{Scope, Empty, With'}
use Rattle.rule_meaning.specs.Meaning.{bind, unbound}

-- what the variables stand for
abbrev pub env_of : Scope → ℕ → Option ℕ
env_of Empty = unbound
env_of (With' v place p outer) = bind v place (env_of outer)

-- each variable stands for one of this many rows
abbrev pub BindsRows : ℕ → Scope → Type 0
BindsRows count Empty = Unit {0}
BindsRows count (With' v place p outer) = (place < count) × BindsRows count outer
