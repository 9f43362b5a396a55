-- The variables that are bound at a place of a rule.
use Rattle.std.specs.Prelude.{ℕ, Bool, ◌&&◌, ◌==◌, nat_le, if◌then◌else◌, List, [], ◌∷◌, Option, Some, None}
use Rattle.rule_language.specs.declared.kind.Kind.{Kind}

-- the bound variables, the innermost first, each with the kind of its quantifier
abbrev pub Scope : Type 0
Scope = List (ℕ × Kind)

-- the kind of the quantifier that binds the variable; of a free variable there is none
abbrev pub kind_in : Scope → ℕ → Option Kind
kind_in [] v = None
kind_in (binding ∷ outer) v = if v == binding.0 then Some binding.1 else kind_in outer v

-- a variable is one lower-case letter
abbrev pub is_letter : ℕ → Bool
is_letter byte = nat_le 97 byte && nat_le byte 122
