-- How wide rules are, step by step.
use Rattle.rule_meaning.proofs.Imports
use Imports.{arith, Bool, Box, count_of_rows, EveryBefore, false, ForEvery, Formula, ForSome, Global, has_kind, Implies}
use Imports.{in_front, is_too_wide, Kind, length, List, no_trees, or-false, refl, Row, shape, Some, SomeBefore, tree_of}
use Imports.{Trees, true, view-Implies, widens, ◌||◌, ◌≡◌, ℕ}
use Rattle.std.proofs.lemmas.List.Recursion.{is_count_by}
use Rattle.rule_language.specs.declared.kind.Kind.TheVariants.{Any}
use Rattle.rule_meaning.proofs.Judges.{view-EveryBefore, view-ForEvery, view-ForSome, view-SomeBefore}

module _ (rows : List Row) (width : ℕ) where
  -- whether some quantifier of the formulas is too wide at this width
  abbrev wide : Trees → Bool
  wide trees = is_too_wide rows trees width

  -- a row is too wide where its first formula is or the others are
  pub wide-in_front : (f : Formula) (rest : Trees) → wide (in_front f rest) ≡ (wide (tree_of f) || wide rest)
  wide-in_front f rest = let (outer, parts, is) = shape f in rw (is rest, is no_trees, or-false) refl

  -- an `implies` is too wide where one of its formulas is
  pub wide-Implies : (f g : Box Formula Global) →
      wide (tree_of (Implies f g)) ≡ (wide (tree_of f.value) || wide (tree_of g.value))
  wide-Implies f g = rw (view-Implies f g, or-false) (wide-in_front f.value (tree_of g.value))

  -- an `every` widens what is in it by the rows of its kind
  pub wide-ForEvery : (v : ℕ) (kind : Kind) (body : Box Formula Global) →
      wide (tree_of (ForEvery v kind body)) ≡ widens rows kind (tree_of body.value) width
  wide-ForEvery v kind body = rw (view-ForEvery v kind body, or-false) refl

  -- a `some` widens what is in it by the rows of its kind
  pub wide-ForSome : (v : ℕ) (kind : Kind) (body : Box Formula Global) →
      wide (tree_of (ForSome v kind body)) ≡ widens rows kind (tree_of body.value) width
  wide-ForSome v kind body = rw (view-ForSome v kind body, or-false) refl

  -- an `every` with `before` widens what is in it by the rows of its kind
  pub wide-EveryBefore : (v : ℕ) (kind : Kind) (u : ℕ) (body : Box Formula Global) →
      wide (tree_of (EveryBefore v kind u body)) ≡ widens rows kind (tree_of body.value) width
  wide-EveryBefore v kind u body = rw (view-EveryBefore v kind u body, or-false) refl

  -- a `some` with `before` widens what is in it by the rows of its kind
  pub wide-SomeBefore : (v : ℕ) (kind : Kind) (u : ℕ) (body : Box Formula Global) →
      wide (tree_of (SomeBefore v kind u body)) ≡ widens rows kind (tree_of body.value) width
  wide-SomeBefore v kind u body = rw (view-SomeBefore v kind u body, or-false) refl

-- where the first of two tests holds it is the test of either
pub or_first : (a x y : Bool) → a ≡ x → a ≡ true → a ≡ (x || y)
or_first a x y is t = grind arith

-- where the first fails the second is the test of either
pub or_second : (a b x y : Bool) → a ≡ x → b ≡ y → a ≡ false → b ≡ (x || y)
or_second a b x y is is' t = grind arith

-- each row is of any kind
pub count_of_any : (rows : List Row) → length rows ≡ count_of_rows rows Any
count_of_any = is_count_by length (λ row. has_kind Any (Some row)) refl
    (λ row rows. omega arith)
