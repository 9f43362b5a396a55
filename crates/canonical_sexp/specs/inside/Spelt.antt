-- Bytes that are the text of one tree, and bytes that are the texts of one row of trees.
use Rattle.std.specs.Prelude.{◌≡◌, ℕ, ◌-◌, List, [], refl}
use Rattle.std.specs.Coded.{Unit-prop, le_prop, Coded, Coded-set, code_by, coded_list, coded_ℕ}
use mathlib.Core.HLevel.{Σ_prop_path}
use Rattle.canonical_sexp.specs.declared.sexp.Sexp.{Sexp}
use Rattle.canonical_sexp.specs.declared.sexp.Sexp.TheVariants.{Atom, List as Branch}
use Rattle.canonical_sexp.specs.Forest.{Forest, no_trees, atom_then, list_then, forest_code}
use Rattle.canonical_sexp.specs.Sexp.{in_front}
use Rattle.canonical_sexp.specs.Text.{text_of, texts_of, AreWithin, IsWithin, Fits}

-- the bytes are the text of a tree within the limits, and of no other
abbrev pub IsSpelt : List ℕ → Type 0
IsSpelt bytes = (tree : Sexp) × (Fits tree × (bytes ≡ text_of tree)
    × ((other : Sexp) → Fits other → bytes ≡ text_of other → other ≡ tree))

-- the bytes are the texts of the members that a list within the limits may have, and of no others
abbrev pub AreSpelt : List ℕ → Type 0
AreSpelt bytes = (row : Forest) × (Fits (Branch row) × (bytes ≡ texts_of row)
    × ((other : Forest) → Fits (Branch other) → bytes ≡ texts_of other → other ≡ row))

-- a tree is stored as a row that it is alone in
abbrev pub first_in : Forest → Sexp
first_in no_trees = Atom []
first_in (atom_then octets rest) = Atom octets
first_in (list_then inner rest) = Branch inner

-- the row of one tree gives back that tree
pub alone : (tree : Sexp) → first_in (in_front tree no_trees) ≡ tree
alone (Atom octets) = refl
alone (Branch row) = refl

-- trees are stored as rows of one tree, so trees can be compared
abbrev pub sexp_code : Coded Sexp
sexp_code = code_by Forest forest_code (λ tree. in_front tree no_trees) first_in alone

-- being within the limits is a fact with one proof
AreWithin-prop : (depth : ℕ) (row : Forest) → IsProp (AreWithin depth row)
AreWithin-prop depth no_trees = Unit-prop
AreWithin-prop depth (atom_then octets rest) = hlevel (le_prop, AreWithin-prop depth rest)
AreWithin-prop depth (list_then inner rest) =
    hlevel (le_prop, AreWithin-prop (depth - 1) inner, AreWithin-prop depth rest)

IsWithin-prop : (depth : ℕ) (tree : Sexp) → IsProp (IsWithin depth tree)
IsWithin-prop depth (Atom octets) = le_prop
IsWithin-prop depth (Branch row) = hlevel (le_prop, AreWithin-prop (depth - 1) row)

tree_prop : (bytes : List ℕ) (tree : Sexp) → IsProp (Fits tree × (bytes ≡ text_of tree)
    × ((other : Sexp) → Fits other → bytes ≡ text_of other → other ≡ tree))
tree_prop bytes tree = hlevel (IsWithin-prop 8 tree, Coded-set (coded_list coded_ℕ), Coded-set sexp_code)

-- being the text of one tree is a fact with one proof
pub IsSpelt-prop : (bytes : List ℕ) → IsProp (IsSpelt bytes)
IsSpelt-prop bytes = λ x y. Σ_prop_path (tree_prop bytes) (y.1.2 x.0 x.1.0 x.1.1)

row_prop : (bytes : List ℕ) (row : Forest) → IsProp (Fits (Branch row) × (bytes ≡ texts_of row)
    × ((other : Forest) → Fits (Branch other) → bytes ≡ texts_of other → other ≡ row))
row_prop bytes row = hlevel (IsWithin-prop 8 (Branch row), Coded-set (coded_list coded_ℕ), Coded-set forest_code)

-- being the texts of one row is a fact with one proof
pub AreSpelt-prop : (bytes : List ℕ) → IsProp (AreSpelt bytes)
AreSpelt-prop bytes = λ x y. Σ_prop_path (row_prop bytes) (y.1.2 x.0 x.1.0 x.1.1)
