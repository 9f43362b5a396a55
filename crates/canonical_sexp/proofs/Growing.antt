-- The sizes of rows: a member is smaller than its row, also as the row is built.
use Rattle.canonical_sexp.proofs.Imports.{suc, zero, List, [], ◌∷◌, length, get_or, ap, ◌≡◌, deep-Sexp, forest_of, ℕ}
use Rattle.canonical_sexp.proofs.Imports.{◌<◌, ◌≤◌, arith, Sexp, Atom, Forest, no_trees, atom_then, list_then, joined}
use Rattle.canonical_sexp.proofs.Imports.{size_of, in_front, Branch}

-- the member at a place is no deeper than its list's row is large
pub member_le : (trees : List Sexp) (i : ℕ) (tree : Sexp) → i < length trees → tree ≡ get_or trees i tree →
    deep-Sexp tree ≤ size_of (forest_of trees)
member_le [] i tree h is = absurd (omega arith)
member_le (Atom octets ∷ trees) zero tree h is = omega (arith, ap deep-Sexp is)
member_le (Branch inner ∷ trees) zero tree h is = omega (arith, ap deep-Sexp is)
member_le (Atom octets ∷ trees) (suc i) tree h is = omega (arith, member_le trees i tree (omega arith) is)
member_le (Branch inner ∷ trees) (suc i) tree h is = omega (arith, member_le trees i tree (omega arith) is)

-- larger than that of each member
abbrev pub weight : Sexp → ℕ
weight tree = size_of (in_front tree no_trees)

-- the parts of a row are no larger than it
size_of-joined-le : (done row : Forest) → size_of row ≤ size_of (joined done row)
size_of-joined-le no_trees row = omega arith
size_of-joined-le (atom_then octets rest) row = omega (arith, size_of-joined-le rest row)
size_of-joined-le (list_then inner rest) row = omega (arith, size_of-joined-le rest row)

-- no row has size 0
size_some : (row : Forest) → 0 < size_of row
size_some no_trees = omega arith
size_some (atom_then octets rest) = omega arith
size_some (list_then inner rest) = omega arith

-- nor is its first member
weight_in_front : (tree : Sexp) (rest : Forest) → weight tree ≤ size_of (in_front tree rest)
weight_in_front (Atom octets) rest = omega (arith, size_some rest)
weight_in_front (Branch inner) rest = omega (arith, size_some rest)

-- a member weighs less than its list
pub member_lighter : (done : Forest) (tree : Sexp) (rest : Forest) →
    weight tree < weight (Branch (joined done (in_front tree rest)))
member_lighter done tree rest =
    omega (arith, weight_in_front tree rest, size_of-joined-le done (in_front tree rest))
