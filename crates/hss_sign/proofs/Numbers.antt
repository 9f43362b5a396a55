-- Numbers of signatures.
use Rattle.std.proofs.Common.{◌≡◌, ◌==◌, ℕ, ◌+◌, ◌*◌, ◌/◌, ◌%◌, ◌^◌, ◌<◌, ◌≤◌, ◌∙◌, Bool, false, sym, inl, inr, arith}
use Rattle.std.proofs.lemmas.Bool.{cases_lt, eq-eqb, true≢false}
use Rattle.lms_sign.specs.Height.{IsHeight}

-- a number whose tree and leaf are known
pub parts_of : (low i q n : ℕ) → IsHeight low → n ≡ i * 2 ^ low + q → q < 2 ^ low
    → (n / 2 ^ low ≡ i) × (n % 2 ^ low ≡ q)
parts_of low i q n (inl e) en within =
    let fits : q < 2 ^ 5 = rw e at within in
    let whole : n ≡ i * 2 ^ 5 + q = rw e at en in
    rw e (omega arith, omega arith)
parts_of low i q n (inr e) en within =
    let fits : q < 2 ^ 10 = rw e at within in
    let whole : n ≡ i * 2 ^ 10 + q = rw e at en in
    rw e (omega arith, omega arith)

-- after the last leaf of a tree comes the next tree
pub next_tree : (low i q n : ℕ) → IsHeight low → n ≡ i * 2 ^ low + q → q ≡ 2 ^ low → n / 2 ^ low ≡ i + 1
next_tree low i q n (inl e) en all =
    let fits : q ≡ 2 ^ 5 = rw e at all in
    let whole : n ≡ i * 2 ^ 5 + q = rw e at en in
    rw e (omega arith)
next_tree low i q n (inr e) en all =
    let fits : q ≡ 2 ^ 10 = rw e at all in
    let whole : n ≡ i * 2 ^ 10 + q = rw e at en in
    rw e (omega arith)

-- a number is that of its tree and leaf
pub whole_of : (low n : ℕ) → IsHeight low → (n ≡ n / 2 ^ low * 2 ^ low + n % 2 ^ low) × (n % 2 ^ low < 2 ^ low)
whole_of low n (inl e) = rw e (omega arith, omega arith)
whole_of low n (inr e) = rw e (omega arith, omega arith)

-- where leaves are left, the tree is one of the top tree's
pub tree_within : (top low n : ℕ) → IsHeight top → IsHeight low → n < 2 ^ (top + low) → n / 2 ^ low < 2 ^ top
tree_within top low n (inl t) (inl l) below = let h : n < 2 ^ (5 + 5) = rw (t, l) at below in rw (t, l) (omega arith)
tree_within top low n (inl t) (inr l) below = let h : n < 2 ^ (5 + 10) = rw (t, l) at below in rw (t, l) (omega arith)
tree_within top low n (inr t) (inl l) below = let h : n < 2 ^ (10 + 5) = rw (t, l) at below in rw (t, l) (omega arith)
tree_within top low n (inr t) (inr l) below = let h : n < 2 ^ (10 + 10) = rw (t, l) at below in rw (t, l) (omega arith)

-- a number that isn't the last one is below it
pub left_of : (n most : ℕ) (spent : Bool) → spent ≡ (n == most) → spent ≡ false → n ≤ most → n < most
left_of n most spent es unspent within =
    elim (cases_lt n most) [
      | inl lt ↦ lt
      | inr ge ↦ (let all : n ≡ most = omega arith in absurd (true≢false (sym (eq-eqb n most all) ∙ sym es ∙ unspent)))
    ]
