-- How far a row of tests is decided.
use Rattle.std.proofs.Common.{◌≡◌, ◌∙◌, ap, ℕ, ◌+◌, ◌<◌, ◌≤◌, Bool, true, false, not, List, [], ◌∷◌, length}
use Rattle.std.proofs.Common.{get_or, drop, refl, sym, subst, inl, inr}
use Rattle.std.specs.Prelude.{Result, Ok, Err, IsTrue, ◌↔◌}
use Rattle.std.proofs.lemmas.List.{drop_more, drop_all}
use Rattle.item_list.specs.Causes.{IsFirstOf, tests_of}

-- none of the first tests is true, so the rest of the row decides
abbrev pub IsDecidedFrom : {Cause : Type 0} → List (Bool × Cause) → ℕ → Type 0
IsDecidedFrom {Cause} row i =
    (answer : Result (Unit {0}) Cause) → IsFirstOf (tests_of (drop i row)) answer → IsFirstOf (tests_of row) answer

-- the rest of the row begins with the test at its place
rest_from : {Cause : Type 0} (row : List (Bool × Cause)) (i : ℕ) (test : Bool × Cause) → i < length row →
    test ≡ get_or row i test → test ∷ drop (i + 1) row ≡ drop i row
rest_from row i test within is = ap (λ t. t ∷ drop (i + 1) row) is ∙ sym (drop_more row i test within)

-- a test that fails leaves the rest of the row to decide
pub decided_more : {Cause : Type 0} (row : List (Bool × Cause)) (i : ℕ) (test : Bool × Cause) → i < length row →
    test ≡ get_or row i test → test.0 ≡ false → IsDecidedFrom row i → IsDecidedFrom row (i + 1)
decided_more {Cause} row i test within is untrue before = λ answer after.
    let not_true : IsTrue test.0 → ⊥ = λ holds. cc in
    let P : List (Bool × Cause) → Type 0 = λ rest. IsFirstOf (tests_of rest) answer in
    before answer (subst P (rest_from row i test within is) (inr (not_true, after)))

-- a test that holds after such ones gives the first cause
pub decided_here : {Cause : Type 0} (row : List (Bool × Cause)) (i : ℕ) (test : Bool × Cause) → i < length row →
    test ≡ get_or row i test → test.0 ≡ true → IsDecidedFrom row i → IsFirstOf (tests_of row) (Err test.1)
decided_here {Cause} row i (passes, cause) within is holds before =
    let P : List (Bool × Cause) → Type 0 = λ rest. IsFirstOf (tests_of rest) (Err cause) in
    before (Err cause) (subst P (rest_from row i (passes, cause) within is) (inl (holds, refl)))

-- where no test of the row holds there is no cause
pub decided_whole : {Cause : Type 0} (row : List (Bool × Cause)) (i : ℕ) → length row ≤ i → IsDecidedFrom row i →
    IsFirstOf (tests_of row) (Ok tt)
decided_whole {Cause} row i over before =
    let answer : Result (Unit {0}) Cause = Ok tt in
    let P : List (Bool × Cause) → Type 0 = λ rest. IsFirstOf (tests_of rest) answer in
    before answer (subst P (sym (drop_all i row over)) refl)

-- two facts that hold alike with a third
pub iff_trans : {A B C : Type 0} → A ↔ B → B ↔ C → A ↔ C
iff_trans first second = (λ a. second.0 (first.0 a), λ c. first.1 (second.1 c))

-- the negated test decides the negated cause
pub is_not : {A : Type 0} (test : Bool) → IsTrue test ↔ A → IsTrue (not test) ↔ (A → ⊥)
is_not true same = (λ untrue. cc, λ none. absurd (none (same.0 refl)))
is_not false same = (λ always. λ holds. let untrue : false ≡ true = same.1 holds in cc, λ none. refl)

-- of a row one answer alone is right
pub one_first : {Cause : Type 0} (row : List (Type 0 × Cause)) (answer other : Result (Unit {0}) Cause) →
    IsFirstOf row answer → IsFirstOf row other → answer ≡ other
one_first [] answer other first second = cc
one_first (cause ∷ row) answer other (inl (_, is)) (inl (_, also)) = cc (is, also)
one_first (cause ∷ row) answer other (inl (applies, _)) (inr (never, _)) = absurd (never applies)
one_first (cause ∷ row) answer other (inr (never, _)) (inl (applies, _)) = absurd (never applies)
one_first (cause ∷ row) answer other (inr (_, later)) (inr (_, after)) = one_first row answer other later after
