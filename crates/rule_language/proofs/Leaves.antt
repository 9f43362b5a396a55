-- The words of single tokens.
use Rattle.roster.specs.declared.post.Role.TheVariants as role
use Rattle.rule_language.specs.declared.kind.Kind.TheVariants as kind
use Rattle.rule_language.specs.declared.kind.Field.TheVariants as field
use Rattle.rule_language.specs.declared.kind.Sort.TheVariants as sort
use Rattle.rule_language.specs.declared.form.Head.TheVariants as head
use Rattle.hall_text.proofs.Numbers.{number-found, number-none}
use Rattle.hall_text.specs.Words.{number_in, value_from}
use Rattle.input_causes.specs.declared.rules.RuleWhy.TheVariants.{Shape, UnknownKind}
use Rattle.rule_language.proofs.Exact.{bad, bytes_same, Fine, good, if_cases, IsExact, take_exact}
use Rattle.rule_language.proofs.Imports.{[], and_parts, AreDigits, arith, Bool, codes, decimal, decimal_digits}
use Rattle.rule_language.proofs.Imports.{bytes_eq, entry_kinds, eqb-true, false, Field, field_named, field_sort, field_word}
use Rattle.rule_language.proofs.Imports.{fields, first_named, Head, head_named, head_word, heads, is_among, is_bound}
use Rattle.rule_language.proofs.Imports.{is_letter, is_name, is_some, Kind, kind_in, kind_word, left, length, List}
use Rattle.rule_language.proofs.Imports.{nat_le, nat_tests, None, Number, Of, Ok, opening, Option, refl, Result, Role}
use Rattle.rule_language.proofs.Imports.{nat_lt, role_word, RuleWhy, Scope, Some, Sort, sort_of, subst, sym, take, Term}
use Rattle.rule_language.proofs.Imports.{term_word, Token, true, variable, ℕ, ◌&&◌, ◌<◌, ◌==◌, ◌^◌, ◌∷◌, ◌≡◌, ◌≤◌}
use Rattle.rule_language.specs.Kinds.{is_quantifier, role_named}
use Rattle.rule_language.specs.Reader.{a_kind, a_role, a_variable, new_variable}
use Rattle.rule_language.specs.Words.{bound_in, dotted_in, head_for, kind_for, letter_in, name_in, nested, number_or}
use Rattle.rule_language.specs.Words.{of_field, of_variable, or_cause, term_in, Typed, unbound_in, whose_sort}

-- a word is a letter or none
letter_fine : {P : ℕ → Type 0} (found : Option ℕ → Result ℕ RuleWhy) (w : Token) → Fine P (found None) →
    ((v : ℕ) → w ≡ variable v → is_letter v ≡ true → Fine P (found (Some v))) → Fine P (found (letter_in w))
letter_fine {P = P} found (v ∷ []) none some = if_cases (λ o. Fine P (found o)) _ _ _ (some v refl) (λ other. none)
letter_fine found w none some = none

-- a word names one of these things or none
named_fine : {A B : Type 0} {P : B → Type 0} (found : Option A → Result B RuleWhy) (word_of : A → List ℕ)
    (things : List A) (w : Token) → Fine P (found None) → ((a : A) → w ≡ word_of a → Fine P (found (Some a))) →
    Fine P (found (first_named word_of things w))
named_fine found word_of [] w none some = none
named_fine {P = P} found word_of (thing ∷ things) w none some = if_cases (λ o. Fine P (found o)) _ _ _
    (λ is. some thing (bytes_same w (word_of thing) is)) (λ other. named_fine found word_of things w none some)

-- a variable that is bound
pub variable_exact : (scope : Scope) →
    IsExact (a_variable scope) (λ v following. variable v ∷ following) (λ v. is_bound scope v ≡ true)
variable_exact scope = take_exact _ variable _ (λ w. letter_fine (bound_in scope) w bad
    (λ v spelt letter. if_cases (Fine _) _ _ _ (λ some. good (spelt, rw letter some)) (λ other. bad)))
    (λ v bound. grind (arith, nat_tests))

-- the variable is new
abbrev pub IsNew : Scope → ℕ → Type 0
IsNew scope v = (is_letter v ≡ true) × (is_some (kind_in scope v) ≡ false)

-- a variable that isn't bound yet
pub new_exact : (scope : Scope) → IsExact (new_variable scope) (λ v following. variable v ∷ following) (IsNew scope)
new_exact scope = take_exact _ variable _ (λ w. letter_fine (unbound_in scope) w bad
    (λ v spelt letter. if_cases (Fine _) _ _ _ (λ other. bad) (λ fresh. good (spelt, (letter, fresh)))))
    (λ v (letter, fresh). rw (letter, fresh) refl)

-- each word names what it is the word of
kind_named_word : (k : Kind) → kind_for (kind_word k) ≡ Ok k
kind_named_word kind.Any = refl
kind_named_word k = refl

-- the word of a field names it
field_named_word : (f : Field) → field_named (field_word f) ≡ Some f
field_named_word field.Maker = refl
field_named_word f = refl

-- the word of a role names it
role_named_word : (r : Role) → or_cause Shape (role_named (role_word r)) ≡ Ok r
role_named_word role.Supervisor = refl
role_named_word r = refl

-- the first word of a form names it
head_named_word : (h : Head) → head_named (head_word h) ≡ Some h
head_named_word head.ForEvery = refl
head_named_word h = refl

-- a kind
pub kind_exact : IsExact a_kind (λ k following. kind_word k ∷ following) (λ k. Unit {0})
kind_exact = take_exact _ kind_word _ (λ w. if_cases (Fine _) _ _ _ (λ other. bad)
    (λ other. named_fine (or_cause UnknownKind) kind_word entry_kinds w bad (λ k is. good (is, tt))))
    (λ k it. kind_named_word k)

-- a role
pub role_exact : IsExact a_role (λ r following. role_word r ∷ following) (λ r. Unit {0})
role_exact = take_exact _ role_word _
    (λ w. named_fine (or_cause Shape) role_word (role.Supervisor ∷ role.Booth ∷ []) w bad
    (λ r is. good (is, tt))) (λ r it. role_named_word r)

-- the quantifiers are few enough for one more
abbrev pub Fits : Scope → Head → Type 0
Fits scope h = (is_quantifier h && nat_le 4 (length scope)) ≡ false

-- a first word
pub head_exact : (scope : Scope) → IsExact (take (head_for scope)) (λ h following. head_word h ∷ following) (Fits scope)
head_exact scope = take_exact (head_for scope) head_word _ (λ w. named_fine (nested scope) head_word heads w bad
    (λ h is. if_cases (Fine _) _ _ _ (λ other. bad) (λ fits. good (is, fits))))
    (λ h fits. rw (head_named_word h) (rw fits refl))

-- a name that no rule has yet
abbrev pub IsFree : List Token → Token → Type 0
IsFree names name = (is_name name ≡ true) × (is_among name names ≡ false)

-- a rule's name
pub name_exact : (names : List Token) →
    IsExact (take (name_in names)) (λ name following. name ∷ following) (IsFree names)
name_exact names = take_exact (name_in names) (λ name. name) _
    (λ w. if_cases (Fine _) _ _ _ (λ named. if_cases (Fine _) _ _ _ (λ other. bad)
    (λ free. good (refl, (named, free)))) (λ other. bad)) (λ name (named, free). rw (named, free) refl)

-- what a formula begins with
abbrev pub start_word : Bool → Token
start_word true = left
start_word false = codes "true"

-- a parenthesis may open
abbrev pub MayOpen : ℕ → Bool → Type 0
MayOpen levels true = (levels == 0) ≡ false
MayOpen levels false = Unit {0}

-- the beginning of a formula
pub start_exact : (levels : ℕ) →
    IsExact (take (opening levels)) (λ opened following. start_word opened ∷ following) (MayOpen levels)
start_exact levels = take_exact (opening levels) start_word (MayOpen levels)
    (λ w. if_cases (Fine _) _ _ _ (λ is. good (bytes_same w (codes "true") is, tt))
    (λ other. if_cases (Fine _) _ _ _ (λ is. if_cases (Fine _) _ _ _ (λ none. bad)
    (λ some. good (bytes_same w left is, some))) (λ other. bad))) back
  where
    back : (opened : Bool) → MayOpen levels opened → opening levels (start_word opened) ≡ Ok opened
    back false may = refl
    back true some = rw some refl

-- a term is spelt so, and has its sort
abbrev IsTermOf : Scope → Token → Typed → Type 0
IsTermOf scope word typed = (word ≡ term_word typed.0) × (sort_of scope typed.0 ≡ Some typed.1)

-- a letter, a dot and a field
dotted_said : (scope : Scope) (w : Token) → Fine (IsTermOf scope w) (dotted_in scope w)
dotted_said scope (v ∷ dot ∷ name) =
    if_cases (Fine _) _ _ _ (λ is. by (kind_in scope v) refl (and_parts _ _ is)) (λ other. bad)
  where
    by : (o : Option Kind) → kind_in scope v ≡ o → (is_letter v ≡ true) × ((dot == 46) ≡ true) →
        Fine (IsTermOf scope (v ∷ dot ∷ name)) (of_variable v o name)
    by None bound is = bad
    by (Some k) bound (letter, dotted) = named_fine (of_field v k) field_word fields name bad
        (λ f is. if_cases (Fine _) _ _ _
        (λ has. good (rw (eqb-true dot 46 dotted, is) refl, rw (letter, bound, has) refl)) (λ other. bad))
dotted_said scope w = bad

-- a decimal
decimal_test : (w : Token) (n : ℕ) → (nat_lt n (2 ^ 32) && bytes_eq w (decimal n)) ≡ true →
    (nat_lt n (2 ^ 32) ≡ true) × (w ≡ decimal n)
decimal_test w n is = let (small, same) = and_parts _ _ is in (small, bytes_same w (decimal n) same)

-- a term
term_said : (scope : Scope) (w : Token) → Fine (IsTermOf scope w) (term_in scope w)
term_said scope w = if_cases (λ o. Fine (IsTermOf scope w) (number_or o (dotted_in scope w))) _ _ _
    (λ is. let (small, spelt) = decimal_test w (value_from 0 w) is in good (spelt, rw small refl))
    (λ other. dotted_said scope w)

-- no number begins with a letter
no_number : (v : ℕ) (word : Token) → is_letter v ≡ true → number_in (v ∷ word) ≡ None
no_number v word letter = number-none (v ∷ word) (λ n (small, spelt).
    let digits : AreDigits (v ∷ word) = subst AreDigits (sym spelt) (decimal_digits n (omega arith)) in
    let low : 97 ≤ v = grind (arith, nat_tests) in omega (arith, digits.0, digits.1))

-- a field of a kind that has it is found
field_is : (v : ℕ) (o : Option Kind) (f : Field) (s : Sort) → field_sort o f ≡ Some s →
    of_variable v o (field_word f) ≡ Ok (Of v f, s)
field_is v None f s e = cc e
field_is v (Some k) f s e = rw (field_named_word f) (grind (arith, nat_tests))

-- a term that has a sort is read from its word, with that sort
term_is : (scope : Scope) (t : Term) (s : Sort) → sort_of scope t ≡ Some s → term_in scope (term_word t) ≡ Ok (t, s)
term_is scope (Number n) s sorted =
    let less : n < 2 ^ 32 = grind (arith, nat_tests) in
    let same : sort.Count ≡ s = grind (arith, nat_tests) in rw (number-found (decimal n) n less refl, same) refl
term_is scope (Of v f) s sorted =
    let letter : is_letter v ≡ true = grind (arith, nat_tests) in
    rw (no_number v (46 ∷ field_word f) letter, letter) (field_is v (kind_in scope v) f s (rw letter at sorted))

-- the term has the sort, for which the test holds
abbrev pub IsTyped : Scope → (Sort → Bool) → Typed → Type 0
IsTyped scope test typed = (sort_of scope typed.0 ≡ Some typed.1) × (test typed.1 ≡ true)

-- a term for whose sort a test holds
pub term_exact : (scope : Scope) (test : Sort → Bool) → IsExact (take (λ word. whose_sort test (term_in scope word)))
    (λ typed following. term_word typed.0 ∷ following) (IsTyped scope test)
term_exact scope test = take_exact _ (λ typed. term_word typed.0) _ (λ w. by w (term_said scope w))
    (λ typed (sorted, fits). rw (term_is scope typed.0 typed.1 sorted) (rw fits refl))
  where
    by : (w : Token) {r : Result Typed RuleWhy} → Fine (IsTermOf scope w) r →
        Fine (λ typed. (w ≡ term_word typed.0) × IsTyped scope test typed) (whose_sort test r)
    by w bad = bad
    by w (good (spelt, sorted)) = if_cases (Fine _) _ _ _ (λ fits. good (spelt, (sorted, fits))) (λ other. bad)
