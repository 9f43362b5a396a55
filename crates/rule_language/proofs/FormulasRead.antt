-- Formulas are read exactly.
use Rattle.rule_language.specs.declared.form.Head.TheVariants as head
use Rattle.rule_language.specs.declared.form.Form.TheVariants as form
use Rattle.rule_language.proofs.Exact.{after_exact, alike, bind_exact, both_exact, closed_exact, give_exact}
use Rattle.rule_language.proofs.Exact.{if_next_exact, IsExact, join_exact, made_exact, only_exact, turned}
use Rattle.rule_language.proofs.Imports.{[], and_parts, ap, are_formulas, are_of_one_sort, arith, atom, Bool, bytes_eq}
use Rattle.rule_language.proofs.Imports.{can_bind, codes, count_of, drop, eqb-true, false, Form, form_end, get_or, give}
use Rattle.rule_language.proofs.Imports.{has_arity, has_order, Head, head_word, if◌then◌else◌, inl, inner, inr}
use Rattle.rule_language.proofs.Imports.{is_bound, is_closed, joined_trees, kind_word, left, length, List, nat_le}
use Rattle.rule_language.proofs.Imports.{nat_lt, nat_tests, ne_eqb, next, no_trees, None, Option, Read, refl, right}
use Rattle.rule_language.proofs.Imports.{Scope, scope_in, several, Some, Sort, sort_of, spelt, subst, suc, sym, Token}
use Rattle.rule_language.proofs.Imports.{tokens_then, tree_then, Trees, true, variable, zero, ℕ, ◌&&◌, ◌+◌, ◌-◌, ◌<◌}
use Rattle.rule_language.proofs.Imports.{◌==◌, ◌∙◌, ◌∷◌, ◌≡◌, ◌≤◌, ◌⊎◌}
use Rattle.rule_language.proofs.Leaves.{Fits, head_exact, IsNew, kind_exact, MayOpen, new_exact, role_exact}
use Rattle.rule_language.proofs.Leaves.{start_exact, start_word, term_exact, variable_exact}
use Rattle.rule_language.specs.{Kinds.is_same_sort, Lawful.is_shallow, Reader.Bound, Reader.quantified_tree}
use Rattle.rule_language.specs.{Reader.range, Reader.tree, Words.may_begin}
unfoldable use Rattle.rule_language.specs.Steps.{in_turn, closed, made_into}
unfoldable use Rattle.rule_language.specs.Reader.{quantified, after_head, inside, formula, row as in_row, parts}

-- formulas of such a number
abbrev pub Are : ℕ → Scope → (ℕ → Type 0) → Trees → Type 0
Are levels scope C trees = (are_formulas levels scope trees ≡ true) × C (count_of trees)

-- one formula where these variables are bound and so many more parentheses may open
abbrev pub IsOne : ℕ → Scope → Trees → Type 0
IsOne levels scope trees = (are_formulas levels scope trees ≡ true) × (count_of trees ≡ 1)

-- formulas and the parenthesis that ends them
abbrev pub ended_by : Trees → List Token → List Token
ended_by trees following = tokens_then trees (right ∷ following)

-- what is known of a form in a lawful row
pub may_stand : (levels : ℕ) (scope : Scope) (form : Form) (parts rest : Trees) →
    are_formulas levels scope (tree_then form parts rest) ≡ true →
    (is_shallow levels form ≡ true) × (is_closed scope form ≡ true) × (has_arity form (count_of parts) ≡ true)
    × (are_formulas (inner levels) (scope_in form scope) parts ≡ true) × (are_formulas levels scope rest ≡ true)
may_stand levels scope form parts rest good =
    let (here, others) = and_parts _ _ good in
    let (shallow, more) = and_parts _ _ here in
    let (closes, arity) = and_parts _ _ more in
    let (within, after) = and_parts _ _ others in (shallow, closes, arity, within, after)

-- the tokens of one row and another
joined_tokens : (a b : Trees) (following : List Token) →
    tokens_then a (tokens_then b following) ≡ tokens_then (joined_trees a b) following
joined_tokens no_trees b following = refl
joined_tokens (tree_then form parts rest) b following =
    ap (λ ws. spelt form (tokens_then parts (form_end form ws))) (joined_tokens rest b following)

-- what is lawful one after the other
joined_lawful : (levels : ℕ) (scope : Scope) (a b : Trees) → are_formulas levels scope a ≡ true →
    are_formulas levels scope b ≡ true → are_formulas levels scope (joined_trees a b) ≡ true
joined_lawful levels scope no_trees b first second = second
joined_lawful levels scope (tree_then form parts rest) b first second =
    let (shallow, closes, arity, within, after) = may_stand levels scope form parts rest first in
    rw (shallow, closes, arity, within) (joined_lawful levels scope rest b after second)

-- how many they are
joined_count : (a b : Trees) → count_of (joined_trees a b) ≡ count_of a + count_of b
joined_count no_trees b = omega arith
joined_count (tree_then form parts rest) b = omega (arith, joined_count rest b)

-- a formula and those after it
row_exact : (levels : ℕ) (scope : Scope) {formula others : Read Trees} (C : ℕ → Type 0) →
    IsExact formula tokens_then (IsOne levels scope) → IsExact others ended_by (Are levels scope C) →
    IsExact (in_row formula others) ended_by (Are levels scope (λ n. (0 < n) × C (n - 1)))
unfolding in_row
row_exact levels scope C exact more_exact = join_exact joined_trees _ _ exact (λ a. more_exact)
    (λ a b (lawful, one) (lawful_too, few).
    let count = joined_count a b in
    let less : count_of b ≡ count_of (joined_trees a b) - 1 = omega (arith, count, one) in (
      λ ws. joined_tokens a b (right ∷ ws),
      (joined_lawful levels scope a b lawful lawful_too, (omega (arith, count, one), subst C less few)),
    )) apart
  where
    apart : (t : Trees) → Are levels scope (λ n. (0 < n) × C (n - 1)) t →
        (a : Trees) × (b : Trees) × (joined_trees a b ≡ t) × IsOne levels scope a × Are levels scope C b
    apart no_trees (lawful, (some, few)) = absurd (omega arith)
    apart (tree_then form parts more) (lawful, (some, few)) =
        let (shallow, closes, arity, within, after) = may_stand levels scope form parts more lawful in
        let less : count_of more + 1 - 1 ≡ count_of more = omega arith in
        (tree form parts, more, refl, (rw (shallow, closes, arity, within) refl, refl), (after, subst C less few))

-- a form doesn't begin with what ends one, or with what names the entries before it
first_word : (form : Form) (following : List Token) → (bytes_eq (get_or (spelt form following) 0 []) right ≡ false)
    × (bytes_eq (get_or (spelt form following) 0 []) (codes "before") ≡ false)
first_word form.True following = (refl, refl)
first_word form following = (refl, refl)

-- no formula, and the parenthesis
ends_exact : (L : Trees → Type 0) → L no_trees → ((t : Trees) → L t → t ≡ no_trees) →
    IsExact (closed (give no_trees)) ended_by L
unfolding closed
ends_exact L none only = join_exact (λ a it. a) _ _ (give_exact no_trees) (λ a. only_exact right)
    (λ t it same m. rw same (λ ws. refl, none)) (λ t l. (no_trees, tt, sym (only t l), refl, tt))

-- up to so many formulas, and the parenthesis
parts_exact : (levels : ℕ) (scope : Scope) {formula : Read Trees} → IsExact formula tokens_then (IsOne levels scope) →
    (n : ℕ) → IsExact (parts n formula) ended_by (Are levels scope (λ k. k ≤ n))
unfolding parts
parts_exact levels scope exact zero = ends_exact _ (refl, omega arith) none
  where
    none : (t : Trees) → Are levels scope (λ k. k ≤ 0) t → t ≡ no_trees
    none no_trees is = refl
    none (tree_then f parts rest) (lawful, few) = absurd (omega arith)
parts_exact levels scope exact (suc n) = if_next_exact right (ends_exact (λ t. t ≡ no_trees) refl (λ t same. same))
    (row_exact levels scope (λ k. k ≤ n) exact (parts_exact levels scope exact n))
    (λ t same. rw same (λ ws. refl, (refl, omega arith)))
    (λ t (lawful, (some, few)). (λ ws. refl, (lawful, omega (arith, some, few)))) apart
  where
    apart : (t : Trees) (ws : List Token) → Are levels scope (λ k. k ≤ suc n) t →
        (t ≡ no_trees) × (bytes_eq (get_or (ended_by t ws) 0 []) right ≡ true)
        ⊎ Are levels scope (λ k. (0 < k) × (k - 1 ≤ n)) t × (bytes_eq (get_or (ended_by t ws) 0 []) right ≡ false)
    apart no_trees ws is = inl (refl, refl)
    apart (tree_then f parts rest) ws (lawful, few) =
        inr ((lawful, (omega arith, omega (arith, few))), (first_word f _).0)

-- 1 to 64 formulas, and the parenthesis
several_exact : (levels : ℕ) (scope : Scope) {formula : Read Trees} → IsExact formula tokens_then (IsOne levels scope) →
    IsExact (several formula) ended_by (Are levels scope (λ k. (0 < k) × (k - 1 ≤ 63)))
several_exact levels scope exact = row_exact levels scope (λ k. k ≤ 63) exact (parts_exact levels scope exact 63)

-- this reads one formula where so many more parentheses may open
abbrev pub ReadsOne : ℕ → (Scope → Read Trees) → Type 0
ReadsOne levels read = (scope : Scope) → IsExact (read scope) tokens_then (IsOne levels scope)

-- `before` and a variable, if it is named
abbrev range_then : Option ℕ → List Token → List Token
range_then None following = following
range_then (Some u) following = codes "before" ∷ variable u ∷ following

-- the variable is bound
abbrev RangeFits : Scope → Option ℕ → Type 0
RangeFits scope None = Unit {0}
RangeFits scope (Some u) = is_bound scope u ≡ true

-- the range of a quantifier and its body
ranged_exact : (levels : ℕ) (scope within : Scope) {body : Read Trees} →
    IsExact body tokens_then (IsOne levels within) →
    IsExact (in_turn (range scope) (λ u. closed body)) (λ p following. range_then p.0 (ended_by p.1 following))
    (λ p. RangeFits scope p.0 × IsOne levels within p.1)
unfolding in_turn
ranged_exact levels scope within {body = body} exact = alike
    (λ row. turned (bytes_eq (next row) (codes "before")) _ _ _) (if_next_exact (codes "before")
    (both_exact (made_exact Some range_then IsRange (after_exact (codes "before") (variable_exact scope))
    (λ u bound. (λ ws. refl, (u, refl, bound))) (λ o is. is)) (λ u. closed_exact exact))
    (both_exact (give_exact None) (λ u. closed_exact exact))
    (λ p ((u, same, bound), one). (λ ws. refl, (subst (RangeFits scope) same bound, one)))
    (λ p (none, one). (λ ws. rw none refl, (rw none tt, one))) apart)
  where
    IsRange : Option ℕ → Type 0
    IsRange o = (u : ℕ) × (Some u ≡ o) × (is_bound scope u ≡ true)

    apart : (p : Option ℕ × Trees) (ws : List Token) → RangeFits scope p.0 × IsOne levels within p.1 →
        (IsRange p.0 × IsOne levels within p.1)
        × (bytes_eq (get_or (range_then p.0 (ended_by p.1 ws)) 0 []) (codes "before") ≡ true)
        ⊎ ((p.0 ≡ None) × IsOne levels within p.1)
        × (bytes_eq (get_or (range_then p.0 (ended_by p.1 ws)) 0 []) (codes "before") ≡ false)
    apart (Some u, t) ws (fits, one) = inl (((u, refl, fits), one), refl)
    apart (None, no_trees) ws (fits, (lawful, one)) = absurd (omega arith)
    apart (None, tree_then f parts rest) ws (fits, one) = inr ((refl, one), (first_word f _).1)

-- the tokens of what a quantifier binds and of its body
abbrev bound_then : Bound → List Token → List Token
bound_then q following = variable q.0 ∷ kind_word q.1.0 ∷ range_then q.1.1.0 (ended_by q.1.1.1 following)

-- what a quantifier binds is lawful, and so is its body
abbrev BindsWell : ℕ → Scope → Bound → Type 0
BindsWell levels scope q = IsNew scope q.0 × (Unit {0} × (RangeFits scope q.1.1.0 × IsOne levels ((q.0, q.1.0) ∷ scope)
    q.1.1.1))

-- the head of a quantifier
abbrev quantifier_head : Bool → Head
quantifier_head true = head.ForEvery
quantifier_head false = head.ForSome

-- after its parenthesis and head that is spelt
bound_spelt : (every : Bool) (q : Bound) (following : List Token) →
    tokens_then (quantified_tree every q) following ≡ left ∷ head_word (quantifier_head every) ∷ bound_then q following
bound_spelt true (v, (k, (None, t))) following = refl
bound_spelt false (v, (k, (None, t))) following = refl
bound_spelt every (v, (k, (u, t))) following = refl

-- there are none in an atom
pub no_parts : (parts : Trees) → (count_of parts == 0) ≡ true → no_trees ≡ parts
no_parts no_trees none = refl
no_parts (tree_then f i more) none = absurd (omega (arith, eqb-true (count_of more + 1) 0 none))

-- the sorts of terms of one sort
pub sorts_of : (a b : Option Sort) → are_of_one_sort a b ≡ true →
    (s : Sort) × (o : Sort) × (a ≡ Some s) × (b ≡ Some o) × (is_same_sort s o ≡ true)
sorts_of (Some s) (Some o) e = (s, o, refl, refl, e)
sorts_of a b e = cc e

-- what holds of each form that may stand there holds of a formula
one_form : (levels : ℕ) (scope : Scope) (P : Trees → Type 0) → ((form : Form) (parts : Trees) →
    is_shallow levels form ≡ true → is_closed scope form ≡ true → has_arity form (count_of parts) ≡ true →
    are_formulas (inner levels) (scope_in form scope) parts ≡ true → P (tree form parts)) → (t : Trees) →
    IsOne levels scope t → P t
one_form levels scope P each no_trees (lawful, one) = absurd (omega arith)
one_form levels scope P each (tree_then f parts (tree_then g i more)) (lawful, one) = absurd (omega arith)
one_form levels scope P each (tree_then f parts no_trees) (lawful, one) =
    let (shallow, closes, arity, within, _) = may_stand levels scope f parts no_trees lawful in
    each f parts shallow closes arity within

-- of what a formula with this head is made, and that it is spelt so and lawful
record Way (levels : ℕ) (scope : Scope) (h : Head) : Type 1 where
  Thing : Type 0
  make : Thing → Trees
  read : Read Thing
  spell : Thing → List Token → List Token
  Lawful : Thing → Type 0
  exact : IsExact read spell Lawful
  spells : (a : Thing) (following : List Token) →
      tokens_then (make a) following ≡ left ∷ head_word h ∷ spell a following
  fits : Fits scope h → (a : Thing) → Lawful a → IsOne (suc levels) scope (make a)

-- 1 to 64
several_fit : (n : ℕ) → (0 < n) × (n - 1 ≤ 63) → (nat_lt 0 n && nat_le n 64) ≡ true
several_fit n (some, most) = grind (arith, nat_tests)

module _ (levels : ℕ) (read : Scope → Read Trees) (reads : ReadsOne levels read) (scope : Scope) where
  -- what a quantifier binds, and its body
  quantified_exact : IsExact (quantified read scope) bound_then (BindsWell levels scope)
  unfolding quantified
  quantified_exact = both_exact (new_exact scope) (λ v. both_exact kind_exact
      (λ k. ranged_exact levels scope ((v, k) ∷ scope) (reads ((v, k) ∷ scope))))

  -- a quantifier may stand where one more may nest
  bound_lawful : (every : Bool) → nat_le 4 (length scope) ≡ false → (q : Bound) → BindsWell levels scope q →
      IsOne (suc levels) scope (quantified_tree every q)
  bound_lawful every few (v, (k, (u, t))) ((letter, fresh), (_, (fits, (lawful, one)))) =
      by every u fits (grind (arith, nat_tests))
    where
      by : (every : Bool) (u : Option ℕ) → RangeFits scope u → can_bind scope v ≡ true →
          IsOne (suc levels) scope (quantified_tree every (v, (k, (u, t))))
      by true None fits can = (rw (can, one, lawful) refl, refl)
      by false None fits can = (rw (can, one, lawful) refl, refl)
      by true (Some w) fits can = (rw (can, fits, one, lawful) refl, refl)
      by false (Some w) fits can = (rw (can, fits, one, lawful) refl, refl)

  -- a way, from a reader that is exact
  abbrev way_of : {h : Head} {A : Type 0} {r : Read A} {s : A → List Token → List Token} {L : A → Type 0}
      (make : A → Trees) → IsExact r s L →
      ((a : A) (following : List Token) → tokens_then (make a) following ≡ left ∷ head_word h ∷ s a following) →
      (Fits scope h → (a : A) → L a → IsOne (suc levels) scope (make a)) → Way levels scope h
  way_of {A = A} {r = r} {s = s} {L = L} make exact spells fits =
      record { Thing = A; make = make; read = r; spell = s; Lawful = L; exact = exact; spells = spells; fits = fits }

  -- each head's
  abbrev way : (h : Head) → Way levels scope h
  way head.ForEvery = way_of (quantified_tree true) quantified_exact (bound_spelt true) (bound_lawful true)
  way head.ForSome = way_of (quantified_tree false) quantified_exact (bound_spelt false) (bound_lawful false)
  way head.And = way_of (tree form.And) (several_exact levels scope (reads scope)) (λ ts ws. refl)
      (λ few ts (lawful, most). (rw (several_fit (count_of ts) most, lawful) refl, refl))
  way head.Or = way_of (tree form.Or) (several_exact levels scope (reads scope)) (λ ts ws. refl)
      (λ few ts (lawful, most). (rw (several_fit (count_of ts) most, lawful) refl, refl))
  way head.Not = way_of (tree form.Not) (closed_exact (reads scope)) (λ ts ws. refl)
      (λ few ts (lawful, one). (rw (one, lawful) refl, refl))
  way head.Implies = way_of (tree form.Implies) (row_exact levels scope (λ k. k ≡ 1) (reads scope)
      (closed_exact (reads scope))) (λ ts ws. refl) (λ few ts (lawful, (some, two)).
      let count : count_of ts ≡ 2 = omega (arith, some, two) in (rw (count, lawful) refl, refl))
  way head.Same = way_of (λ p. atom (form.Same p.0 p.1)) (closed_exact (both_exact (variable_exact scope)
      (λ v. variable_exact scope))) (λ p ws. refl) (λ few p (v, u). (rw (v, u) refl, refl))
  way head.Before = way_of (λ p. atom (form.Before p.0 p.1)) (closed_exact (both_exact (variable_exact scope)
      (λ v. variable_exact scope))) (λ p ws. refl) (λ few p (v, u). (rw (v, u) refl, refl))
  way head.Next = way_of (λ p. atom (form.Next p.0 p.1)) (closed_exact (both_exact (variable_exact scope)
      (λ v. variable_exact scope))) (λ p ws. refl) (λ few p (v, u). (rw (v, u) refl, refl))
  way head.Is = way_of (λ p. atom (form.Is p.0 p.1)) (closed_exact (both_exact (variable_exact scope)
      (λ v. role_exact))) (λ p ws. refl) (λ few p (v, _). (rw v refl, refl))
  way head.OfKind = way_of (λ p. atom (form.OfKind p.0 p.1)) (closed_exact (both_exact (variable_exact scope)
      (λ v. kind_exact))) (λ p ws. refl) (λ few p (v, _). (rw v refl, refl))
  way head.Equal = way_of (λ p. atom (form.Equal p.0.0 p.1.0)) (closed_exact (both_exact (term_exact scope
      (may_begin false)) (λ t. term_exact scope (is_same_sort t.1)))) (λ p ws. refl)
      (λ few p ((t, _), (u, same)). (rw (t, u, same) refl, refl))
  way head.Less = way_of (λ p. atom (form.Less p.0.0 p.1.0)) (closed_exact (both_exact (term_exact scope
      (may_begin true)) (λ t. term_exact scope (is_same_sort t.1)))) (λ p ws. refl)
      (λ few p ((t, ordered), (u, same)). (rw (t, u, ordered, same) refl, refl))

  -- it is made by way of the head
  abbrev IsMade : Head → Trees → Type 0
  IsMade h t = (a : (way h).Thing) × ((way h).make a ≡ t) × (way h).Lawful a

  -- and so it is read
  way_exact : (h : Head) → IsExact (made_into (way h).make (way h).read) (λ t ws. drop 2 (tokens_then t ws)) (IsMade h)
  way_exact h = made_exact (way h).make _ _ (way h).exact
      (λ a l. (λ ws. rw ((way h).spells a ws) refl, (a, refl, l))) (λ t is. is)

  -- so it is read after the head
  headed : (h : Head) → IsExact (after_head read scope h) (λ t ws. drop 2 (tokens_then t ws)) (IsMade h)
  unfolding after_head
  headed head.ForEvery = way_exact head.ForEvery
  headed h = way_exact h

  -- what follows a parenthesis, or `true`
  abbrev Rest : Bool → Trees → Type 0
  Rest true t = (h : Head) × Fits scope h × IsMade h t
  Rest false t = t ≡ atom form.True

  -- its tokens
  abbrev rest_then : Bool → Trees → List Token → List Token
  rest_then true t following = drop 1 (tokens_then t following)
  rest_then false t following = following

  -- it is read exactly
  rest_exact : (opened : Bool) →
      IsExact (if opened then inside read scope else give (atom form.True)) (rest_then opened) (Rest opened)
  unfolding inside
  rest_exact true = bind_exact _ _ (head_exact scope) headed (λ h t few (a, same, l).
      (λ ws. rw (← same, (way h).spells a ws) refl, (h, few, (a, same, l)))) (λ t is. is)
  rest_exact false = give_exact (atom form.True)

  -- with the parenthesis it is a formula
  rest_made : (opened : Bool) (t : Trees) → MayOpen (suc levels) opened → Rest opened t →
      ((ws : List Token) → start_word opened ∷ rest_then opened t ws ≡ tokens_then t ws) × IsOne (suc levels) scope t
  rest_made true t some (h, few, (a, same, l)) =
      rw (← same) (λ ws. rw ((way h).spells a ws) refl, (way h).fits few a l)
  rest_made false t some same = rw same (λ ws. refl, (refl, refl))

  -- a form begins so
  abbrev Begins : Trees → Type 0
  Begins t = (opened : Bool) × MayOpen (suc levels) opened × Rest opened t

  -- a parenthesis may open
  some : MayOpen (suc levels) true
  some = ne_eqb (suc levels) 0 (λ e. omega arith)

  -- a quantifier
  quantifier_begins : (every : Bool) (q : Bound) → can_bind scope q.0 ≡ true → RangeFits scope q.1.1.0 →
      (count_of q.1.1.1 == 1) ≡ true → are_formulas levels ((q.0, q.1.0) ∷ scope) q.1.1.1 ≡ true →
      Begins (quantified_tree every q)
  quantifier_begins every q can fits one within =
      by every (grind (arith, nat_tests)) (
        (grind (arith, nat_tests), grind (arith, nat_tests)),
        (tt, (fits, (within, eqb-true (count_of q.1.1.1) 1 one))),
      )
    where
      by : (every : Bool) → nat_le 4 (length scope) ≡ false → BindsWell levels scope q →
          Begins (quantified_tree every q)
      by true few well = (true, some, (head.ForEvery, few, (q, refl, well)))
      by false few well = (true, some, (head.ForSome, few, (q, refl, well)))

  -- a form without parts
  atom_begins : (h : Head) → Fits scope h → (a : (way h).Thing) → (way h).Lawful a → (f : Form) →
      (way h).make a ≡ atom f → (parts : Trees) → (count_of parts == 0) ≡ true → Begins (tree f parts)
  atom_begins h few a l f same parts none = (true, some, (h, few, (a, same ∙ ap (tree f) (no_parts parts none), l)))

  -- each form with its parts
  begins : (f : Form) (parts : Trees) → is_shallow (suc levels) f ≡ true → is_closed scope f ≡ true →
      has_arity f (count_of parts) ≡ true → are_formulas levels (scope_in f scope) parts ≡ true → Begins (tree f parts)
  begins form.True parts _ closes arity within = (false, tt, ap (tree form.True) (sym (no_parts parts arity)))
  begins (form.ForEvery v k) parts _ closes arity within =
      quantifier_begins true (v, (k, (None, parts))) closes tt arity within
  begins (form.ForSome v k) parts _ closes arity within =
      quantifier_begins false (v, (k, (None, parts))) closes tt arity within
  begins (form.EveryBefore v k u) parts _ closes arity within =
      let (can, bound) = and_parts _ _ closes in quantifier_begins true (v, (k, (Some u, parts))) can bound arity within
  begins (form.SomeBefore v k u) parts _ closes arity within =
      let (can, bound) = and_parts _ _ closes in
      quantifier_begins false (v, (k, (Some u, parts))) can bound arity within
  begins form.And parts _ closes arity within =
      (true, some, (head.And, refl, (parts, refl, (within, (grind (arith, nat_tests), grind (arith, nat_tests))))))
  begins form.Or parts _ closes arity within =
      (true, some, (head.Or, refl, (parts, refl, (within, (grind (arith, nat_tests), grind (arith, nat_tests))))))
  begins form.Not parts _ closes arity within =
      (true, some, (head.Not, refl, (parts, refl, (within, eqb-true (count_of parts) 1 arity))))
  begins form.Implies parts _ closes arity within =
      let two : count_of parts ≡ 2 = eqb-true (count_of parts) 2 arity in
      (true, some, (head.Implies, refl, (parts, refl, (within, (omega (arith, two), omega (arith, two))))))
  begins (form.Same v u) parts _ closes arity within =
      atom_begins head.Same refl (v, u) (and_parts _ _ closes) _ refl parts arity
  begins (form.Before v u) parts _ closes arity within =
      atom_begins head.Before refl (v, u) (and_parts _ _ closes) _ refl parts arity
  begins (form.Next v u) parts _ closes arity within =
      atom_begins head.Next refl (v, u) (and_parts _ _ closes) _ refl parts arity
  begins (form.Is v r) parts _ closes arity within = atom_begins head.Is refl (v, r) (closes, tt) _ refl parts arity
  begins (form.OfKind v k) parts _ closes arity within =
      atom_begins head.OfKind refl (v, k) (closes, tt) _ refl parts arity
  begins (form.Equal t u) parts _ closes arity within =
      let (s, o, first, second, same) = sorts_of (sort_of scope t) (sort_of scope u) closes in
      atom_begins head.Equal refl ((t, s), (u, o)) ((first, refl), (second, same)) _ refl parts arity
  begins (form.Less t u) parts _ closes arity within =
      let (ordered, one) = and_parts (has_order (sort_of scope t)) _ closes in
      let (s, o, first, second, same) = sorts_of (sort_of scope t) (sort_of scope u) one in
      atom_begins head.Less refl ((t, s), (u, o)) ((first, rw first at ordered), (second, same)) _ refl parts arity

-- a formula is read exactly
pub formula_exact : (levels : ℕ) → ReadsOne levels (formula levels)
unfolding formula
formula_exact zero scope = bind_exact _ _ (start_exact zero) (λ opened. give_exact (atom form.True)) forth
    (one_form zero scope _ flat)
  where
    forth : (opened : Bool) (t : Trees) → MayOpen zero opened → t ≡ atom form.True →
        ((ws : List Token) → start_word opened ∷ ws ≡ tokens_then t ws) × IsOne zero scope t
    forth true t may same = cc may
    forth false t may same = rw same (λ ws. refl, (refl, refl))

    flat : (f : Form) (inside : Trees) → is_shallow zero f ≡ true → is_closed scope f ≡ true →
        has_arity f (count_of inside) ≡ true → are_formulas zero (scope_in f scope) inside ≡ true →
        (opened : Bool) × MayOpen zero opened × (tree f inside ≡ atom form.True)
    flat form.True inside shallow closes arity within = (false, tt, ap (tree form.True) (sym (no_parts inside arity)))
    flat f inside shallow closes arity within = cc shallow
formula_exact (suc levels) scope =
    let reads = formula_exact levels in
    bind_exact _ _ (start_exact (suc levels)) (rest_exact levels (formula levels) reads scope)
    (rest_made levels (formula levels) reads scope)
    (one_form (suc levels) scope _ (begins levels (formula levels) reads scope))
