-- An entry that meets what a body asks.
use Rattle.rule_exactness.specs.TwoSided.{can_meet, equation, equations, is_field, one_more}
use Rattle.rule_language.specs.declared.kind.Field.TheVariants as field
use Rattle.rule_language.specs.declared.form.Form.TheVariants as form
use Rattle.rule_exactness.proofs.Imports
use Imports.{[], and_parts, ap, are_equal, bind, body_asks, bytes_eq-Decides, can_ask, cases_Bool, cond, Contains}
use Imports.{Contains-cons_cases, Contains-head, Contains-later, Contains-none, EachHolds, eqb-true, Equation, false}
use Imports.{Field, field_of, field_word, fields, first_sentence, Form, get_or, inl, inr, IsTrue, Kind, List, list_any}
use Imports.{map, meanings, no_trees, Node, None, not-true, Of, Option, option_map, refl, replicate, Row, same_Some}
use Imports.{Saying, Some, subst, sym, tree_then, Trees, true, ℕ, ◌==◌, ◌∙◌, ◌∷◌, ◌≡◌}
use Rattle.rule_exactness.proofs.Digests.{none_of}

-- the first equation for a field
abbrev pub pick : Field → List Equation → Option Equation
pick f [] = None
pick f (e ∷ es) = cond (is_field e.asked f) (Some e) (pick f es)

-- a field is itself
same_field : (f : Field) → is_field f f ≡ true
same_field f = (bytes_eq-Decides (field_word f) (field_word f)).1 refl

-- what is checked of one equation of several
pub record IsChecked (bound : List ℕ) (v : ℕ) (k : Kind) (es : List Equation) (e : Equation) : Type 0 where
  pub among : list_any (λ u. e.of == u) bound ≡ true
  pub other : (e.of == v) ≡ false
  pub can : can_ask k e.asked e.given ≡ true
  pub first : pick e.asked es ≡ Some e

-- where a kind can meet equations all of this is so of each
pub checked : (bound : List ℕ) (v : ℕ) (k : Kind) (es : List Equation) → can_meet bound v k es ≡ true → (e : Equation) →
    Contains es e → IsChecked bound v k es e
checked bound v k [] t e c = absurd (Contains-none e c)
checked bound v k (d ∷ es) t e c =
    let (now, later) = and_parts _ _ t in
    let (among, known) = and_parts _ _ now in
    let (other, can) = and_parts _ _ known in
    let (apart, rest) = and_parts _ _ later in
    let differs = none_of (λ x. is_field d.asked x.asked) es e (not-true _ apart) in
    elim (Contains-cons_cases d es e c) [
      | inl is ↦ subst (IsChecked bound v k (d ∷ es)) is
          (record { among = among; other = not-true _ other; can = can; first = rw (same_field d.asked) refl })
      | inr behind ↦
          let more = checked bound v k es rest e behind in
          record { among = more.among; other = more.other; can = more.can; first = rw (differs behind) more.first }
    ]

-- ---- what equations say

-- the form that an equation for v is
abbrev form_of : ℕ → Equation → Form
form_of v e = form.Equal (Of v e.asked) (Of e.of e.given)

-- a form with such an equation is its form
form_is : (v : ℕ) (f : Form) (e : Equation) → equation v f ≡ Some e → f ≡ form_of v e
form_is v (form.Equal (Of a f) (Of b g)) e is = elim (cases_Bool (a == v)) [
  | inl at ↦
      let said : Some (record { asked = f; of = b; given = g }) ≡ Some e = rw at at is in
      rw (eqb-true a v at) (ap (form_of v) (same_Some _ _ said))
  | inr at ↦ let none : None ≡ Some e = rw at at is in absurd (cc)
]
form_is v f e is = absurd (cc)

-- the formulas that equations for v are
abbrev pub trees_of : ℕ → List Equation → Trees
trees_of v [] = no_trees
trees_of v (e ∷ es) = tree_then (form_of v e) no_trees (trees_of v es)

-- where one more is some, it and the others are
one_more_is : (o : Option Equation) (os : Option (List Equation)) (es : List Equation) → one_more o os ≡ Some es →
    (e : Equation) × (ds : List Equation) × (o ≡ Some e) × (os ≡ Some ds) × (e ∷ ds ≡ es)
one_more_is (Some e) (Some ds) es is = (e, ds, refl, refl, same_Some _ _ is)
one_more_is None os es is = absurd (cc)
one_more_is (Some e) None es is = absurd (cc)

-- formulas with these equations are these
trees_are : (v : ℕ) (trees : Trees) (es : List Equation) → equations v trees ≡ Some es → trees ≡ trees_of v es
trees_are v no_trees es is = ap (trees_of v) (same_Some _ _ is)
trees_are v (tree_then f (tree_then g inner more) rest) es is = absurd (cc)
trees_are v (tree_then f no_trees rest) es is =
    let (e, ds, first, others, same) = one_more_is (equation v f) (equations v rest) es is in
    ap (λ g. tree_then g no_trees rest) (form_is v f e first)
    ∙ ap (tree_then (form_of v e) no_trees) (trees_are v rest ds others) ∙ ap (trees_of v) same

-- what holds of `true`, of `and` of the equations and of the equations holds of the body that asks for them
pub body_cases : (v : ℕ) (es : List Equation) (M : Trees → Type 0) → M (tree_then form.True no_trees no_trees) →
    M (tree_then form.And (trees_of v es) no_trees) → M (trees_of v es) → (body : Trees) →
    body_asks v body ≡ Some es → M body
body_cases v es M always each first (tree_then form.True no_trees no_trees) is = always
body_cases v es M always each first (tree_then form.And inside no_trees) is =
    subst (λ (ts : Trees). M (tree_then form.And ts no_trees)) (sym (trees_are v inside es is)) each
body_cases v es M always each first body is = subst M (sym (trees_are v body es is)) first

module _ {T : Type 0} (node : T → Node) (row : T → Row) (S G : List T) (v : ℕ) (y : T) (ρ : ℕ → Option T) where
  -- an equation holds, with y for v
  abbrev pub IsMet : Equation → Type 0
  IsMet e =
      IsTrue (are_equal (option_map (field_of e.asked) (option_map row (bind v y ρ v)))
      (option_map (field_of e.given) (option_map row (bind v y ρ e.of))))

  -- all of the formulas whose equations are met hold
  each_met : (es : List Equation) → ((e : Equation) → Contains es e → IsMet e) →
      EachHolds (meanings node row S G (trees_of v es) (bind v y ρ))
  each_met [] met = tt
  each_met (e ∷ es) met = (met e (Contains-head e es), each_met es (λ d c. met d (Contains-later e es d c)))

  -- and the first of them does
  first_met : (es : List Equation) → ((e : Equation) → Contains es e → IsMet e) →
      first_sentence (meanings node row S G (trees_of v es) (bind v y ρ))
  first_met [] met = tt
  first_met (e ∷ es) met = met e (Contains-head e es)

  -- a body all whose equations are met holds
  pub body_met : (parts : Trees) (es : List Equation) → body_asks v parts ≡ Some es →
      ((e : Equation) → Contains es e → IsMet e) → first_sentence (meanings node row S G parts (bind v y ρ))
  body_met parts es is met =
      body_cases v es (λ body. first_sentence (meanings node row S G body (bind v y ρ))) tt (each_met es met)
      (first_met es met) parts is

-- ---- what an entry says that meets them

-- where a field's value is from: a field of an entry, or nowhere
abbrev pub Source : Type 0 → Type 0
Source T = Option (Field × T)

-- what is asked for: a kind, and field by field where its value is from
abbrev pub Sources : Type 0 → Type 0
Sources T = Kind × List (Source T)

module _ {T : Type 0} (row : T → Row) where
  -- a number that another entry has in a field
  abbrev number_in : Field → Row → ℕ
  number_in field.Maker r = r.maker
  number_in field.Booth r = r.booth
  number_in field.Number r = r.number
  number_in field.Session r = r.session
  number_in field.Ballot r = 0

  -- the number, or 0
  abbrev pub number_from : Source T → ℕ
  number_from None = 0
  number_from (Some (f, x)) = number_in f (row x)

  -- the ballot, or zeros
  abbrev pub ballot_from : Source T → List ℕ
  ballot_from None = replicate 32 0
  ballot_from (Some (f, x)) = (row x).ballot

  -- an entry says these, in the order of `fields`: its maker, booth, number, session and ballot
  abbrev pub saying_from : Sources T → Saying
  saying_from q = record {
    kind = q.0;
    booth = number_from (get_or q.1 1 None);
    number = number_from (get_or q.1 2 None);
    session = number_from (get_or q.1 3 None);
    ballot = ballot_from (get_or q.1 4 None);
  }

  -- and this is its maker
  abbrev pub maker_from : Sources T → ℕ
  maker_from q = number_from (get_or q.1 0 None)

-- where the value for an equation is from
abbrev pub source_of : {T : Type 0} → (ℕ → Option T) → Option Equation → Source T
source_of ρ None = None
source_of ρ (Some e) = option_map (λ x. (e.given, x)) (ρ e.of)

-- what an entry of the kind says that meets the equations
abbrev pub sources_of : {T : Type 0} → (ℕ → Option T) → Kind → List Equation → Sources T
sources_of ρ k es = (k, map (λ f. source_of ρ (pick f es)) fields)
