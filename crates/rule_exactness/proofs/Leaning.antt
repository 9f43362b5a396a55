-- A rule can be led to a truth value that isn't excluded, where what its parts need is there.
use Rattle.rule_meaning.proofs.Sounds.{Agrees, all_agree, form_agrees, one_more, place_of_kind, place_such, true_is}
use Rattle.rule_meaning.proofs.Unknowns.{IsKnown, known_false, known_test, known_true}
use Rattle.rule_meaning.specs.Values.{ancestors, order_of, same_place, second_value, value, values_before}
use Rattle.rule_language.specs.declared.form.Form.TheVariants as form
use Rattle.rule_exactness.proofs.Imports
use Imports.{[], ap, append-nil, arith, before, bind, Bool, both, cases_Bool, ComesBefore, Contains}
use Imports.{Contains-append_left, Contains-filter, Contains-filter_cases, Contains-head, Contains-later, Contains-map}
use Imports.{Contains-none, EachHolds, either, False, false, first_sentence, first_value, Form, FormHolds, greatest}
use Imports.{HasNoDouble, inl, inr, is_true, IsOfKind, IsSomeAnd, IsTrueOf, Kind, least, List, map, meanings, member_at}
use Imports.{no_trees, Node, None, not, opposite, Option, place_meant, places, Precedes, refl, Row, second_sentence}
use Imports.{slice_get, Some, SomeHolds, StandFor, subst, suc, Three, tree_then, Trees, True, true, Unknown, values}
use Imports.{zero, ℕ, ◌∙◌, ◌∷◌, ◌≡◌, ◌≢◌, ◌⊎◌}

-- toward true: where the value isn't false the sentence holds; toward false: where it isn't true the
-- sentence fails
abbrev pub Leans : Bool → Three → Type 0 → Type 0
Leans true x P = x ≢ False → P
Leans false x P = x ≢ True → ¬ P

-- what a formula needs so as to be led toward a value
abbrev pub Need : Type 1
Need = Bool → Type 0

-- two of three values are one or not
three_cases : (x y : Three) → (x ≡ y) ⊎ (x ≢ y)
three_cases x y = grind arith

-- a known value that is right leads both ways
leans_known : (p : Bool) (x : Three) (P : Type 0) → IsKnown x → Agrees x P → Leans p x P
leans_known true True P k a = λ n. a.yes refl
leans_known false False P k a = λ n. a.no refl
leans_known true False P k a = λ n. absurd (n refl)
leans_known false True P k a = λ n. absurd (n refl)
leans_known p Unknown P k a = absurd (k refl)

-- the least with false is false
both_has_false : (x : Three) → both x False ≡ False
both_has_false x = grind arith

-- and the greatest with true is true
pub either_has_true : (x : Three) → either x True ≡ True
either_has_true x = grind arith

-- a member that is false makes the least false
least_has : (xs : List Three) (x : Three) → Contains xs x → x ≡ False → least xs ≡ False
least_has [] x c e = absurd (Contains-none x c)
least_has (y ∷ xs) x (zero, l, is) e = rw (is, e) refl
least_has (y ∷ xs) x (suc k, l, at) e = rw (least_has xs x (k, omega arith, at) e) (both_has_false y)

-- and one that is true the greatest true
pub greatest_has : (xs : List Three) (x : Three) → Contains xs x → x ≡ True → greatest xs ≡ True
greatest_has [] x c e = absurd (Contains-none x c)
greatest_has (y ∷ xs) x (zero, l, is) e = rw (is, e) refl
greatest_has (y ∷ xs) x (suc k, l, at) e = rw (greatest_has xs x (k, omega arith, at) e) (either_has_true y)

-- where values by a connective aren't what they are of none, one of them isn't
one_lacks : (all : List Three → Three) (least : Three) → all [] ≡ least →
    ((x : Three) (xs : List Three) → x ≡ least → all (x ∷ xs) ≡ all xs) → (f : ℕ → Three) (is : List ℕ) →
    all (map f is) ≢ least → (i : ℕ) × Contains is i × (f i ≢ least)
one_lacks all least none step f [] n = absurd (n none)
one_lacks all least none step f (i ∷ is) n = elim (three_cases (f i) least) [
  | inl e ↦
      let (j, there, lacks) = one_lacks all least none step f is (λ t. n (step (f i) (map f is) e ∙ t)) in
      (j, Contains-later i is j there, lacks)
  | inr lacks ↦ (i, Contains-head i is, lacks)
]

-- where the least isn't true, one isn't
pub least_lacks : (f : ℕ → Three) (is : List ℕ) → least (map f is) ≢ True → (i : ℕ) × Contains is i × (f i ≢ True)
least_lacks = one_lacks least True refl (λ x xs e. rw e refl)

-- where the greatest isn't false, one isn't
greatest_lacks : (f : ℕ → Three) (is : List ℕ) → greatest (map f is) ≢ False → (i : ℕ) × Contains is i × (f i ≢ False)
greatest_lacks = one_lacks greatest False refl (λ x xs e. rw e refl)

-- ---- what formulas need

-- the first of needs, and the second
abbrev pub first_need : List Need → Need
first_need [] p = Unit {0}
first_need (Q ∷ Qs) p = Q p

-- the second of needs
abbrev pub second_need : List Need → Need
second_need [] p = Unit {0}
second_need (Q ∷ Qs) p = first_need Qs p

-- each is met, but none behind one that decides: of `and` a false one, of `or` a true one
abbrev pub NeedUpTo : Three → List Three → List Need → Need
NeedUpTo decides (x ∷ xs) (Q ∷ Qs) p = Q p × ((x ≡ decides → ⊥) → NeedUpTo decides xs Qs p)
NeedUpTo decides xs Qs p = Unit {0}

-- led values, sentence by sentence
pub data AllLean : List Three → List (Type 0) → List Need → Type 1 where
  none : AllLean [] [] []
  more : {x : Three} {xs : List Three} {P : Type 0} {Ps : List (Type 0)} {Q : Need} {Qs : List Need} →
      ((p : Bool) → Q p → Leans p x P) → AllLean xs Ps Qs → AllLean (x ∷ xs) (P ∷ Ps) (Q ∷ Qs)

-- the first leads
first_leans : {xs : List Three} {Ps : List (Type 0)} {Qs : List Need} → AllLean xs Ps Qs → (p : Bool) →
    first_need Qs p → Leans p (first_value xs) (first_sentence Ps)
first_leans (more first others) p q = first p q
first_leans none p q = leans_known p _ _ known_true (record { yes = λ e. tt; no = λ e. cc })

-- the second leads
second_leans : {xs : List Three} {Ps : List (Type 0)} {Qs : List Need} → AllLean xs Ps Qs → (p : Bool) →
    second_need Qs p → Leans p (second_value xs) (second_sentence Ps)
second_leans (more first others) p q = first_leans others p q
second_leans none p q = first_leans none p q

-- so `and` of them leads
each_leans : {xs : List Three} {Ps : List (Type 0)} {Qs : List Need} → AllLean xs Ps Qs → (p : Bool) →
    NeedUpTo False xs Qs p → Leans p (least xs) (EachHolds Ps)
each_leans none p q = leans_known p _ _ known_true (record { yes = λ e. tt; no = λ e. cc })
each_leans (more {x = x} first others) true q = λ n.
    let possible : x ≢ False = λ e. n (rw e refl) in
    (first true q.0 possible, each_leans others true (q.1 possible) (λ e. n (rw e (both_has_false x))))
each_leans (more {x = True} first others) false q = λ n h. each_leans others false (q.1 (λ e. cc)) n h.1
each_leans (more first others) false q = λ n h. first false q.0 (λ e. cc) h.0

-- and `or` of them
some_leans : {xs : List Three} {Ps : List (Type 0)} {Qs : List Need} → AllLean xs Ps Qs → (p : Bool) →
    NeedUpTo True xs Qs p → Leans p (greatest xs) (SomeHolds Ps)
some_leans none p q = leans_known p _ _ known_false (record { yes = λ e. cc; no = λ e h. h })
some_leans (more {x = x} first others) false q = λ n h.
    let possible : x ≢ True = λ e. n (rw e refl) in
    elim h [
      | inl f ↦ first false q.0 possible f
      | inr g ↦ some_leans others false (q.1 possible) (λ e. n (rw e (either_has_true x))) g
    ]
some_leans (more {x = False} first others) true q = λ n. inr (some_leans others true (q.1 (λ e. cc)) n)
some_leans (more first others) true q = λ n. inl (first true q.0 (λ e. cc))

-- the opposite leads to the other value
opposite_leans : (p : Bool) (x : Three) (P : Type 0) → Leans (not p) x P → Leans p (opposite x) (¬ P)
opposite_leans true x P lean = λ n. lean (λ e. n (ap opposite e))
opposite_leans false x P lean = λ n none. none (lean (λ e. n (ap opposite e)))

-- and `implies` leads by both
implies_leans : (p : Bool) (x y : Three) (P R : Type 0) → Leans (not p) x P → ((x ≢ False) → Leans p y R) →
    Leans p (either (opposite x) y) (P → R)
implies_leans true True y P R a b = λ n _. b (λ e. cc) n
implies_leans true x y P R a b = λ n h. absurd (a (λ e. cc) h)
implies_leans false True y P R a b = λ n h. b (λ e. cc) n (h (a (λ e. cc)))
implies_leans false Unknown y P R a b = λ n h. b (λ e. cc) (λ e. n (rw e refl)) (h (a (λ e. cc)))
implies_leans false False y P R a b = λ n. absurd (n refl)

-- completions G of S by what is known of S; `IsNew` of what isn't known to precede, and `IsGot` of
-- what precedes each survivor that isn't whole
pub record Leading {T : Type 0} (node : T → Node) (row : T → Row) (S G : List T) (order : ℕ → ℕ → Three)
    (wholes : ℕ → Bool) (IsNew IsGot : T → Type 0) : Type 0 where
  pub single : HasNoDouble S
  pub known : IsTrueOf node S G order wholes
  -- what precedes a survivor is known to, or is new
  pub sources : (u : ℕ) (last : T) → slice_get S u ≡ Some last → (f : T) → Precedes node G f last →
      ((i : ℕ) × (slice_get S i ≡ Some f) × (order i u ≡ True)) ⊎ IsNew f
  -- before a whole survivor nothing is unknown
  pub settled : (y u : ℕ) → wholes u ≡ true → order y u ≢ Unknown
  -- what is got precedes each other one
  pub gives : (u : ℕ) (last : T) → slice_get S u ≡ Some last → wholes u ≡ false → (e : T) → IsGot e →
      Precedes node G e last

module _ {T : Type 0} {node : T → Node} {row : T → Row} {S G : List T} {order : ℕ → ℕ → Three} {wholes : ℕ → Bool}
    {IsNew IsGot : T → Type 0} (lead : Leading node row S G order wholes IsNew IsGot) where
  -- the rows of the survivors
  abbrev rows : List Row
  rows = map row S

  -- what the body of a quantifier says of an entry
  abbrev pub Says : ((ℕ → Option T) → List (Type 0)) → ℕ → (ℕ → Option T) → T → Type 0
  Says Ps v ρ e = first_sentence (Ps (bind v e ρ))

  -- what a quantifier needs of its body, at each entry
  abbrev pub NeedInside : ℕ → Kind → ((ℕ → Option ℕ) → (ℕ → Option T) → List Need) → (ℕ → Option ℕ) →
      (ℕ → Option T) → Need
  NeedInside v kind qs σ ρ p =
      (i : ℕ) (e : T) → slice_get S i ≡ Some e → IsOfKind node row S G kind e →
      first_need (qs (bind v i σ) (bind v e ρ)) p

  -- what a quantifier over what came before needs where its outer variable is bound
  abbrev pub NeedSomeBefore : Option T → ((ℕ → Option T) → List (Type 0)) → ℕ → Kind → (ℕ → Option T) → Need
  NeedSomeBefore None Ps v kind ρ p = Unit {0}
  NeedSomeBefore (Some last) Ps v kind ρ true = (e : T) × IsGot e × IsOfKind node row S G kind e × Says Ps v ρ e
  NeedSomeBefore (Some last) Ps v kind ρ false = (e : T) → IsNew e → IsOfKind node row S G kind e → ¬ Says Ps v ρ e

  -- what the order of two survivors needs
  abbrev pub NeedOrder : Option T → Need
  NeedOrder None p = Unit {0}
  NeedOrder (Some f) true = IsGot f
  NeedOrder (Some f) false = ¬ IsNew f

  -- what a form needs, by what its parts need; nothing leads `every .. before`
  abbrev pub need_of : Form → Trees → ((ℕ → Option ℕ) → (ℕ → Option T) → List Need) → (ℕ → Option ℕ) →
      (ℕ → Option T) → Need
  need_of (form.ForEvery v kind) parts qs σ ρ p = NeedInside v kind qs σ ρ p
  need_of (form.ForSome v kind) parts qs σ ρ p = NeedInside v kind qs σ ρ p
  need_of (form.EveryBefore v kind u) parts qs σ ρ p = ⊥
  need_of (form.SomeBefore v kind u) parts qs σ ρ p =
      NeedInside v kind qs σ ρ p × NeedSomeBefore (ρ u) (meanings node row S G parts) v kind ρ p
  need_of form.And parts qs σ ρ p = NeedUpTo False (values rows order wholes parts σ) (qs σ ρ) p
  need_of form.Or parts qs σ ρ p = NeedUpTo True (values rows order wholes parts σ) (qs σ ρ) p
  need_of form.Not parts qs σ ρ p = first_need (qs σ ρ) (not p)
  need_of form.Implies parts qs σ ρ p =
      first_need (qs σ ρ) (not p)
      × ((first_value (values rows order wholes parts σ) ≡ False → ⊥) → second_need (qs σ ρ) p)
  need_of (form.Before v u) parts qs σ ρ p = NeedOrder (ρ v) p
  need_of form parts qs σ ρ p = Unit {0}

  -- what each formula in the row needs
  abbrev pub needs : Trees → (ℕ → Option ℕ) → (ℕ → Option T) → List Need
  needs no_trees σ ρ = []
  needs (tree_then form parts rest) σ ρ = need_of form parts (needs parts) σ ρ ∷ needs rest σ ρ

  -- whether two places are one is known
  same_known : (i j : Option ℕ) → IsKnown (same_place i j)
  same_known (Some i) (Some j) = known_test _
  same_known i j = known_false

  -- the places stand for the entries
  abbrev Stand : (ℕ → Option ℕ) → (ℕ → Option T) → Type 0
  Stand σ ρ = (v : ℕ) → StandFor S (σ v) (ρ v)

  -- the parts of a formula lead
  abbrev PartsLean : Trees → Type 1
  PartsLean parts = (σ : ℕ → Option ℕ) (ρ : ℕ → Option T) → Stand σ ρ →
      AllLean (values rows order wholes parts σ) (meanings node row S G parts ρ) (needs parts σ ρ)

  module _ (v : ℕ) (kind : Kind) (parts : Trees) (lean : PartsLean parts) (σ : ℕ → Option ℕ) (ρ : ℕ → Option T)
      (stand : Stand σ ρ) where
    -- the value of the body at a place
    abbrev at_place : ℕ → Three
    at_place i = first_value (values rows order wholes parts (bind v i σ))

    -- what the body says of an entry
    abbrev SaysOf : T → Type 0
    SaysOf e = Says (meanings node row S G parts) v ρ e

    -- the places of the kind
    abbrev placed : List ℕ
    placed = places rows order wholes kind

    -- at each survivor of the kind the body leads
    here : (p : Bool) → NeedInside v kind (needs parts) σ ρ p → (i : ℕ) (e : T) →
        slice_get S i ≡ Some e → IsOfKind node row S G kind e → Leans p (at_place i) (SaysOf e)
    here p q i e at k =
        first_leans (lean (bind v i σ) (bind v e ρ)
        (one_more node row S G order wholes lead.single lead.known v i e σ ρ at stand)) p (q i e at k)

    -- so `every` leads
    for_every : (p : Bool) → NeedInside v kind (needs parts) σ ρ p →
        Leans p (least (map at_place placed)) ((x : T) → Contains S x → IsOfKind node row S G kind x → SaysOf x)
    for_every true q = λ n x c k.
        let (i, at, there) = place_of_kind node row S G order wholes lead.single lead.known kind x c k in
        here true q i x at k (λ f. n (least_has _ (at_place i) (Contains-map at_place placed i there) f))
    for_every false q = λ n h.
        let (i, there, lacks) = least_lacks at_place placed n in
        let (e, at, k) = place_meant node row S G order wholes lead.single lead.known kind i there in
        here false q i e at k lacks (h e (member_at S i e at) k)

    -- and `some`
    for_some : (p : Bool) → NeedInside v kind (needs parts) σ ρ p →
        Leans p (greatest (map at_place placed)) ((x : T) × Contains S x × IsOfKind node row S G kind x × SaysOf x)
    for_some true q = λ n.
        let (i, there, lacks) = greatest_lacks at_place placed n in
        let (e, at, k) = place_meant node row S G order wholes lead.single lead.known kind i there in
        (e, member_at S i e at, k, here true q i e at k lacks)
    for_some false q = λ n (x, c, k, says).
        let (i, at, there) = place_of_kind node row S G order wholes lead.single lead.known kind x c k in
        here false q i x at k
        (λ t. n (greatest_has (map at_place placed) (at_place i) (Contains-map at_place placed i there) t)) says

    -- those places that are known to come before
    abbrev earlier : ℕ → List ℕ
    earlier u = ancestors rows order wholes kind u

    -- `some .. before` leads by what is got, and by what is new
    some_before : (p : Bool) → NeedInside v kind (needs parts) σ ρ p → (i : Option ℕ) (e : Option T) →
        NeedSomeBefore e (meanings node row S G parts) v kind ρ p → StandFor S i e →
        Leans p (greatest (values_before rows order wholes kind i at_place))
        ((x : T) × IsOfKind node row S G kind x × ComesBefore node row S G x e × SaysOf x)
    some_before p inside None None q s = leans_known p _ _ known_false (record { yes = λ e. cc; no = λ e h. h.2 })
    some_before true inside (Some u) (Some last) q s = λ n. elim (cases_Bool (wholes u)) [
      | inr part ↦ let (y, got, k, says) = q in (y, k, lead.gives u last s part y got, says)
      | inl is ↦
          let (i, c, lacks) = greatest_lacks at_place (earlier u) (λ e. n (rw (is, append-nil) e)) in
          let (there, before) = Contains-filter_cases (λ j. is_true (order j u)) placed i c in
          let (x, at, k) = place_meant node row S G order wholes lead.single lead.known kind i there in
          (x, k, lead.known.yes i u x last at s (true_is (order i u) before), here true inside i x at k lacks)
    ]
    some_before false inside (Some u) (Some last) q s = λ n (x, k, before, says).
        elim (lead.sources u last s x before) [
          | inl (i, at, is) ↦
              let there = Contains-filter (λ j. is_true (order j u)) placed i
              (place_such node row S G order wholes lead.single lead.known kind i x at k) (ap is_true is) in
              here false inside i x at k (λ t. n (greatest_has _ (at_place i) (Contains-append_left _ _ _
              (Contains-map at_place (earlier u) i there)) t)) says
          | inr new ↦ q x new k says
        ]
    some_before p inside i e q s = absurd s

  -- the order of two survivors
  order_leans : (p : Bool) (i : Option ℕ) (e : Option T) (j : Option ℕ) (f : Option T) → StandFor S i e →
      StandFor S j f → NeedOrder e p → Leans p (order_of order i j) (IsSomeAnd e (λ x. ComesBefore node row S G x f))
  order_leans true (Some y) (Some e) (Some u) (Some f) se sf q = λ n. by n (order y u) refl (wholes u) refl
    where
      -- by what is known of the order, and whether u is whole
      by : (order y u ≡ False → ⊥) → (x : Three) → order y u ≡ x → (w : Bool) → wholes u ≡ w → Precedes node G e f
      by n True is w whole = lead.known.yes y u e f se sf is
      by n False is w whole = absurd (n is)
      by n Unknown is true whole = absurd (lead.settled y u whole is)
      by n Unknown is false whole = lead.gives u f sf whole e q
  order_leans false (Some y) (Some e) (Some u) (Some f) se sf q = λ n before.
      elim (lead.sources u f sf e before) [
        | inl (i, at, is) ↦ n (subst (λ (k : ℕ). order k u ≡ True) (lead.single i y e at se) is)
        | inr new ↦ q new
      ]
  order_leans p None None j f se sf q = leans_known p _ _ known_false (record { yes = λ e. cc; no = λ e h. h })
  order_leans p (Some i) (Some e) None None se sf q =
      leans_known p _ _ known_false (record { yes = λ e. cc; no = λ e h. h })
  order_leans p None (Some e) j f se sf q = absurd se
  order_leans p (Some i) None j f se sf q = absurd se
  order_leans p (Some i) (Some e) j f se sf q = absurd sf

  -- a form with a known value leads
  known_leans : (form : Form) (parts : Trees) (σ : ℕ → Option ℕ) (ρ : ℕ → Option T) → Stand σ ρ → (p : Bool) →
      IsKnown (value rows order wholes form σ (values rows order wholes parts)) →
      Leans p (value rows order wholes form σ (values rows order wholes parts))
      (FormHolds node row S G form ρ (meanings node row S G parts))
  known_leans form parts σ ρ stand p known =
      leans_known p _ _ known (form_agrees node row S G order wholes lead.single lead.known form
      (values rows order wholes parts) (meanings node row S G parts)
      (all_agree node row S G order wholes lead.single lead.known parts) σ ρ stand)

  -- one form, where its parts lead
  form_leans : (form : Form) (parts : Trees) → PartsLean parts → (σ : ℕ → Option ℕ) (ρ : ℕ → Option T) →
      Stand σ ρ → (p : Bool) → need_of form parts (needs parts) σ ρ p →
      Leans p (value rows order wholes form σ (values rows order wholes parts))
      (FormHolds node row S G form ρ (meanings node row S G parts))
  form_leans (form.ForEvery v kind) parts lean σ ρ stand p q = for_every v kind parts lean σ ρ stand p q
  form_leans (form.ForSome v kind) parts lean σ ρ stand p q = for_some v kind parts lean σ ρ stand p q
  form_leans (form.EveryBefore v kind u) parts lean σ ρ stand p q = absurd q
  form_leans (form.SomeBefore v kind u) parts lean σ ρ stand p q =
      some_before v kind parts lean σ ρ stand p q.0 (σ u) (ρ u) q.1 (stand u)
  form_leans form.And parts lean σ ρ stand p q = each_leans (lean σ ρ stand) p q
  form_leans form.Or parts lean σ ρ stand p q = some_leans (lean σ ρ stand) p q
  form_leans form.Not parts lean σ ρ stand p q = opposite_leans p _ _ (first_leans (lean σ ρ stand) (not p) q)
  form_leans form.Implies parts lean σ ρ stand p q =
      implies_leans p _ _ _ _ (first_leans (lean σ ρ stand) (not p) q.0)
      (λ possible. second_leans (lean σ ρ stand) p (q.1 possible))
  form_leans (form.Before v u) parts lean σ ρ stand p q = order_leans p (σ v) (ρ v) (σ u) (ρ u) (stand v) (stand u) q
  form_leans form.True parts lean σ ρ stand p q = known_leans form.True parts σ ρ stand p known_true
  form_leans (form.Same v u) parts lean σ ρ stand p q =
      known_leans (form.Same v u) parts σ ρ stand p (same_known (σ v) (σ u))
  form_leans form parts lean σ ρ stand p q = known_leans form parts σ ρ stand p (known_test _)

  -- so all formulas in a row lead
  pub all_lean : (trees : Trees) → PartsLean trees
  all_lean no_trees σ ρ stand = none
  all_lean (tree_then form parts rest) σ ρ stand =
      more (form_leans form parts (all_lean parts) σ ρ stand) (all_lean rest σ ρ stand)

  -- a formula leads toward the value for which its needs are met
  pub first_lean : (trees : Trees) (σ : ℕ → Option ℕ) (ρ : ℕ → Option T) → Stand σ ρ → (p : Bool) →
      first_need (needs trees σ ρ) p →
      Leans p (first_value (values rows order wholes trees σ)) (first_sentence (meanings node row S G trees ρ))
  first_lean trees σ ρ stand p q = first_leans (all_lean trees σ ρ stand) p q
