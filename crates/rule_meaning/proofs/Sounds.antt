-- What is known of a rule is right wherever the knowledge is, and so in every completion.
use Rattle.rule_meaning.proofs.Imports
use Imports.{[], ancestors, ap, append-nil, arith, as_three, before, before_among_survivors, bind, Bool, ComesBefore}
use Imports.{cond, Contains, Contains-filter, Contains-filter_cases, EachHolds, either, element_at, eq-eqb, eqb-true}
use Imports.{False, false, first_sentence, first_value, Form, FormHolds, fun_ext, GraphsAreTrue, greatest, has_kind}
use Imports.{HasNoDouble, inl, inr, is_true, is_whole, IsOfKind, IsSomeAnd, IsTrue, IsTrueOf, Kind, least, length}
use Imports.{length-map, List, map, meanings, member_at, no_trees, Node, None, opposite, Option, option_map}
use Imports.{order_is_settled, order_of, passes, place_of, places, Precedes, range_with_len, reaches}
use Imports.{reaches_from_precedes, refl, Row, row_at, RulesAreSettled, second_sentence, second_value, slice_get}
use Imports.{slice_get-map, slice_get_within, Some, SomeHolds, subst, sym, Three, tree_then, Trees, True, true, unbound}
use Imports.{Unknown, value, values, values_before, ValuesAreRight, whole_from_test, ◌++◌, ◌==◌, ◌∙◌, ◌∷◌, ◌≡◌, ℕ}
use Rattle.rule_language.specs.declared.form.Form.TheVariants as form
use Rattle.rule_meaning.proofs.Kleenes.{both_false, both_true, either_false, either_true, greatest_false, greatest_true}
use Rattle.rule_meaning.proofs.Kleenes.{lacking, least_false, least_true, opposite_back}
use Rattle.rule_meaning.proofs.SameOrders.{row_of_kind}
use Rattle.rule_meaning.proofs.Visits.{range_has}

-- a known value is right of the sentence
pub record Agrees (x : Three) (P : Type 0) : Type 0 where
  -- where the value is true the sentence holds
  pub yes : x ≡ True → P
  -- where it is false the sentence doesn't
  pub no : x ≡ False → ¬ P

-- value by value and sentence by sentence what is known is right
abbrev pub AllAgree : List Three → List (Type 0) → Type 0
AllAgree [] [] = Unit {0}
AllAgree (x ∷ xs) (P ∷ Ps) = Agrees x P × AllAgree xs Ps
AllAgree xs Ps = ⊥

-- the first value is right of the first sentence
pub first_agrees : (xs : List Three) (Ps : List (Type 0)) → AllAgree xs Ps → Agrees (first_value xs) (first_sentence Ps)
first_agrees [] [] a = record { yes = λ e. tt; no = λ e. cc }
first_agrees (x ∷ xs) (P ∷ Ps) a = a.0
first_agrees xs Ps a = absurd a

-- and the second of the second
pub second_agrees : (xs : List Three) (Ps : List (Type 0)) → AllAgree xs Ps →
    Agrees (second_value xs) (second_sentence Ps)
second_agrees [] [] a = first_agrees [] [] a
second_agrees (x ∷ xs) (P ∷ Ps) a = first_agrees xs Ps a.1
second_agrees xs Ps a = absurd a

-- the least of values is right of all the sentences, and the greatest of some
pub least_agrees : (xs : List Three) (Ps : List (Type 0)) → AllAgree xs Ps → Agrees (least xs) (EachHolds Ps)
least_agrees [] [] a = record { yes = λ e. tt; no = λ e. cc }
least_agrees (x ∷ xs) (P ∷ Ps) (first, others) =
    let rest = least_agrees xs Ps others in
    record {
      yes = λ e. let b = both_true x (least xs) e in (first.yes b.0, rest.yes b.1);
      no = λ e h. elim (both_false x (least xs) e) [ inl f ↦ first.no f h.0 | inr f ↦ rest.no f h.1 ];
    }
least_agrees xs Ps a = absurd a

-- the greatest is right of this, that some sentence holds
pub greatest_agrees : (xs : List Three) (Ps : List (Type 0)) → AllAgree xs Ps → Agrees (greatest xs) (SomeHolds Ps)
greatest_agrees [] [] a = record { yes = λ e. cc; no = λ e h. h }
greatest_agrees (x ∷ xs) (P ∷ Ps) (first, others) =
    let rest = greatest_agrees xs Ps others in
    record {
      yes = λ e. elim (either_true x (greatest xs) e) [ inl t ↦ inl (first.yes t) | inr t ↦ inr (rest.yes t) ];
      no = λ e h. let b = either_false x (greatest xs) e in
          elim h [ inl p ↦ first.no b.0 p | inr q ↦ rest.no b.1 q ];
    }
greatest_agrees xs Ps a = absurd a

-- the opposite is right of the sentence's denial
opposite_agrees : (x : Three) (P : Type 0) → Agrees x P → Agrees (opposite x) (¬ P)
opposite_agrees x P a =
    record { yes = λ e. a.no (opposite_back x True e); no = λ e n. n (a.yes (opposite_back x False e)) }

-- the greatest of the first one's opposite and the second is right of this, that the one implies
-- the other
implies_agrees : (x y : Three) (P Q : Type 0) → Agrees x P → Agrees y Q → Agrees (either (opposite x) y) (P → Q)
implies_agrees x y P Q a b = record {
  yes = λ e p. elim (either_true (opposite x) y e) [
    | inl t ↦ absurd (a.no (opposite_back x True t) p)
    | inr t ↦ b.yes t
  ];
  no = λ e f. let r = either_false (opposite x) y e in b.no r.1 (f (a.yes (opposite_back x False r.0)));
}

-- a test's value is right of the test
test_agrees : (b : Bool) → Agrees (as_three b) (IsTrue b)
test_agrees true = record { yes = λ e. refl; no = λ e. cc }
test_agrees false = record { yes = λ e. cc; no = λ e h. cc }

-- what a place stands for
abbrev pub StandFor : {T : Type 0} → List T → Option ℕ → Option T → Type 0
StandFor S None None = Unit {0}
StandFor S (Some i) (Some e) = slice_get S i ≡ Some e
StandFor S i e = ⊥

-- what is found true is true
pub true_is : (x : Three) → is_true x ≡ true → x ≡ True
true_is x e = grind arith

pub unknown≢true : Unknown ≡ True → ⊥
unknown≢true e = cc

pub unknown≢false : Unknown ≡ False → ⊥
unknown≢false e = cc

-- quantifiers over entries with two properties: each place stands for such an entry, and where it is whole each such
-- entry has a place
module _ {T : Type 0} (f : ℕ → Three) (is : List ℕ) (whole : Bool) (A B P : T → Type 0)
    (meant : (i : ℕ) → Contains is i → (e : T) × A e × B e × Agrees (f i) (P e))
    (placed : whole ≡ true → (e : T) → A e → B e → (i : ℕ) × Contains is i × Agrees (f i) (P e)) where
  -- the least of the values is right of this, that each such entry has the sentence, and the greatest of this, that
  -- some has it
  both_agree : Agrees (least (map f is ++ lacking whole)) ((e : T) → A e → B e → P e)
      × Agrees (greatest (map f is ++ lacking whole)) ((e : T) × A e × B e × P e)
  both_agree = (
    record {
      yes = λ t e a b.
          let (full, each) = least_true f is whole t in
          let (i, c, agrees) = placed full e a b in
          agrees.yes (each i c);
      no = λ t h.
          let (i, c, at) = least_false f is whole t in
          let (e, a, b, agrees) = meant i c in
          agrees.no at (h e a b);
    },
    record {
      yes = λ t.
          let (i, c, at) = greatest_true f is whole t in
          let (e, a, b, agrees) = meant i c in
          (e, a, b, agrees.yes at);
      no = λ t (e, a, b, says).
          let (full, each) = greatest_false f is whole t in
          let (i, c, agrees) = placed full e a b in
          agrees.no (each i c) says;
    },
  )

module _ {T : Type 0} (node : T → Node) (row : T → Row) (S G : List T) (order : ℕ → ℕ → Three)
    (wholes : ℕ → Bool) (single : HasNoDouble S) (known : IsTrueOf node S G order wholes) where
  -- the rows of the survivors
  abbrev pub rows : List Row
  rows = map row S

  -- the places stand for the entries, variable by variable
  abbrev pub StandForAll : (ℕ → Option ℕ) → (ℕ → Option T) → Type 0
  StandForAll σ ρ = (v : ℕ) → StandFor S (σ v) (ρ v)

  -- the row at an entry's place is the entry's
  pub row_of : (i : ℕ) (e : T) → slice_get S i ≡ Some e → slice_get rows i ≡ Some (row e)
  row_of i e is = slice_get-map row S i ∙ ap (option_map row) is

  -- one variable more, for which a place and its entry stand, leaves all places standing for the
  -- entries
  pub one_more : (v i : ℕ) (e : T) (σ : ℕ → Option ℕ) (ρ : ℕ → Option T) → slice_get S i ≡ Some e → StandForAll σ ρ →
      StandForAll (bind v i σ) (bind v e ρ)
  one_more v i e σ ρ is stand u = by (u == v)
    where
      -- by cases: whether it is the variable that was bound
      by : (b : Bool) → StandFor S (cond b (Some i) (σ u)) (cond b (Some e) (ρ u))
      by true = is
      by false = stand u

  -- a place and the entry that it stands for have one row
  pub same_row : (i : Option ℕ) (e : Option T) → StandFor S i e → row_at rows i ≡ option_map row e
  same_row None None s = refl
  same_row (Some i) (Some e) s = row_of i e s
  same_row i e s = absurd s

  -- a test of rows is right of the entries that they stand for
  pub passes_agrees : (form : Form) (σ : ℕ → Option ℕ) (ρ : ℕ → Option T) → StandForAll σ ρ →
      Agrees (as_three (passes (λ w. row_at rows (σ w)) form))
      (IsTrue (passes (λ w. option_map row (ρ w)) form))
  passes_agrees form σ ρ stand =
      subst (λ (r : ℕ → Option Row). Agrees (as_three (passes r form))
      (IsTrue (passes (λ w. option_map row (ρ w)) form)))
      (sym (fun_ext (λ (w : ℕ). same_row (σ w) (ρ w) (stand w))))
      (test_agrees (passes (λ w. option_map row (ρ w)) form))

  -- a place of the kind stands for a survivor of the kind
  pub place_meant : (kind : Kind) (i : ℕ) → Contains (places rows order wholes kind) i →
      (e : T) × (slice_get S i ≡ Some e) × IsOfKind node row S G kind e
  place_meant kind i c =
      let (_, is) = Contains-filter_cases (λ j. has_kind kind (slice_get rows j)) (range_with_len 0 (length rows))
      i c in
      let within = row_of_kind rows kind i is in
      let (e, at) = element_at S i (omega (arith, length-map S row)) in
      (e, at, ap (has_kind kind) (sym (row_of i e at)) ∙ is)

  -- the place of a survivor of the kind is one of the kind
  pub place_such : (kind : Kind) (i : ℕ) (e : T) → slice_get S i ≡ Some e → IsOfKind node row S G kind e →
      Contains (places rows order wholes kind) i
  place_such kind i e there k =
      let within = slice_get_within rows i (row e) (row_of i e there) in
      Contains-filter (λ j. has_kind kind (slice_get rows j)) (range_with_len 0 (length rows)) i
      (range_has 0 (length rows) i (omega arith) (omega arith)) (ap (has_kind kind) (row_of i e there) ∙ k)

  -- a survivor of the kind has a place of the kind
  pub place_of_kind : (kind : Kind) (e : T) → Contains S e → IsOfKind node row S G kind e →
      (i : ℕ) × (slice_get S i ≡ Some e) × Contains (places rows order wholes kind) i
  place_of_kind kind e c k = let (i, there) = place_of S e c in (i, there, place_such kind i e there k)

  -- the two ways in which the parts of a formula are read
  abbrev pub PartsAgree : ((ℕ → Option ℕ) → List Three) → ((ℕ → Option T) → List (Type 0)) → Type 0
  PartsAgree ts Ps = (σ : ℕ → Option ℕ) (ρ : ℕ → Option T) → StandForAll σ ρ → AllAgree (ts σ) (Ps ρ)

  -- a value at two places is right of their entries, where variables stand for both
  pair_agrees : (f : ℕ → ℕ → Three) (P : T → T → Type 0) →
      ((i j : ℕ) (x y : T) → slice_get S i ≡ Some x → slice_get S j ≡ Some y → Agrees (f i j) (P x y)) →
      (i : Option ℕ) (e : Option T) (j : Option ℕ) (d : Option T) → StandFor S i e → StandFor S j d →
      Agrees (order_of f i j) (IsSomeAnd e (λ x. IsSomeAnd d (λ y. P x y)))
  pair_agrees f P each (Some i) (Some x) (Some j) (Some y) at also = each i j x y at also
  pair_agrees f P each None None j d at also = record { yes = λ t. cc; no = λ t h. h }
  pair_agrees f P each (Some i) (Some x) None None at also = record { yes = λ t. cc; no = λ t h. h }
  pair_agrees f P each (Some i) (Some x) j d at also = absurd also
  pair_agrees f P each i e j d at also = absurd at

  -- two places are one if and only if their entries are
  same_agrees : (i j : ℕ) (x y : T) → slice_get S i ≡ Some x → slice_get S j ≡ Some y →
      Agrees (as_three (i == j)) (x ≡ y)
  same_agrees i j x y at also =
      let test = test_agrees (i == j) in
      record {
        yes = λ t. let is : i ≡ j = eqb-true i j (test.yes t) in cc;
        no = λ t same. test.no t (eq-eqb i j (single i j x at (also ∙ ap Some (sym same))));
      }

  module _ (v : ℕ) (kind : Kind) (σ : ℕ → Option ℕ) (ρ : ℕ → Option T) (stand : StandForAll σ ρ)
      (ts : (ℕ → Option ℕ) → List Three) (Ps : (ℕ → Option T) → List (Type 0)) (parts : PartsAgree ts Ps) where
    -- the value of the body at a place
    abbrev value_at : ℕ → Three
    value_at i = first_value (ts (bind v i σ))

    -- what the body says of an entry
    abbrev SaysAt : T → Type 0
    SaysAt e = first_sentence (Ps (bind v e ρ))

    -- the entry is of the kind
    abbrev IsSuch : T → Type 0
    IsSuch = IsOfKind node row S G kind

    -- the places of the kind
    abbrev those : List ℕ
    those = places rows order wholes kind

    -- the body's value at a place is right of the entry there
    body : (i : ℕ) (e : T) → slice_get S i ≡ Some e → Agrees (value_at i) (SaysAt e)
    body i e is =
        first_agrees (ts (bind v i σ)) (Ps (bind v e ρ))
        (parts (bind v i σ) (bind v e ρ) (one_more v i e σ ρ is stand))

    -- the least over the places is right of what `every` says of survivors, and the greatest of what `some` says
    over_all : Agrees (least (map value_at those)) ((x : T) → Contains S x → IsSuch x → SaysAt x)
        × Agrees (greatest (map value_at those)) ((x : T) × Contains S x × IsSuch x × SaysAt x)
    over_all =
        simp append-nil at (both_agree value_at those true (Contains S) IsSuch SaysAt
        (λ i c. let (e, at, such) = place_meant kind i c in (e, member_at S i e at, such, body i e at))
        (λ _ e c such. let (i, at, there) = place_of_kind kind e c such in (i, there, body i e at)))

    -- so are those over what comes before a variable's place, where an unknown value stands for what isn't known to
    over_earlier : (u : Option ℕ) (d : Option T) → StandFor S u d →
        Agrees (least (values_before rows order wholes kind u value_at))
        ((x : T) → IsSuch x → ComesBefore node row S G x d → SaysAt x)
        × Agrees (greatest (values_before rows order wholes kind u value_at))
        ((x : T) × IsSuch x × ComesBefore node row S G x d × SaysAt x)
    over_earlier None None at =
        (record { yes = λ t x such h. absurd h; no = λ t. cc }, record { yes = λ t. cc; no = λ t h. h.2 })
    over_earlier (Some u) (Some last) at =
        let near = λ (j : ℕ). is_true (order j u) in
        both_agree value_at (ancestors rows order wholes kind u) (wholes u) IsSuch
        (λ x. Precedes node G x last) SaysAt
        (λ i c.
        let (there, before) = Contains-filter_cases near those i c in
        let (e, here, such) = place_meant kind i there in
        (e, such, known.yes i u e last here at (true_is (order i u) before), body i e here))
        (λ whole e such before.
        let (i, here, is) = known.all u e last at whole before in
        (i, Contains-filter near those i (place_such kind i e here such) (ap is_true is), body i e here))
    over_earlier u d at = absurd at

  -- one form, where its parts agree
  pub form_agrees : (form : Form) (ts : (ℕ → Option ℕ) → List Three) (Ps : (ℕ → Option T) → List (Type 0)) →
      PartsAgree ts Ps → (σ : ℕ → Option ℕ) (ρ : ℕ → Option T) → StandForAll σ ρ →
      Agrees (value rows order wholes form σ ts) (FormHolds node row S G form ρ Ps)
  form_agrees form.True ts Ps parts σ ρ stand = record { yes = λ t. tt; no = λ t. cc }
  form_agrees (form.ForEvery v kind) ts Ps parts σ ρ stand = (over_all v kind σ ρ stand ts Ps parts).0
  form_agrees (form.ForSome v kind) ts Ps parts σ ρ stand = (over_all v kind σ ρ stand ts Ps parts).1
  form_agrees (form.EveryBefore v kind u) ts Ps parts σ ρ stand =
      (over_earlier v kind σ ρ stand ts Ps parts (σ u) (ρ u) (stand u)).0
  form_agrees (form.SomeBefore v kind u) ts Ps parts σ ρ stand =
      (over_earlier v kind σ ρ stand ts Ps parts (σ u) (ρ u) (stand u)).1
  form_agrees form.And ts Ps parts σ ρ stand = least_agrees (ts σ) (Ps ρ) (parts σ ρ stand)
  form_agrees form.Or ts Ps parts σ ρ stand = greatest_agrees (ts σ) (Ps ρ) (parts σ ρ stand)
  form_agrees form.Not ts Ps parts σ ρ stand =
      opposite_agrees (first_value (ts σ)) (first_sentence (Ps ρ)) (first_agrees (ts σ) (Ps ρ) (parts σ ρ stand))
  form_agrees form.Implies ts Ps parts σ ρ stand =
      implies_agrees (first_value (ts σ)) (second_value (ts σ)) (first_sentence (Ps ρ)) (second_sentence (Ps ρ))
      (first_agrees (ts σ) (Ps ρ) (parts σ ρ stand)) (second_agrees (ts σ) (Ps ρ) (parts σ ρ stand))
  form_agrees (form.Same v u) ts Ps parts σ ρ stand =
      pair_agrees (λ i j. as_three (i == j)) (λ x y. x ≡ y) same_agrees (σ v) (ρ v) (σ u) (ρ u) (stand v) (stand u)
  form_agrees (form.Before v u) ts Ps parts σ ρ stand =
      pair_agrees order (Precedes node G)
      (λ i j x y at also. record { yes = known.yes i j x y at also; no = known.no i j x y at also })
      (σ v) (ρ v) (σ u) (ρ u) (stand v) (stand u)
  form_agrees form ts Ps parts σ ρ stand = passes_agrees form σ ρ stand

  -- so all formulas in a row agree
  pub all_agree : (trees : Trees) → PartsAgree (values rows order wholes trees) (meanings node row S G trees)
  all_agree no_trees σ ρ stand = tt
  all_agree (tree_then form parts rest) σ ρ stand = (
    form_agrees form (values rows order wholes parts) (meanings node row S G parts) (all_agree parts) σ ρ stand,
    all_agree rest σ ρ stand,
  )

-- the law of values
pub values_are_right : {T : Type 0} (node : T → Node) (row : T → Row) → ValuesAreRight node row
values_are_right node row S G order wholes single known rule =
    let a = first_agrees (values (map row S) order wholes rule unbound) (meanings node row S G rule unbound)
    (all_agree node row S G order wholes single known rule unbound unbound (λ v. tt)) in
    (a.yes, a.no)

-- what is reached is before
before_reached : (r w : Bool) → r ≡ true → cond r True (cond w False Unknown) ≡ True
before_reached true w e = refl
before_reached false w e = cc

-- the law of graphs
pub graphs_are_true : {T : Type 0} (node : T → Node) → GraphsAreTrue node
graphs_are_true node machines S G parents ragged graph completion = record {
  yes = λ y x f e at_y at_x t.
      (order_is_settled node machines S parents ragged graph y x f e at_y at_x).0 t G completion;
  no = λ y x f e at_y at_x t.
      (order_is_settled node machines S parents ragged graph y x f e at_y at_x).1 t G completion;
  all = λ x f e at whole path.
      let among = before_among_survivors node S machines G completion f e (member_at S x e at)
      (whole_from_test node machines S parents ragged graph x x e e at at whole) path in
      let (y, there) = place_of S f among.0 in (
        y,
        there,
        before_reached (reaches parents x y x) (is_whole parents ragged x x)
            (reaches_from_precedes node machines S parents ragged graph y x f e there at among),
      );
}

-- by the survivors' graph a rule's value, if known, is right of every completion
pub rules_are_settled : {T : Type 0} (node : T → Node) (row : T → Row) → RulesAreSettled node row
rules_are_settled node row machines S G parents ragged single graph completion rule =
    values_are_right node row S G (before parents ragged) (λ x. is_whole parents ragged x x) single
    (graphs_are_true node machines S G parents ragged graph completion) rule
