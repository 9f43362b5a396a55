-- Rules of one's own of which unsettled is exact.
use Rattle.rule_exactness.specs.TwoSided.{can_be_met, IsLed, IsTwoSided, leads_form, second_test}
use Rattle.rule_language.specs.declared.kind.Kind.TheVariants as kind
use Rattle.rule_language.specs.declared.kind.Field.TheVariants as field
use Rattle.rule_language.specs.declared.form.Form.TheVariants as form
use Rattle.rule_exactness.proofs
use proofs.Imports.{[], all_tests, and_parts, ap, are_equal, arith, bind, body_asks, Bool, bytes_eq-Decides, can_ask}
use proofs.Imports.{CanSay, cases_Bool, cond, Contains, Contains-filter, Contains-filter_cases, Contains-head}
use proofs.Imports.{Contains-later, Contains-map, Contains-map_cases, eq-eqb, Equation, False, false, false≢true, Field}
use proofs.Imports.{field_of, fields, filter, first_test, Form, get_or, if◌then◌else◌, inl, inr, is_kind, is_real}
use proofs.Imports.{IsAcyclic, IsMade, IsOpen, IsSayable, IsWellFormed, Kind, kind_named, kind_word, leads, length}
use proofs.Imports.{length-map, length-replicate, List, list_any, list_any_some, lt-ltb, ltb-true, map, member_at}
use proofs.Imports.{nat_lt, no_trees, Node, None, not, not-true, Option, option_map, refl, Row, same_Some, Saying}
use proofs.Imports.{slice_get, Some, subst, suc, sym, Three, three_in, tree_then, Trees, True, true}
use proofs.Imports.{TwoSidedRulesAreExact, unbound, Unknown, values, zero, ℕ, ◌&&◌, ◌<◌, ◌==◌, ◌^◌, ◌||◌, ◌∙◌, ◌∷◌, ◌≡◌}
use proofs.Imports.{◌≢◌, ◌≤◌}
use proofs.Asked.{ballot_from, body_cases, body_met, checked, IsChecked, IsMet, maker_from, number_from, pick}
use proofs.Asked.{saying_from, Source, source_of, Sources, sources_of, trees_of}
use proofs.Digests.{Contains-product, Contains-product_cases, few_filtered, power, product, product_few, rows_each}
use proofs.Digests.{rows_few, rows_have, rows_of}
use proofs.Led.{all_needs, all_told, bare, bare_sayable, by_plan, filled as filled_all, IsNew, led, need, need_before}
use proofs.Led.{new_are, open_by_ways, order, Plan, said_may_be, Setting, some_by_gap, Way, wholes, wish_got}
use proofs.Wished.{Filling}
use proofs.{Fresh.IsFairly, Fresh.Wish, Leaning.first_need, Leaning.Need, Leaning.NeedUpTo, Leaning.second_need}

-- each word names its kind
named : (k : Kind) → kind_named (kind_word k) ≡ Some k
named kind.Any = refl
named k = refl

-- what is found to be of a kind, is of it
pub kind_found : (wanted k : Kind) → wanted ≢ kind.Any → is_kind wanted k ≡ true → k ≡ wanted
kind_found kind.Any k real e = absurd (real refl)
kind_found wanted k real e =
    let same = (bytes_eq-Decides (kind_word wanted) (kind_word k)).0 e in
    sym (same_Some wanted k (sym (named wanted) ∙ ap kind_named same ∙ named k))

-- a real kind isn't `entry`
real_kind : (k : Kind) → is_real k ≡ true → k ≢ kind.Any
real_kind k t e = false≢true (sym (ap is_real e) ∙ t)

-- a kind is found to be itself
pub same_kind : (k : Kind) → is_kind k k ≡ true
same_kind kind.Any = refl
same_kind k = refl

-- the ten kinds
abbrev pub kinds : List Kind
kinds =
    kind.Opened ∷ kind.Authorise ∷ kind.Override ∷ kind.Forced ∷ kind.Closed ∷ kind.Activate ∷ kind.Commit ∷ kind.Cast
    ∷ kind.Cancel ∷ kind.Challenge ∷ []

-- each real kind is one of them
pub kind_there : (k : Kind) → is_real k ≡ true → Contains kinds k
kind_there k real =
    let (j, there, same) = list_any_some (is_kind k) kinds (among k real) in
    subst (λ (i : Kind). Contains kinds i) (kind_found k j (real_kind k real) same) there
  where
    -- it is found among them
    among : (k : Kind) → is_real k ≡ true → list_any (is_kind k) kinds ≡ true
    among kind.Any real = absurd (false≢true real)
    among k real = refl

-- each field is one of the five
field_there : (f : Field) → Contains fields f
field_there field.Maker = (0, omega arith, refl)
field_there field.Booth = (1, omega arith, refl)
field_there field.Number = (2, omega arith, refl)
field_there field.Session = (3, omega arith, refl)
field_there field.Ballot = (4, omega arith, refl)

-- each test's need is met
pub data AllMet : List (Bool → Bool) → List Need → Type 1 where
  none : AllMet [] []
  more : {t : Bool → Bool} {ts : List (Bool → Bool)} {Q : Need} {Qs : List Need} →
      ((p : Bool) → t p ≡ true → Q p) → AllMet ts Qs → AllMet (t ∷ ts) (Q ∷ Qs)

-- the first one's is
pub first_met : {ts : List (Bool → Bool)} {Qs : List Need} → AllMet ts Qs → (p : Bool) → first_test ts p ≡ true →
    first_need Qs p
first_met none p t = tt
first_met (more first others) p t = first p t

-- and the second one's
second_met : {ts : List (Bool → Bool)} {Qs : List Need} → AllMet ts Qs → (p : Bool) → second_test ts p ≡ true →
    second_need Qs p
second_met none p t = tt
second_met (more first others) p t = first_met others p t

-- where all tests pass each need is met
pub each_met : {ts : List (Bool → Bool)} {Qs : List Need} (decides : Three) (xs : List Three) → AllMet ts Qs →
    (p : Bool) → all_tests ts p ≡ true → NeedUpTo decides xs Qs p
each_met decides [] a p t = tt
each_met decides (x ∷ xs) none p t = tt
each_met decides (x ∷ xs) (more first others) p t =
    let (here, later) = and_parts _ _ t in (first p here, λ _. each_met decides xs others p later)

module _ {T : Type 0} {node : T → Node} {row : T → Row} {make : Saying → ℕ → List (List ℕ) → List ℕ → T}
    {machines : ℕ} {S : List T} {parents : ℕ → List ℕ} {ragged : ℕ → Bool}
    (it : Setting node row make machines S parents ragged) (some : 0 < machines) where
  -- a machine, if it is one, and else machine 0
  abbrev pub clip : ℕ → ℕ
  clip m = cond (nat_lt m machines) m 0

  -- what holds of both is so
  pub clipped : (P : ℕ → Type 0) (m : ℕ) → (m < machines → P m) → P 0 → P (clip m)
  clipped P m is other = elim (cases_Bool (nat_lt m machines))
      [ inl low ↦ rw low (is (ltb-true m machines low)) | inr high ↦ rw high other ]

  -- the wish for an entry that says this
  abbrev pub wish_for : Saying → ℕ → Wish node machines
  wish_for s m = record {
    make = make s (clip m);
    bears = it.can.digest s (clip m);
    names = it.can.names s (clip m);
    maker = λ ns d. rw (it.can.maker s (clip m) ns d) (clipped (λ n. n < machines) m (λ low. low) some);
  }

  -- it may be
  pub wish_fair : (s : Saying) (m : ℕ) → IsSayable s → m < 2 ^ 32 → IsFairly (IsMade make) (make s (clip m))
  wish_fair s m sayable small =
      said_may_be it s (clip m) sayable (clipped (λ n. n < 2 ^ 32) m (λ _. small) (omega arith))

  -- and is a survivor's maker's, where that is asked for
  pub wish_maker : (s : Saying) (x : T) → Contains S x → (ns : List (List ℕ)) (d : List ℕ) →
      (row (make s (clip (row x).maker) ns d)).maker ≡ (row x).maker
  wish_maker s x cx ns d =
      let same = it.can.one_maker x in let low = it.are.survivors.in_roster x cx in
      let kept : clip (row x).maker ≡ (row x).maker = rw (lt-ltb (row x).maker machines (omega arith)) refl in
      it.can.one_maker (make s (clip (row x).maker) ns d) ∙ it.can.maker s (clip (row x).maker) ns d ∙ kept

  -- the wish for an entry whose values are from these
  abbrev wish_of : Sources T → Wish node machines
  wish_of q = wish_for (saying_from row q) (maker_from row q)

  module _ (k : Kind) (es : List Equation) (ρ : ℕ → Option T) (ns : List (List ℕ)) (d : List ℕ) where
    -- what the entry says
    abbrev says : Saying
    says = saying_from row (sources_of ρ k es)

    -- and its maker
    abbrev maker : ℕ
    maker = clip (maker_from row (sources_of ρ k es))

    -- the entry
    abbrev made : T
    made = make says maker ns d

    -- a value that the first equation for the field asks for is from there
    from : (f : Field) {g : Field} {w : ℕ} {x : T} → pick f es ≡ Some (record { asked = f; of = w; given = g }) →
        ρ w ≡ Some x → source_of ρ (pick f es) ≡ Some (g, x)
    from f picked at = rw (picked, at) refl

    -- it has in the field what the other entry has
    has : (f g : Field) → can_ask k f g ≡ true → (w : ℕ) (x : T) →
        pick f es ≡ Some (record { asked = f; of = w; given = g }) → ρ w ≡ Some x → Contains S x →
        are_equal (Some (field_of f (row made))) (Some (field_of g (row x))) ≡ true
    has field.Maker field.Maker t w x picked at cx =
        eq-eqb _ _ (rw (ap (number_from row) (from field.Maker picked at)) (wish_maker says x cx ns d))
    has field.Number field.Number t w x picked at cx =
        eq-eqb _ _ (it.can.number says maker ns d ∙ ap (number_from row) (from field.Number picked at))
    has field.Session field.Session t w x picked at cx =
        eq-eqb _ _ (it.can.session says maker ns d t ∙ ap (number_from row) (from field.Session picked at))
    has field.Ballot field.Ballot t w x picked at cx = (bytes_eq-Decides (row made).ballot (row x).ballot).1
        (it.can.ballot says maker ns d t ∙ ap (ballot_from row) (from field.Ballot picked at))
    has field.Booth field.Maker t w x picked at cx =
        eq-eqb _ _ (it.can.booth says maker ns d t ∙ ap (number_from row) (from field.Booth picked at))
    has field.Booth field.Booth t w x picked at cx =
        eq-eqb _ _ (it.can.booth says maker ns d t ∙ ap (number_from row) (from field.Booth picked at))
    has f g t w x picked at cx = absurd (false≢true t)

    -- so it meets each equation
    meets : (G : List T) (bound : List ℕ) (v : ℕ) (e : Equation) → IsChecked bound v k es e → (x : T) →
        ρ e.of ≡ Some x → Contains S x → IsMet node row S G v made ρ e
    meets G bound v e c x at cx = rw (eq-eqb v v refl, c.other, at) (has e.asked e.given c.can e.of x c.first at cx)

  -- where values are from: nowhere, or a survivor's field
  abbrev shown : Field × T → Source T
  shown p = Some p

  -- nowhere, and each field of each survivor
  abbrev sources : List (Source T)
  sources = None ∷ map shown (product fields S)

  -- they are what an entry can say
  abbrev IsRight : Source T → Type 0
  IsRight s = (number_from row s < 2 ^ 32) × (length (ballot_from row s) ≡ 32)

  -- each is what an entry can say
  source_right : (s : Source T) → Contains sources s → IsRight s
  source_right s (zero, l, is) = subst IsRight is (omega arith, length-replicate {A = ℕ} 32 0)
  source_right s (suc i, l, at) =
      let (p, among, is) = Contains-map_cases shown (product fields S) s (i, omega arith, at) in
      subst IsRight is (right p.0 p.1 (it.are.formed p.1 (Contains-product_cases fields S p among).1))
    where
      -- field by field
      right : (f : Field) (x : T) → IsWellFormed node row x → IsRight (Some (f, x))
      right field.Maker x l = (l.maker, l.ballot)
      right field.Number x l = (l.number, l.ballot)
      right field.Session x l = (l.session, l.ballot)
      right field.Ballot x l = (omega arith, l.ballot)
      right field.Booth x l = (l.booth, l.ballot)

  -- so is each one of a row of them
  each_right : (r : List (Source T)) → ((s : Source T) → Contains r s → Contains sources s) → (i : ℕ) →
      IsRight (get_or r i None)
  each_right [] each i = source_right None (Contains-head None _)
  each_right (s ∷ r) each zero = source_right s (each s (Contains-head s r))
  each_right (s ∷ r) each (suc i) = each_right r (λ u c. each u (Contains-later s r u c)) i

  -- the variables stand for nothing but survivors
  abbrev pub AreSurviving : (ℕ → Option T) → Type 0
  AreSurviving ρ = (v : ℕ) (x : T) → ρ v ≡ Some x → Contains S x

  -- what an equation asks for is from one of them
  source_there : (ρ : ℕ → Option T) → AreSurviving ρ → (o : Option Equation) → Contains sources (source_of ρ o)
  source_there ρ surviving None = Contains-head None (map shown (product fields S))
  source_there ρ surviving (Some e) = by (ρ e.of) (surviving e.of)
    where
      -- by whether the variable is bound
      by : (o : Option T) → ((x : T) → o ≡ Some x → Contains S x) → Contains sources (option_map (λ x. (e.given, x)) o)
      by None is = Contains-head None (map shown (product fields S))
      by (Some x) is =
          Contains-later _ _ _ (Contains-map shown (product fields S) (e.given, x)
          (Contains-product fields S e.given x (field_there e.given) (is x refl)))

  -- the variables that are bound stand for survivors, and no other stands for another entry
  abbrev pub IsBound : List ℕ → (ℕ → Option T) → Type 0
  IsBound bound ρ =
      ((w : ℕ) → list_any (λ u. w == u) bound ≡ true → (x : T) × (ρ w ≡ Some x) × Contains S x) × AreSurviving ρ

  -- one variable more may be bound to a survivor
  pub bound_more : (bound : List ℕ) (ρ : ℕ → Option T) → IsBound bound ρ → (v : ℕ) (x : T) → Contains S x →
      IsBound (v ∷ bound) (bind v x ρ)
  bound_more bound ρ are_bound v x cx = (λ w. (by (w == v) w).0, λ w. (by (w == v) w).1)
    where
      -- by whether it is that variable
      by : (b : Bool) (w : ℕ) → ((b || list_any (λ u. w == u) bound) ≡ true → (z : T) ×
          (cond b (Some x) (ρ w) ≡ Some z) × Contains S z) × ((z : T) → cond b (Some x) (ρ w) ≡ Some z → Contains S z)
      by true w = (λ c. (x, refl, cx), λ z is. subst (Contains S) (same_Some x z is) cx)
      by false w = (are_bound.0 w, are_bound.1 w)

  -- nothing is bound
  pub none_bound : IsBound [] unbound
  none_bound = (λ w c. absurd (false≢true c), λ w x is. absurd (cc))

  module _ (filled : Kind → Bool) where
    -- the kinds for which entries are wished
    abbrev is_asked : Kind → Bool
    is_asked k = is_real k && filled k

    -- what entries of these kinds may say that say what survivors say, field by field
    abbrev asked_for : List (Sources T)
    asked_for = product (filter is_asked kinds) (rows_of 5 sources)

    -- the wishes for them
    abbrev ws : List (Wish node machines)
    ws = map wish_of asked_for

    -- what a quantifier asks of what came before is among them
    asked_there : (k : Kind) → is_asked k ≡ true → (es : List Equation) (ρ : ℕ → Option T) → AreSurviving ρ →
        Contains ws (wish_of (sources_of ρ k es))
    asked_there k asked es ρ surviving =
        let from = λ (f : Field). source_of ρ (pick f es) in
        Contains-map wish_of asked_for (k, map from fields)
        (Contains-product (filter is_asked kinds) (rows_of 5 sources) k (map from fields)
        (Contains-filter is_asked kinds k (kind_there k (and_parts (is_real k) (filled k) asked).0) asked)
        (rows_have sources (map from fields) (λ s c.
        let (f, _, is) = Contains-map_cases from fields s c in
        subst (Contains sources) is (source_there ρ surviving (pick f es)))))

    -- what is wished is of the kinds
    ws_filled : (w : Wish node machines) → Contains ws w → (ns : List (List ℕ)) (d : List ℕ) →
        filled (row (w.make ns d)).kind ≡ true
    ws_filled w c ns d =
        let (q, among, is) = Contains-map_cases wish_of asked_for w c in
        let (ck, _) = Contains-product_cases (filter is_asked kinds) (rows_of 5 sources) q among in
        let (real, full) = and_parts (is_real q.0) (filled q.0) (Contains-filter_cases is_asked kinds q.0 ck).1 in
        subst (λ (v : Wish node machines). filled (row (v.make ns d)).kind ≡ true) is
        (ap filled (it.can.kind (saying_from row q) (clip (maker_from row q)) ns d (real_kind q.0 real)) ∙ full)

    -- and may be
    pub ws_fair : (w : Wish node machines) → Contains ws w → IsFairly (IsMade make) w.make
    ws_fair w c =
        let (q, among, is) = Contains-map_cases wish_of asked_for w c in
        let (_, rows) = Contains-product_cases (filter is_asked kinds) (rows_of 5 sources) q among in
        let right = each_right q.1 (rows_each 5 sources q.1 rows) in
        let sayable : IsSayable (saying_from row q) =
        record { number = (right 2).0; session = (right 3).0; ballot = (right 4).1; booth = (right 1).0 } in
        subst (λ (v : Wish node machines). IsFairly (IsMade make) v.make) is
        (wish_fair (saying_from row q) (maker_from row q) sayable (right 0).0)

    -- they aren't too many
    pub ws_few : length ws ≤ 256 ^ 31
    ws_few =
        let pairs = product_few fields S 5 16384 (omega arith) it.are.few in
        let same = length-map (product fields S) shown in
        let rows = rows_few 5 sources 81921 (omega arith) in
        let asked = few_filtered is_asked kinds in
        let all = product_few (filter is_asked kinds) (rows_of 5 sources) 10 (power 81921 5) asked rows in
        let each = length-map asked_for wish_of in omega arith

    module _ (hub : Kind) (real : is_real hub ≡ true) (hub_filled : filled hub ≡ true) where
      -- they stand behind every gap
      abbrev pub plan : Plan it
      plan = record {
        hub = bare hub 0;
        sayable = bare_sayable hub 0 (omega arith);
        wished = ws;
        fair = ws_fair;
        few = ws_few;
      }

      -- the completion by the plan
      abbrev by : Filling node machines S
      by = by_plan it plan

      -- what is new is of the kinds
      new_filled : (e : T) → IsNew it by e → filled (row e).kind ≡ true
      new_filled =
          new_are it by (λ y. filled (row y).kind ≡ true) refl
          (λ ns d. ap filled (it.can.kind (bare hub 0) 0 ns d (real_kind hub real)) ∙ hub_filled) ws_filled

      -- a body that asks for equations needs nothing
      module _ (σ : ℕ → Option ℕ) (ρ : ℕ → Option T) (p : Bool) (v : ℕ) where
        -- behind `and`
        each_need : (es : List Equation) →
            NeedUpTo False (values (map row S) (order it) (wholes it) (trees_of v es) σ)
            (all_needs it by (trees_of v es) σ ρ) p
        each_need [] = tt
        each_need (e ∷ es) = (tt, λ _. each_need es)

        -- alone
        some_need : (es : List Equation) → need it by (trees_of v es) σ ρ p
        some_need [] = tt
        some_need (e ∷ es) = tt

        -- so the body needs nothing
        body_need : (parts : Trees) (es : List Equation) → body_asks v parts ≡ Some es → need it by parts σ ρ p
        body_need parts es = body_cases v es (λ body. need it by body σ ρ p) tt (each_need es) (some_need es) parts

      -- a quantifier over what came before has what it needs
      gap_met : (v : ℕ) (k : Kind) (parts : Trees) (bound : List ℕ) (ρ : ℕ → Option T) → IsBound bound ρ →
          (o : Option T) (p : Bool) → (is_real k && (if p then filled k else not (filled k))) ≡ true →
          (es : List Equation) → body_asks v parts ≡ Some es → can_be_met bound v k (Some es) ≡ true →
          need_before it by o v k parts ρ p
      gap_met v k parts bound ρ are_bound None p t es asks meet = tt
      gap_met v k parts bound ρ are_bound (Some last) true t es asks meet =
          let real = real_kind k (and_parts (is_real k) (filled k) t).0 in
          let (ns, d, got) = wish_got it by (wish_of (sources_of ρ k es)) (asked_there k t es ρ are_bound.1) in (
            made k es ρ ns d,
            got,
            ap (is_kind k) (it.can.kind (says k es ρ ns d) (maker k es ρ ns d) ns d real) ∙ same_kind k,
            body_met node row S (filled_all it by) v (made k es ρ ns d) ρ parts es asks
                (λ e there.
                let check = checked bound v k es meet e there in
                let (x, at, cx) = are_bound.0 e.of check.among in
                meets k es ρ ns d (filled_all it by) bound v e check x at cx),
          )
      gap_met v k parts bound ρ are_bound (Some last) false t es asks meet = λ e new is says.
          let (really, unfilled) = and_parts (is_real k) (not (filled k)) t in
          let same = kind_found k (row e).kind (real_kind k really) is in
          false≢true (sym (not-true (filled k) unfilled) ∙ ap filled (sym same) ∙ new_filled e new)

      -- so it is of one form, where it is of its parts
      module _ (parts : Trees) (bound : List ℕ) (σ : ℕ → Option ℕ) (ρ : ℕ → Option T) (are_bound : IsBound bound ρ)
          (on : (bound : List ℕ) (σ : ℕ → Option ℕ) (ρ : ℕ → Option T) → IsBound bound ρ →
          AllMet (leads filled parts bound) (all_needs it by parts σ ρ)) where
        -- what the parts need here
        met : AllMet (leads filled parts bound) (all_needs it by parts σ ρ)
        met = on bound σ ρ are_bound

        -- what the first of them needs at a survivor
        inside : (p : Bool) (v : ℕ) → first_test (leads filled parts (v ∷ bound)) p ≡ true → (i : ℕ) (x : T) →
            slice_get S i ≡ Some x → need it by parts (bind v i σ) (bind v x ρ) p
        inside p v t i x at =
            first_met (on (v ∷ bound) (bind v i σ) (bind v x ρ)
            (bound_more bound ρ are_bound v x (member_at S i x at))) p t

        -- what the form needs
        form_met : (f : Form) (rest : Trees) (p : Bool) →
            leads_form filled bound f parts (leads filled parts) p ≡ true → need it by (tree_then f parts rest) σ ρ p
        form_met (form.ForEvery v k) rest p t = λ i x at _. inside p v t i x at
        form_met (form.ForSome v k) rest p t = λ i x at _. inside p v t i x at
        form_met (form.EveryBefore v k u) rest p t = absurd (false≢true t)
        form_met (form.SomeBefore v k u) rest p t =
            by_some (body_asks v parts) refl (and_parts _ (can_be_met bound v k (body_asks v parts)) t)
          where
            -- where the body asks for equations
            by_some : (o : Option (List Equation)) → body_asks v parts ≡ o →
                ((is_real k && (if p then filled k else not (filled k))) ≡ true) × (can_be_met bound v k o ≡ true) →
                need it by (tree_then (form.SomeBefore v k u) parts rest) σ ρ p
            by_some None asks (_, meet) = absurd (false≢true meet)
            by_some (Some es) asks (fits, meet) = (
              λ i x at is. body_need (bind v i σ) (bind v x ρ) p v parts es asks,
              gap_met v k parts bound ρ are_bound (ρ u) p fits es asks meet,
            )
        form_met form.And rest p t = each_met False _ met p t
        form_met form.Or rest p t = each_met True _ met p t
        form_met form.Not rest p t = first_met met (not p) t
        form_met form.Implies rest p t =
            let ts = leads filled parts bound in
            let tests = and_parts (first_test ts (not p)) (second_test ts p) t in
            (first_met met (not p) tests.0, λ _. second_met met p tests.1)
        form_met (form.Before v u) rest p t = absurd (false≢true t)
        form_met f rest p t = tt

      -- and of all formulas in a row
      pub all_met : (trees : Trees) (bound : List ℕ) (σ : ℕ → Option ℕ) (ρ : ℕ → Option T) → IsBound bound ρ →
          AllMet (leads filled trees bound) (all_needs it by trees σ ρ)
      all_met no_trees bound σ ρ are_bound = none
      all_met (tree_then f parts rest) bound σ ρ are_bound =
          more (form_met parts bound σ ρ are_bound (all_met parts) f rest) (all_met rest bound σ ρ are_bound)

-- rules that some kinds lead to true, and some to false, are open wherever they are unsettled
module _ {T : Type 0} {node : T → Node} {row : T → Row} {make : Saying → ℕ → List (List ℕ) → List ℕ → T}
    {machines : ℕ} {S : List T} {parents : ℕ → List ℕ} {ragged : ℕ → Bool}
    (it : Setting node row make machines S parents ragged) (rule : Trees) where
  -- where kinds lead a rule to a value there is a way
  way : (p : Bool) → IsLed rule p → 0 < machines → Way it rule p
  way p led some = record {
    plan = plan it some led.filled led.some led.real led.is_filled;
    met = first_met (all_met it some led.filled led.some led.real led.is_filled rule [] unbound unbound
        (none_bound it some)) p led.led;
  }

  -- so two-sided rules are open
  pub two_sided_open : IsTwoSided rule → three_in (map row S) parents ragged rule ≡ Unknown →
      IsOpen node row (IsMade make) (IsAcyclic node) machines S rule
  two_sided_open sided is =
      let some = some_by_gap it rule is in
      open_by_ways it rule (way true sided.up some) (way false sided.down some) is

-- the law
pub two_sided_rules_are_exact : {T : Type 0} (node : T → Node) (row : T → Row) (make : Saying → ℕ → List (List ℕ) →
    List ℕ → T) → CanSay node row make → TwoSidedRulesAreExact node row (IsMade make)
two_sided_rules_are_exact node row make can machines S parents ragged single are graph rule sided =
    let it : Setting node row make machines S parents ragged =
    record { can = can; are = are; single = single; graph = graph } in
    all_told it rule (IsAcyclic node) (λ G c. c) (two_sided_open it rule sided)
