-- Of P3 unsettled is exact, where no end of a session precedes an authorising of it. Of P3 with further
-- disjuncts it is exact always: the rule asks also for an end before the authorising.
use Rattle.rule_exactness.specs.ExactP3.{end_before, ends_before, exact_p3_body, ExactP3IsExact, SayTheSame}
use Rattle.rule_language.specs.declared.kind.Kind.TheVariants as kind
use Rattle.rule_language.specs.declared.kind.Field.TheVariants as field
use Rattle.rule_language.specs.declared.form.Form.TheVariants as form
use Rattle.rule_meaning.proofs.Sounds.{one_more}
use Rattle.rule_exactness.proofs
use proofs.Imports.{[], all_tests, ap, arith, before_in_completion, bind, Bool, CanSay, codes, Contains, Contains-head}
use proofs.Imports.{Contains-none, Contains-one, eq-eqb, eqb-true, false, false≢true, first_value, inl, inr, is_kind}
use proofs.Imports.{IsMade, IsOpen, IsTrueOf, Kind, leads, least, List, map, member_at, no_trees, Node, NoEarlyEnd, Of}
use proofs.Imports.{opposite, Option, p3_body, place_meant, places, Precedes, precedes_over, refl, Row, row_text}
use proofs.Imports.{Saying, slice_get, Some, StandFor, subst, suc, sym, Three, three_in, tree_then, Trees, True, true}
use proofs.Imports.{unbound, Unknown, unknown≢true, values, zero, ℕ, ◌++◌, ◌<◌, ◌==◌, ◌||◌, ◌∙◌, ◌∷◌, ◌≡◌, ◌≢◌, ◌⊎◌}
use proofs.Leaning.{either_has_true, greatest_has, least_lacks, NeedUpTo}
use proofs.Led.{all_needs, all_told, bare, bare_sayable, by_plan, by_way, filled, hubs_alone, IsNew, known, led, makes}
use proofs.Led.{need_before, new_are, order, right, room, said_may_be, Setting, some_by_gap, Way, wholes}
use proofs.TwoSided.{all_met, bound_more, each_met, kind_found, none_bound, plan}
use proofs.Wished.{added_are, all_may_be, completed, Filling, hub_names, not_added}

-- the ends of a session
abbrev pub ends : List Kind
ends = kind.Cast ∷ kind.Cancel ∷ kind.Challenge ∷ []

-- they are neither an opening nor an authorising
abbrev IsEnd : Kind → Type 0
IsEnd e = (e ≢ kind.Any) × (is_kind e e ≡ true) × (is_kind e kind.Opened ≡ false) × (is_kind e kind.Authorise ≡ false)

-- what holds of each end
pub end_cases : (P : Kind → Type 0) → P kind.Cast → P kind.Cancel → P kind.Challenge → (e : Kind) →
    Contains ends e → P e
end_cases P a b c e (zero, l, is) = subst P is a
end_cases P a b c e (suc zero, l, is) = subst P is b
end_cases P a b c e (suc (suc zero), l, is) = subst P is c
end_cases P a b c e (suc (suc (suc k)), l, is) = absurd (omega arith)

-- each of the three is such an end
pub is_end : (e : Kind) → Contains ends e → IsEnd e
is_end = end_cases IsEnd (λ e. cc, refl, refl, refl) (λ e. cc, refl, refl, refl) (λ e. cc, refl, refl, refl)

-- whether the kind is one of them
abbrev pub ends_session : Kind → Bool
ends_session k = is_kind kind.Cast k || is_kind kind.Cancel k || is_kind kind.Challenge k

-- what the rule says of an authorising x and a closing y, where one of these is to be
abbrev pub inner : Trees → Trees
inner disjuncts = tree_then form.Implies
    (tree_then (form.Before 120 121) no_trees (tree_then form.Or disjuncts no_trees)) no_trees

-- the rule with these disjuncts
abbrev pub rule_of : Trees → Trees
rule_of disjuncts = tree_then (form.ForEvery 120 kind.Authorise)
    (tree_then (form.ForEvery 121 kind.Closed) (inner disjuncts) no_trees) no_trees

-- z's session is x's
abbrev same_session : Trees
same_session = tree_then (form.Equal (Of 122 field.Session) (Of 120 field.Session)) no_trees no_trees

-- what x and y stand for
abbrev pub pair : {X : Type 0} → X → X → ℕ → Option X
pair x y = bind 121 y (bind 120 x unbound)

-- both of two
pub paired : {A B : Type 0} → A → B → A × B
paired a b = (a, b)

module _ {T : Type 0} {node : T → Node} {row : T → Row} {make : Saying → ℕ → List (List ℕ) → List ℕ → T}
    {machines : ℕ} {S : List T} {parents : ℕ → List ℕ} {ragged : ℕ → Bool}
    (it : Setting node row make machines S parents ragged) where
  -- what disjuncts need
  abbrev pub Need : Filling node machines S → (ℕ → Option ℕ) → (ℕ → Option T) → Bool → Trees → Type 0
  Need by σ ρ p disjuncts =
      NeedUpTo True (values (map row S) (order it) (wholes it) disjuncts σ) (all_needs it by disjuncts σ ρ) p

  -- so what the three ends need, before others
  pub ends_need : (by : Filling node machines S) (σ : ℕ → Option ℕ) (ρ : ℕ → Option T) (p : Bool) (u : ℕ)
      (rest : Trees) → ((e : Kind) → Contains ends e → need_before it by (ρ u) 122 e same_session ρ p) →
      Need by σ ρ p rest → Need by σ ρ p (ends_before u rest)
  ends_need by σ ρ p u rest each others =
      let cast = each kind.Cast (0, omega arith, refl) in
      let cancel = each kind.Cancel (1, omega arith, refl) in
      let challenge = each kind.Challenge (2, omega arith, refl) in
      ((λ i e at k. tt, cast), λ _. ((λ i e at k. tt, cancel), λ _. ((λ i e at k. tt, challenge), λ _. others)))

  -- ends of each session that stand behind every gap lead it to true
  up : (disjuncts : Trees) → all_tests (leads ends_session disjuncts (121 ∷ 120 ∷ [])) true ≡ true → 0 < machines →
      Way it (rule_of disjuncts) true
  up disjuncts t some =
      let hub = plan it some ends_session kind.Cast refl refl in
      record {
        plan = hub;
        met = λ i x at k j y also l.
            let cx = member_at S i x at in
            let one = bound_more it some [] unbound (none_bound it some) 120 x cx in
            let both = bound_more it some (120 ∷ []) (bind 120 x unbound) one 121 y (member_at S j y also) in (
              elim [ inl c ↦ not_added (by_plan it hub) x cx c | inr tied ↦ Contains-none tied.0 tied.1 ],
              λ _. each_met True _ (all_met it some ends_session kind.Cast refl refl disjuncts (121 ∷ 120 ∷ [])
                  (pair i j) (pair x y) both) true t,
            );
      }

  module _ (x : T) (cx : Contains S x) where
    -- hubs name x alone
    abbrev pub tying : Filling node machines S
    tying = record {
      are = it.are.survivors;
      hub = make (bare kind.Opened 0) 0;
      makes = makes it (bare kind.Opened 0);
      wished = [];
      ties = x ∷ [];
      kept = λ t c. subst (Contains S) (Contains-one x t c) cx;
      room = room it [] (omega arith);
    }

    -- no end of x's session is new, where none precedes x
    pub no_end : is_kind kind.Authorise (row x).kind ≡ true → (e : Kind) → Contains ends e →
        ((z : T) → Precedes node S z x → (row z).session ≡ (row x).session → (row z).kind ≢ e) → (z : T) →
        IsNew it tying z → is_kind e (row z).kind ≡ true → ((row z).session == (row x).session) ≡ true → ⊥
    no_end authorises e end none z (inl c) is says =
        let hub_kind = added_are tying (λ v. (row v).kind ≡ kind.Opened)
        (λ d _. it.can.kind (bare kind.Opened 0) 0 (hub_names tying) d (λ e. cc))
        (λ w wished. absurd (Contains-none w wished)) z c in
        false≢true (sym (is_end e end).2 ∙ sym (ap (is_kind e) hub_kind) ∙ is)
    no_end authorises e end none z (inr (t, there, cz, inl itself)) is says =
        let kinds : (row z).kind ≡ kind.Authorise =
        ap (λ v. (row v).kind) (itself ∙ sym (Contains-one x t there))
        ∙ kind_found kind.Authorise (row x).kind (λ e. cc) authorises in
        false≢true (sym (is_end e end).3 ∙ sym (ap (is_kind e) kinds) ∙ is)
    no_end authorises e end none z (inr (t, there, cz, inr path)) is says =
        none z (subst (Precedes node S z) (sym (Contains-one x t there)) path)
        (eqb-true (row z).session (row x).session says) (kind_found e (row z).kind (is_end e end).0 is)

  module _ (i j : ℕ) (x y : T) (at_x : slice_get S i ≡ Some x) (at_y : slice_get S j ≡ Some y) where
    -- they stand for each other in every completion
    pub stand : (G : List T) → IsTrueOf node S G (order it) (wholes it) → (v : ℕ) → StandFor S (pair i j v) (pair x y v)
    stand G here =
        one_more node row S G (order it) (wholes it) it.single here 121 j y (bind 120 i unbound) (bind 120 x unbound)
        at_y (one_more node row S G (order it) (wholes it) it.single here 120 i x unbound unbound at_x (λ v. tt))

    -- the value of an end's being before x
    abbrev end_value : Kind → Three
    end_value e = first_value (values (map row S) (order it) (wholes it) (end_before e 120 no_trees) (pair i j))

    -- where no end of the kind is known to precede x, none does among the survivors
    none_early : (e : Kind) → Contains ends e → (end_value e ≡ True → ⊥) → (z : T) → Precedes node S z x →
        (row z).session ≡ (row x).session → (row z).kind ≢ e
    none_early e end lacks z path same is =
        let (_, itself, not_opened, _) = is_end e end in
        let by = by_plan it (hubs_alone it (bare kind.Opened 0) (bare_sayable kind.Opened 0 (omega arith))) in
        let early = before_in_completion node S machines (filled it by) (completed by) z x path in
        led it by (end_before e 120 no_trees) (pair i j) (pair x y) (stand (filled it by) (known it by)) false
        (paired (λ m v at k. tt) (λ v new k says.
        let hub_kind = new_are it by (λ w. (row w).kind ≡ kind.Opened) refl
        (λ ns d. it.can.kind (bare kind.Opened 0) 0 ns d (λ e. cc))
        (λ w wished. absurd (Contains-none w wished)) v new in
        false≢true (sym not_opened ∙ sym (ap (is_kind e) hub_kind) ∙ k)))
        lacks (z, ap (is_kind e) is ∙ itself, early, eq-eqb (row z).session (row x).session same)

    -- hubs that name x alone
    abbrev pub by_x : Filling node machines S
    by_x = tying x (member_at S i x at_x)

    -- this pair isn't known to be as the rule says
    abbrev pub Lacks : Trees → Type 0
    Lacks disjuncts = first_value (values (map row S) (order it) (wholes it) (inner disjuncts) (pair i j)) ≢ True

  -- where the rule is unsettled it is open, if ends lead its disjuncts to true and some pairs break it
  pub opens : (disjuncts : Trees) → all_tests (leads ends_session disjuncts (121 ∷ 120 ∷ [])) true ≡ true →
      ((i j : ℕ) (x y : T) (at_x : slice_get S i ≡ Some x) (at_y : slice_get S j ≡ Some y) →
      is_kind kind.Authorise (row x).kind ≡ true → Lacks i j x y at_x at_y disjuncts →
      Need (by_x i j x y at_x at_y) (pair i j) (pair x y) false disjuncts) →
      three_in (map row S) parents ragged (rule_of disjuncts) ≡ Unknown →
      IsOpen node row (IsMade make) (λ G. Unit {0}) machines S (rule_of disjuncts)
  opens disjuncts t breaks is =
      let way = up disjuncts t (some_by_gap it (rule_of disjuncts) is) in
      let (F, c, holds) = by_way it (rule_of disjuncts) way is in
      let at_pair = λ (i j : ℕ).
      first_value (values (map row S) (order it) (wholes it) (inner disjuncts) (pair i j)) in
      let closings = places (map row S) (order it) (wholes it) kind.Closed in
      let (i, placed_i, lacks_i) = least_lacks (λ i. least (map (at_pair i) closings))
      (places (map row S) (order it) (wholes it) kind.Authorise) (λ t. unknown≢true (sym is ∙ t)) in
      let (j, placed_j, lacks) = least_lacks (at_pair i) closings lacks_i in
      let some = known it (by_plan it way.plan) in
      let meant = place_meant node row S (filled it (by_plan it way.plan)) (order it) (wholes it) it.single some in
      let (x, at_x, k) = meant kind.Authorise i placed_i in
      let (y, at_y, l) = meant kind.Closed j placed_j in
      let by = by_x i j x y at_x at_y in
      record {
        kept = (F, record { whole = c.whole; each = c.each; allowed = tt }, holds);
        broken = (
          filled it by,
          record {
            whole = completed by;
            allowed = tt;
            each = all_may_be by (IsMade make)
                (said_may_be it (bare kind.Opened 0) 0 (bare_sayable kind.Opened 0 (omega arith)) (omega arith))
                (λ w c. absurd (Contains-none w c)) (omega arith) (right it);
          },
          λ holds. led it by (inner disjuncts) (pair i j) (pair x y)
              (stand i j x y at_x at_y (filled it by) (known it by)) false
              (inr (Contains-head x []), λ _. breaks i j x y at_x at_y k lacks) lacks
              (holds x (member_at S i x at_x) k y (member_at S j y at_y) l),
        );
      }

  -- so it is of P3, where no end of a session precedes an authorising of it
  pub p3_exact : NoEarlyEnd node row S → three_in (map row S) parents ragged p3_body ≡ Unknown →
      IsOpen node row (IsMade make) (λ G. Unit {0}) machines S p3_body
  p3_exact early = opens (ends_before 121 no_trees) refl (λ i j x y at_x at_y k lacks.
      let none = λ (e : Kind) (c : Contains ends e) (z : T) (path : Precedes node S z x)
      (same : (row z).session ≡ (row x).session).
      let (cast, cancel, challenge) = early x z (kind_found kind.Authorise (row x).kind (λ e. cc) k) path same in
      end_cases (λ e. (row z).kind ≢ e) cast cancel challenge e c in
      ends_need (by_x i j x y at_x at_y) (pair i j) (pair x y) false 121 no_trees
      (λ e c. no_end x (member_at S i x at_x) k e c (none e c)) tt)

  -- so it is of the rule with its further disjuncts
  exact_p3_open : three_in (map row S) parents ragged exact_p3_body ≡ Unknown →
      IsOpen node row (IsMade make) (λ G. Unit {0}) machines S exact_p3_body
  exact_p3_open = opens (ends_before 121 (ends_before 120 no_trees)) refl (λ i j x y at_x at_y k lacks.
      let disjuncts = ends_before 121 (ends_before 120 no_trees) in
      let each = values (map row S) (order it) (wholes it) disjuncts (pair i j) in
      let early = end_value i j x y at_x at_y in
      let lost = λ (e : Kind) (c : Contains each (early e)) (t : early e ≡ True).
      lacks (rw (greatest_has each (early e) c t) (either_has_true (opposite (order it i j)))) in
      let lacking = end_cases (λ e. early e ≡ True → ⊥) (lost kind.Cast (3, omega arith, refl))
      (lost kind.Cancel (4, omega arith, refl)) (lost kind.Challenge (5, omega arith, refl)) in
      let none = λ (e : Kind) (c : Contains ends e). no_end x (member_at S i x at_x) k e c
      (none_early i j x y at_x at_y e c (lacking e c)) in
      let need = ends_need (by_x i j x y at_x at_y) (pair i j) (pair x y) false in
      need 121 (ends_before 120 no_trees) none (need 120 no_trees none tt))

-- the laws
pub exact_p3_is_exact : {T : Type 0} (node : T → Node) (row : T → Row)
    (make : Saying → ℕ → List (List ℕ) → List ℕ → T) → CanSay node row make → ExactP3IsExact node row (IsMade make)
exact_p3_is_exact node row make can machines S parents ragged single are graph =
    let it : Setting node row make machines S parents ragged =
    record { can = can; are = are; single = single; graph = graph } in
    all_told it exact_p3_body (λ G. Unit {0}) (λ G c. tt) (exact_p3_open it)

-- one of the first three, or what the rest say
of_three : {A B C D E : Type 0} → A ⊎ (B ⊎ (C ⊎ D)) → (A → E) → (B → E) → (C → E) → (D → E) → E
of_three (inl a) f g h rest = f a
of_three (inr (inl b)) f g h rest = g b
of_three (inr (inr (inl c))) f g h rest = h c
of_three (inr (inr (inr d))) f g h rest = rest d

-- an end that precedes the authorising precedes what the authorising precedes
pub exact_p3_says_the_same : {T : Type 0} (node : T → Node) (row : T → Row) → SayTheSame node row exact_p3_body p3_body
exact_p3_says_the_same {T} node row S G = paired
    (λ holds x cx k y cy l path. of_three (holds x cx k y cy l path) inl (λ b. inr (inl b)) (λ c. inr (inr (inl c)))
    (λ early. of_three early (λ a. inl (later x y path a)) (λ b. inr (inl (later x y path b)))
    (λ c. inr (inr (inl (later x y path c)))) (λ none. absurd none)))
    (λ holds x cx k y cy l path. of_three (holds x cx k y cy l path) inl (λ b. inr (inl b)) (λ c. inr (inr (inl c)))
    (λ none. absurd none))
  where
    -- what precedes x precedes y
    later : {P Q : T → Type 0} (x y : T) → Precedes node G x y → ((z : T) × P z × Precedes node G z x × Q z) →
        (z : T) × P z × Precedes node G z y × Q z
    later x y path (z, k, early, same) = (z, k, precedes_over node G z x y early path, same)

-- and what is written of it, after its name, is this
exact_p3_text : row_text exact_p3_body
    ≡ codes " (every x authorise (every y closed (implies (before x y) (or"
    ++ codes " (some z cast before y (= z.session x.session))"
    ++ codes " (some z cancel before y (= z.session x.session)) (some z challenge before y (= z.session x.session))"
    ++ codes " (some z cast before x (= z.session x.session)) (some z cancel before x (= z.session x.session))"
    ++ codes " (some z challenge before x (= z.session x.session))))))"
exact_p3_text = refl
