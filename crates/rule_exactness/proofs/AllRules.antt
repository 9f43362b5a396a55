-- The law of all standard rules. Of K2 unsettled is exact, though it isn't two-sided: the entry before may
-- be one that was lost, and needn't be.
use Rattle.rule_language.specs.declared.kind.Kind.TheVariants as kind
use Rattle.rule_exactness.proofs
use proofs.Imports.{[], and_from, and_parts, arith, Bool, CanSay, Contains, Contains-map, Contains-map_cases}
use proofs.Imports.{Contains-none, drop, eq-eqb, eqb-true, false, first_test, is_kind, IsAcyclic, IsMade, IsOpen}
use proofs.Imports.{k2_body, Kind, leads, length-map, List, list_all, map, member_at, Node, not, p3_body, refl, Row}
use proofs.Imports.{RuleTree, Saying, slice_get-map, standard_rules, StandardRulesAreExact, subst, suc, take, three_in}
use proofs.Imports.{true, Unknown, zero, ℕ, ◌&&◌, ◌++◌, ◌+◌, ◌-◌, ◌<◌, ◌==◌, ◌^◌, ◌||◌, ◌∷◌, ◌≡◌, ◌≢◌}
use proofs.TwoSided.{clip, two_sided_open, wish_fair, wish_for, wish_maker}
use proofs.{Fresh.IsFairly, Fresh.Wish, Led.all_told, Led.bare, Led.bare_sayable, Led.by_plan, Led.hubs_alone}
use proofs.{Led.new_are, Led.open_by_ways, Led.Plan, Led.Setting, Led.some_by_gap, Led.wish_got, P3.p3_exact, P3.paired}

module _ {T : Type 0} {node : T → Node} {row : T → Row} {make : Saying → ℕ → List (List ℕ) → List ℕ → T}
    {machines : ℕ} {S : List T} {parents : ℕ → List ℕ} {ragged : ℕ → Bool}
    (it : Setting node row make machines S parents ragged) where
  -- what the entry says that is before x
  abbrev said_before : T → Saying
  said_before x = bare kind.Opened ((row x).number - 1)

  -- an entry before each
  module _ (some : 0 < machines) where
    -- the wish for the one before x
    abbrev one_before : T → Wish node machines
    one_before x = wish_for it some (said_before x) (row x).maker

    -- these are wished
    abbrev wished : Plan it
    wished = record {
      hub = bare kind.Opened 0;
      sayable = bare_sayable kind.Opened 0 (omega arith);
      wished = map one_before S;
      fair = λ w c.
          let (x, there, is) = Contains-map_cases one_before S w c in
          let formed = it.are.formed x there in let small = formed.number in
          subst (λ (v : Wish node machines). IsFairly (IsMade make) v.make) is (wish_fair it some (said_before x)
          (row x).maker (bare_sayable kind.Opened ((row x).number - 1) (omega arith)) formed.maker);
      few = let same = length-map S one_before in let few = it.are.few in omega arith;
    }

  -- an entry that is before none
  abbrev last : Plan it
  last = hubs_alone it (bare kind.Opened (2 ^ 32 - 1)) (bare_sayable kind.Opened (2 ^ 32 - 1) (omega arith))

  -- by the first plan K2 is led to true, and by the second to false
  pub k2_open : three_in (map row S) parents ragged k2_body ≡ Unknown →
      IsOpen node row (IsMade make) (IsAcyclic node) machines S k2_body
  k2_open is =
      let some = some_by_gap it k2_body is in
      open_by_ways it k2_body (record {
        plan = wished some;
        met = λ i x at k. paired tt (λ later.
            let w = one_before some x in
            let cx = member_at S i x at in
            let (ns, d, got) = wish_got it (by_plan it (wished some)) w (Contains-map (one_before some) S x cx) in
            let y : T = w.make ns d in
            let maker : (row y).maker ≡ (row x).maker = wish_maker it some (said_before x) x cx ns d in
            let number : (row y).number ≡ (row x).number - 1 =
            it.can.number (said_before x) (clip it some (row x).maker) ns d in
            let positive : (row x).number ≢ 0 = λ none. later (rw (slice_get-map row S i, at, none) refl) in
            let next : (row y).number + 1 ≡ (row x).number = omega arith in
            ((λ j z at k. tt, (y, got, refl, and_from _ _ (eq-eqb _ _ maker) (eq-eqb _ _ next))), λ _. tt));
      }) (record {
        plan = last;
        met = λ i x at k. paired tt (λ later. paired (paired (λ j z at k. tt) (λ y new _ says.
            let (_, follows) = and_parts ((row y).maker == (row x).maker) _ says in
            let next = eqb-true ((row y).number + 1) (row x).number follows in
            let high = new_are it (by_plan it last) (λ z. (row z).number ≡ 2 ^ 32 - 1) refl
            (it.can.number (bare kind.Opened (2 ^ 32 - 1)) 0) (λ w wished. absurd (Contains-none w wished)) y new in
            let below = (it.are.formed x (member_at S i x at)).number in omega arith)) (λ _. tt));
      }) is

  -- where the rule is unsettled it is open, unless it is P3
  abbrev IsItExact : RuleTree → Type 0
  IsItExact rule = rule.body ≢ p3_body → three_in (map row S) parents ragged rule.body ≡ Unknown →
      IsOpen node row (IsMade make) (IsAcyclic node) machines S rule.body

  -- so is each of them
  data AreExact : List RuleTree → Type 0 where
    none : AreExact []
    more : {rule : RuleTree} {rules : List RuleTree} → IsItExact rule → AreExact rules → AreExact (rule ∷ rules)

  -- a rule that is among such rules is such a rule
  pick : {rules : List RuleTree} → AreExact rules → (rule : RuleTree) → Contains rules rule → IsItExact rule
  pick none rule c = absurd (Contains-none rule c)
  pick (more first others) rule (zero, l, is) = subst IsItExact is first
  pick (more first others) rule (suc k, l, at) = pick others rule (k, omega arith, at)

  -- the kinds that rules ask for, and not as what is forbidden
  abbrev asked : Kind → Bool
  asked k = is_kind kind.Opened k || is_kind kind.Authorise k || is_kind kind.Activate k || is_kind kind.Commit k

  -- the rule is led to true by these kinds, and to false by the others
  abbrev asks : RuleTree → Bool
  asks rule = first_test (leads asked rule.body []) true && first_test (leads (λ k. not (asked k)) rule.body []) false

  -- such rules are exact, in front of others
  all_of : (rules : List RuleTree) {others : List RuleTree} → list_all asks rules ≡ true → AreExact others →
      AreExact (rules ++ others)
  all_of [] t exact = exact
  all_of (rule ∷ rules) t exact =
      let (here, later) = and_parts _ _ t in
      let (up, down) = and_parts _ _ here in
      more (λ _. two_sided_open it rule.body (record {
        up = record { filled = asked; some = kind.Opened; real = refl; is_filled = refl; led = up };
        down = record { filled = λ k. not (asked k); some = kind.Closed; real = refl; is_filled = refl; led = down };
      })) (all_of rules later exact)

  -- all but P3 and K2 are such rules
  all_exact : AreExact standard_rules
  all_exact =
      all_of (take 13 standard_rules) refl (more (λ other. absurd (other refl))
      (all_of (take 3 (drop 14 standard_rules)) refl (more (λ _. k2_open) (all_of (drop 18 standard_rules) refl none))))

-- the law
pub standard_rules_are_exact : {T : Type 0} (node : T → Node) (row : T → Row) (make : Saying → ℕ → List (List ℕ) →
    List ℕ → T) → CanSay node row make → StandardRulesAreExact node row (IsMade make)
standard_rules_are_exact node row make can machines S parents ragged single are graph rule standard =
    let it : Setting node row make machines S parents ragged =
    record { can = can; are = are; single = single; graph = graph } in
    record {
      all = λ other. all_told it rule.body (IsAcyclic node) (λ G c. c) (pick it (all_exact it) rule standard other);
      ends = λ is early. rw is (all_told it p3_body (λ G. Unit {0}) (λ G c. tt) (p3_exact it early));
    }
