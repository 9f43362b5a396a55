-- Completions of survivors in which wished entries lead a rule to a value. Where a rule can be led to both
-- values, it is unsettled exactly where it is open.
use Rattle.rule_language.specs.declared.kind.Kind.TheVariants as kind
use Rattle.rule_exactness.proofs.Imports
use Imports.{[], ancestor_from_reaches, AreDigests, AreWellFormed, arith, ascending, before, Bool, CanSay, cond}
use Imports.{Contains, Contains-head, Contains-none, Descends, False, false, filter, first_sentence, first_value}
use Imports.{flat_map, gap_cases, gaps, graphs_are_true, has_digest, HasNoDouble, Holds, inl, inr, is_whole, IsAcyclic}
use Imports.{IsAllThatIsTold, IsGraphOf, IsMade, IsOpen, IsSayable, IsTrueOf, IsWalk, Kind, length}
use Imports.{length-insert_digest, length-replicate, List, MakesAny, map, MayComplete, meanings, member_at, Node, not}
use Imports.{Option, place_of, Precedes, reaches, reaches_from_precedes, refl, replicate, Row, rules_are_settled}
use Imports.{Saying, StandFor, subst, sym, Three, three_in, Trees, True, true, unbound, Unknown, unknown_only_by_gaps}
use Imports.{unknown≢false, unknown≢true, values, ℕ, ◌<◌, ◌^◌, ◌∙◌, ◌∷◌, ◌≡◌, ◌≢◌, ◌≤◌, ◌⊎◌}
use Rattle.rule_exactness.proofs.Digests.{few_filtered, flat_few}
use Rattle.rule_exactness.proofs.Fresh.{granted_each, HasRoom, head_few, IsFairly, Wish}
use Rattle.rule_exactness.proofs.Leaning.{first_lean, first_need, Leading, Leans, Need, needs, NeedSomeBefore}
use Rattle.rule_exactness.proofs.Wished.{acyclic, added_are, all, all_may_be, completed, extras, Filling, gapped}
use Rattle.rule_exactness.proofs.Wished.{got_before, hub_names, IsAdded, IsGot, IsTied, sources}

-- before a whole place nothing is unknown
before_known : (r w : Bool) → w ≡ true → cond r True (cond w False Unknown) ≢ Unknown
before_known r w e u = grind arith

-- a value that is neither false nor unknown is true
only_true : (x : Three) → x ≢ False → x ≢ Unknown → x ≡ True
only_true x a b = grind arith

-- one that is neither true nor unknown is false
only_false : (x : Three) → x ≢ True → x ≢ Unknown → x ≡ False
only_false x a b = grind arith

-- and one that is neither true nor false is unknown
only_unknown : (x : Three) → x ≢ True → x ≢ False → x ≡ Unknown
only_unknown x a b = grind arith

-- a list that isn't empty has a member
member_of : {X : Type 0} (xs : List X) → xs ≢ [] → (x : X) × Contains xs x
member_of [] some = absurd (some refl)
member_of (x ∷ xs) some = (x, Contains-head x xs)

-- a walk goes down
walk_falls : (parents : ℕ → List ℕ) → Descends parents → (x : ℕ) (zs : List ℕ) (y : ℕ) → IsWalk parents x zs y → y < x
walk_falls parents falls x [] y w = falls x y w
walk_falls parents falls x (z ∷ zs) y (arrow, walk) =
    let first = falls x z arrow in let rest = walk_falls parents falls z zs y walk in omega arith

-- no survivor precedes itself
pub survivors_acyclic : {T : Type 0} (node : T → Node) (S : List T) (parents : ℕ → List ℕ) (ragged : ℕ → Bool) →
    IsGraphOf node S parents ragged → (e : T) → ¬ Precedes node S e e
survivors_acyclic node S parents ragged graph e path =
    let (i, at) = place_of S e path.0 in
    let (zs, walk) =
    ancestor_from_reaches parents i i i (reaches_from_precedes node 0 S parents ragged graph i i e e at at path) in
    let less = walk_falls parents graph.descends i zs i walk in omega arith

-- an entry of a kind that says nothing else
abbrev pub bare : Kind → ℕ → Saying
bare kind number =
    record { kind = kind; number = number; session = 0; ballot = replicate 32 0; booth = 0 }

-- it can be said
pub bare_sayable : (k : Kind) (n : ℕ) → n < 2 ^ 32 → IsSayable (bare k n)
bare_sayable k n small =
    record { number = small; session = omega arith; ballot = length-replicate {A = ℕ} 32 0; booth = omega arith }

-- well-formed survivors with their graph, and how entries are made
pub record Setting {T : Type 0} (node : T → Node) (row : T → Row)
    (make : Saying → ℕ → List (List ℕ) → List ℕ → T) (machines : ℕ) (S : List T) (parents : ℕ → List ℕ)
    (ragged : ℕ → Bool) : Type 0 where
  pub can : CanSay node row make
  pub are : AreWellFormed node row machines S
  pub single : HasNoDouble S
  pub graph : IsGraphOf node S parents ragged

module _ {T : Type 0} {node : T → Node} {row : T → Row} {make : Saying → ℕ → List (List ℕ) → List ℕ → T}
    {machines : ℕ} {S : List T} {parents : ℕ → List ℕ} {ragged : ℕ → Bool}
    (it : Setting node row make machines S parents ragged) where
  -- whether one place comes before another, as far as it is known, and whether one is whole
  abbrev pub order : ℕ → ℕ → Three
  order = before parents ragged

  -- whether a place and what comes before it name no gap
  abbrev pub wholes : ℕ → Bool
  wholes x = is_whole parents ragged x x

  -- entries that say this can be made by machine 0
  pub makes : (s : Saying) → MakesAny node (make s 0)
  makes s = record { digest = it.can.digest s 0; maker = it.can.maker s 0; names = it.can.names s 0 }

  -- what is sayable may be
  pub said_may_be : (s : Saying) (m : ℕ) → IsSayable s → m < 2 ^ 32 → IsFairly (IsMade make) (make s m)
  said_may_be s m sayable small ns d few names digest = record {
    says = s;
    maker = m;
    names = ns;
    digest = d;
    sayable = sayable;
    small = small;
    few = few;
    named = names;
    long = digest;
    is = refl;
  }

  -- sorting adds none
  few_ascending : (ds : List (List ℕ)) → length (ascending ds) ≤ length ds
  few_ascending [] = omega arith
  few_ascending (d ∷ ds) =
      let rest = few_ascending ds in let one = length-insert_digest d (ascending ds) in omega arith

  -- so there is room for more
  pub room : (ws : List (Wish node machines)) → length ws ≤ 256 ^ 31 → HasRoom node S machines ws
  room ws few =
      let most = it.are.few in
      let named = flat_map (λ (e : T). (node e).names) S in
      let names = flat_few (λ (e : T). (node e).names) S 16384 16384 most (λ x c. (it.are.formed x c).few) in
      let lost = few_filtered (λ d. not (has_digest node S d)) named in
      let sorted = few_ascending (filter (λ d. not (has_digest node S d)) named) in omega arith

  module _ (by : Filling node machines S) where
    -- the completion
    abbrev pub filled : List T
    filled = all by

    -- what is known of the order is true of it
    pub known : IsTrueOf node S filled order wholes
    known = graphs_are_true node machines S filled parents ragged it.graph (completed by)

    -- what isn't known to precede: what was added, and what is tied
    abbrev pub IsNew : T → Type 0
    IsNew e = IsAdded by e ⊎ IsTied by e

    -- so formulas are led in it
    pub leading : Leading node row S filled order wholes IsNew (IsGot by)
    leading = record {
      single = it.single;
      known = known;
      sources = λ u last at f path. elim (sources by last f (member_at S u last at) path) [
        | inl among ↦
            let (i, here) = place_of S f among.0 in
            let reached = reaches_from_precedes node machines S parents ragged it.graph i u f last here at among in
            inl (i, here, rw reached refl)
        | inr new ↦ inr new
      ];
      settled = λ y u. before_known (reaches parents u y u) (is_whole parents ragged u u);
      gives = λ u last at unwhole e got.
          let (d, past) = gapped node S parents ragged it.graph u u last at unwhole in
          got_before by last (member_at S u last at) d past e got;
    }

    -- what formulas need to be led here
    abbrev pub all_needs : Trees → (ℕ → Option ℕ) → (ℕ → Option T) → List Need
    all_needs = needs leading

    -- what the first of them needs
    abbrev pub need : Trees → (ℕ → Option ℕ) → (ℕ → Option T) → Bool → Type 0
    need trees σ ρ p = first_need (all_needs trees σ ρ) p

    -- what a quantifier over what came before an entry needs
    abbrev pub need_before : Option T → ℕ → Kind → Trees → (ℕ → Option T) → Bool → Type 0
    need_before o v k parts ρ p = NeedSomeBefore leading o (meanings node row S filled parts) v k ρ p

    -- where it is met they are led
    pub led : (trees : Trees) (σ : ℕ → Option ℕ) (ρ : ℕ → Option T) → ((v : ℕ) → StandFor S (σ v) (ρ v)) → (p : Bool) →
        need trees σ ρ p →
        Leans p (first_value (values (map row S) order wholes trees σ))
        (first_sentence (meanings node row S filled trees ρ))
    led = first_lean leading

    -- what was wished is got
    pub wish_got : (w : Wish node machines) → Contains by.wished w →
        (ns : List (List ℕ)) × (d : List ℕ) × IsGot by (w.make ns d)
    wish_got w wished =
        let (ns, d, c) = granted_each node S machines by.wished w wished in (ns, d, inl c)

    -- where hubs name no survivor, what is new is a hub or was wished
    pub new_are : (P : T → Type 0) → by.ties ≡ [] → ((ns : List (List ℕ)) (d : List ℕ) → P (by.hub ns d)) →
        ((w : Wish node machines) → Contains by.wished w → (ns : List (List ℕ)) (d : List ℕ) → P (w.make ns d)) →
        (e : T) → IsNew e → P e
    new_are P none at_hub at_wish e (inl c) =
        added_are by P (λ d _. at_hub (hub_names by) d) (λ w wished ns d _ _ _. at_wish w wished ns d) e c
    new_are P none at_hub at_wish e (inr tied) =
        absurd (Contains-none tied.0 (subst (λ ts. Contains ts tied.0) none tied.1))

  -- names and digests of survivors have 32 octets
  pub right : (x : T) → Contains S x → AreDigests (node x).names × (length (node x).digest ≡ 32)
  right x c = let formed = it.are.formed x c in (formed.names, formed.digest)

  -- what stands for the gaps, and what is wished
  pub record Plan : Type 0 where
    pub hub : Saying
    pub sayable : IsSayable hub
    pub wished : List (Wish node machines)
    pub fair : (w : Wish node machines) → Contains wished w → IsFairly (IsMade make) w.make
    pub few : length wished ≤ 256 ^ 31

  -- nothing is wished
  abbrev pub hubs_alone : (hub : Saying) → IsSayable hub → Plan
  hubs_alone hub sayable =
      record { hub = hub; sayable = sayable; wished = []; fair = λ w c. absurd (Contains-none w c); few = omega arith }

  -- the completion by a plan
  abbrev pub by_plan : Plan → Filling node machines S
  by_plan plan = record {
    are = it.are.survivors;
    hub = make plan.hub 0;
    makes = makes plan.hub;
    wished = plan.wished;
    ties = [];
    kept = λ t c. absurd (Contains-none t c);
    room = room plan.wished plan.few;
  }

  -- it may complete the survivors
  completed_by : (plan : Plan) → MayComplete node row (IsMade make) (IsAcyclic node) machines S (filled (by_plan plan))
  completed_by plan = record {
    whole = completed (by_plan plan);
    each = all_may_be (by_plan plan) (IsMade make) (said_may_be plan.hub 0 plan.sayable (omega arith)) plan.fair
        (omega (arith, head_few node (extras (by_plan plan)))) right;
    allowed = acyclic (by_plan plan) refl (survivors_acyclic node S parents ragged it.graph);
  }

  module _ (rule : Trees) where
    -- where it is unsettled there is a gap, and so some entry survives and there is a machine
    pub some_by_gap : three_in (map row S) parents ragged rule ≡ Unknown → 0 < machines
    some_by_gap is =
        let (d, gap) = member_of (gaps node S) (unknown_only_by_gaps node row S parents ragged it.graph rule is).1 in
        let ((e, there, _), _) = gap_cases node S d gap in
        let low = it.are.survivors.in_roster e there in omega arith

    -- a plan by which the rule is led to the value
    pub record Way (p : Bool) : Type 0 where
      pub plan : Plan
      pub met : need (by_plan plan) rule unbound unbound p

    -- so the rule is led there, in the completion by the plan
    led_by : (p : Bool) (way : Way p) →
        Leans p (three_in (map row S) parents ragged rule) (Holds node row S (filled (by_plan way.plan)) rule)
    led_by p way = led (by_plan way.plan) rule unbound unbound (λ v. tt) p way.met

    -- where there is a way to true some completion keeps it
    pub by_way : Way true → three_in (map row S) parents ragged rule ≡ Unknown →
        (G : List T) × MayComplete node row (IsMade make) (IsAcyclic node) machines S G × Holds node row S G rule
    by_way way is =
        (filled (by_plan way.plan), completed_by way.plan, led_by true way (λ f. unknown≢false (sym is ∙ f)))

    -- where there is one to false too it is open
    pub open_by_ways : Way true → Way false → three_in (map row S) parents ragged rule ≡ Unknown →
        IsOpen node row (IsMade make) (IsAcyclic node) machines S rule
    open_by_ways up down is = record {
      kept = by_way up is;
      broken = (filled (by_plan down.plan), completed_by down.plan, led_by false down (λ t. unknown≢true (sym is ∙ t)));
    }

    -- where it is open wherever it is unsettled, all is told, if completions in which no entry precedes
    -- itself are allowed
    pub all_told : (Allowed : List T → Type 0) → ((G : List T) → IsAcyclic node G → Allowed G) →
        (three_in (map row S) parents ragged rule ≡ Unknown → IsOpen node row (IsMade make) Allowed machines S rule) →
        IsAllThatIsTold node row (IsMade make) Allowed machines S rule (three_in (map row S) parents ragged rule)
    all_told Allowed free exact = record {
      kept = (
        λ e G c. (settled G c).0 e,
        λ each. only_true _ (λ f. (settled some.0 some.1).1 f (each some.0 some.1))
            (λ u. let (G, c, fails) = (exact u).broken in fails (each G c)),
      );
      broken = (
        λ e G c. (settled G c).1 e,
        λ none. only_false _ (λ t. none some.0 some.1 ((settled some.0 some.1).0 t))
            (λ u. let (G, c, holds) = (exact u).kept in none G c holds),
      );
      unsettled = (
        exact,
        λ o. only_unknown _ (λ t. let (G, c, fails) = o.broken in fails ((settled G c).0 t))
            (λ f. let (G, c, holds) = o.kept in (settled G c).1 f holds),
      );
    }
      where
        -- what is known of the rule holds of each completion
        settled : (G : List T) → MayComplete node row (IsMade make) Allowed machines S G →
            (three_in (map row S) parents ragged rule ≡ True → Holds node row S G rule)
            × (three_in (map row S) parents ragged rule ≡ False → ¬ Holds node row S G rule)
        settled G c = rules_are_settled node row machines S G parents ragged it.single it.graph c.whole rule

        -- there is a completion
        some : (G : List T) × MayComplete node row (IsMade make) Allowed machines S G
        some =
            let plan : Plan = hubs_alone (bare kind.Opened 0) (bare_sayable kind.Opened 0 (omega arith)) in
            let c = completed_by plan in
            let F = filled (by_plan plan) in
            (F, record { whole = c.whole; each = c.each; allowed = free F c.allowed })
