-- The survivors with one entry more for each gap, and which survivors may precede which, with and without cycles.
use Rattle.entry_order.proofs.Imports
use Imports.{Completion, Contains, Contains-append_cases, Contains-append_left, Contains-append_right, Contains-head}
use Imports.{Contains-map, Contains-map_cases, Contains-none, Contains-one, Distinct, IsBorneIn, IsInPast, IsNamedIn}
use Imports.{IsNoLater, IsPath, IsWhole, List, Names, NamesNoGap, Node, Precedes, [], ap, arith, bytes_eq}
use Imports.{bytes_eq-Decides, cases_Bool, cond, gaps, inl, inr, is_there, last_arrow, map, no_later_on, precedes_on}
use Imports.{precedes_over, refl, subst, sym, ℕ, ◌++◌, ◌<◌, ◌∙◌, ◌∷◌, ◌≡◌, ◌⊎◌}
use Rattle.entry_order.proofs.Completions.{back, before_among_survivors, before_in_completion, gap_cases}
use Rattle.entry_order.proofs.Completions.{gap_or_bearer, no_later_in_completion}
use Rattle.entry_order.specs.{AcyclicOrder.MakesAny, AcyclicOrder.OrderIsExactWithoutCycles, Exact.AreSurvivors}
use Rattle.entry_order.specs.{Exact.CompletionsExist, Exact.OrderIsExact, Precedes.IsAcyclic}

-- an entry for each digest, of machine 0, which names this of the survivors
pub record Fills {T : Type 0} (node : T → Node) (S : List T) (fill : List ℕ → T) : Type 0 where
  pub bears : (d : List ℕ) → (node (fill d)).digest ≡ d
  pub maker : (d : List ℕ) → (node (fill d)).maker ≡ 0
  pub names : (d c : List ℕ) → Contains (node (fill d)).names c → IsBorneIn node S c

module _ {T : Type 0} (node : T → Node) (machines : ℕ) (S : List T) (fill : List ℕ → T) (fills : Fills node S fill)
    (are : AreSurvivors node machines S) where
  -- all of them
  abbrev pub filled : List T
  filled = S ++ map fill (gaps node S)

  -- each is a survivor, or fills a gap
  pub filled_cases : (e : T) → Contains filled e →
      Contains S e ⊎ ((d : List ℕ) × Contains (gaps node S) d × (fill d ≡ e))
  filled_cases e c =
      elim (Contains-append_cases S (map fill (gaps node S)) e c)
      [ inl old ↦ inl old | inr new ↦ inr (Contains-map_cases fill (gaps node S) e new) ]

  -- what fills a gap is one of them
  pub in_filled : (d : List ℕ) → Contains (gaps node S) d → Contains filled (fill d)
  in_filled d gap = Contains-append_right S _ (fill d) (Contains-map fill (gaps node S) d gap)

  -- each is of one of the machines
  in_roster : (e : T) → Contains filled e → (node e).maker < machines
  in_roster e c =
      elim (filled_cases e c) [
        | inl old ↦ are.in_roster e old
        | inr (d, gap, is) ↦
            let ((g, there, _), _) = gap_cases node S d gap in
            let few = are.in_roster g there in rw (← is) (omega (arith, fills.maker d))
      ]

  -- an entry that fills a gap has a digest that no survivor has
  apart : (e f : T) (d : List ℕ) → Contains S e → Contains (gaps node S) d → fill d ≡ f →
      (node e).digest ≡ (node f).digest → ⊥
  apart e f d old gap same is = (gap_cases node S d gap).1 (e, old, is ∙ rw (← same) (fills.bears d))

  -- no two have one digest
  distinct : Distinct node filled
  distinct e f ce cf is =
      elim (filled_cases e ce) [
        | inl old ↦ elim (filled_cases f cf)
            [ inl other ↦ are.distinct e f old other is | inr (d, gap, same) ↦ absurd (apart e f d old gap same is) ]
        | inr (d, gap, same) ↦ elim (filled_cases f cf) [
          | inl old ↦ absurd (apart f e d old gap same (sym is))
          | inr (c, _, other) ↦ cc (fills.bears d, fills.bears c)
        ]
      ]

  -- the filled entries have every digest that the survivors have
  borne : (d : List ℕ) → IsBorneIn node S d → IsBorneIn node filled d
  borne d (e, there, is) = (e, Contains-append_left S (map fill (gaps node S)) e there, is)

  -- they have every digest that they name
  bears_all : (d : List ℕ) → IsNamedIn node filled d → IsBorneIn node filled d
  bears_all d (e, c, names) =
      elim (filled_cases e c) [
        | inl old ↦ elim (gap_or_bearer node S e d old names)
            [ inl gap ↦ (fill d, in_filled d gap, fills.bears d) | inr has ↦ borne d has ]
        | inr (g, _, same) ↦ borne d (fills.names g d (rw (← same) at names))
      ]

  -- they complete the survivors
  pub completes : Completion node machines S filled
  completes =
      record { in_roster = in_roster; keeps = Contains-append_left S _; distinct = distinct; lacks_nothing = bears_all }

  -- what an entry that fills a gap names precedes what has the gap in its past
  precedes_through : (d : List ℕ) (y x : T) → Contains S y → Contains S x → Names node (fill d) y →
      IsInPast node S d x → Precedes node filled y x
  precedes_through d y x cy cx ties (gap, (e, near, names)) =
      let there = completes.keeps e (is_there node S e x cx near) in
      precedes_on node filled y e x (
        completes.keeps y cy,
        there,
        fill d ∷ [],
        (in_filled d gap, ties, rw (fills.bears d) names),
      ) (no_later_in_completion node S machines filled completes e x near)

  module _ (nothing : (d c : List ℕ) → Contains (node (fill d)).names c → ⊥) where
    -- where they name nothing no path goes through them
    old_path : (f : T) (between : List T) (e : T) → Contains S f → IsPath node filled f between e →
        IsPath node S f between e
    old_path f [] e there p = p
    old_path f (g ∷ gs) e there (c, names, rest) =
        elim (filled_cases g c) [
          | inl old ↦ (old, names, old_path g gs e old rest)
          | inr (d, _, same) ↦ absurd (nothing d (node f).digest (rw (← same) at names))
        ]

    -- nothing precedes a survivor in the completion that doesn't among survivors
    old_order : (y x : T) → Contains S y → Contains S x → Precedes node filled y x → Precedes node S y x
    old_order y x cy cx (_, _, between, path) = (cy, cx, between, old_path y between x cy path)

-- all such entries have a completion, where there is an entry for each digest
pub completions_exist : {T : Type 0} (node : T → Node) (fill : List ℕ → T) →
    ((d : List ℕ) → (node (fill d)).digest ≡ d) → ((d : List ℕ) → (node (fill d)).maker ≡ 0) →
    ((d c : List ℕ) → Contains (node (fill d)).names c → ⊥) → CompletionsExist node
completions_exist node fill bears maker nothing machines S are =
    let fills : Fills node S fill =
    record { bears = bears; maker = maker; names = λ d c names. absurd (nothing d c names) } in
    (filled node machines S fill fills are, completes node machines S fill fills are)

module _ {T : Type 0} (node : T → Node) (made : List (List ℕ) → List ℕ → T)
    (bears : (names : List (List ℕ)) (d : List ℕ) → (node (made names d)).digest ≡ d)
    (maker : (names : List (List ℕ)) (d : List ℕ) → (node (made names d)).maker ≡ 0)
    (named : (names : List (List ℕ)) (d : List ℕ) → (node (made names d)).names ≡ names) where
  -- entries that name nothing
  no_names : (d c : List ℕ) → Contains (node (made [] d)).names c → ⊥
  no_names d c there = Contains-none c (rw (named [] d) at there)

  -- they fill the gaps
  bare : (S : List T) → Fills node S (made [])
  bare S = record { bears = bears []; maker = maker []; names = λ d c names. absurd (no_names d c names) }

  module _ (machines : ℕ) (S : List T) (are : AreSurvivors node machines S) (y x : T) (cy : Contains S y)
      (cx : Contains S x) where
    -- what precedes in no completion is known not to: the later one is whole
    never_is_known : ((G : List T) → Completion node machines S G → ¬ Precedes node G y x) → IsWhole node S x
    never_is_known never = record { itself = ties x (inl refl); ancestors = λ z before. ties z (inr before) }
      where
        only : List (List ℕ)
        only = (node y).digest ∷ []

        tying : Fills node S (made only)
        tying = record {
          bears = bears only;
          maker = maker only;
          names = λ d c names. (y, cy, Contains-one _ c (rw (named only d) at names));
        }

        ties : (z : T) → IsNoLater node S z x → NamesNoGap node S z
        ties z near d names gap =
            let first : Names node (made only d) y = rw (named only d) (Contains-head _ []) in
            never (filled node machines S (made only) tying are) (completes node machines S (made only) tying are)
            (precedes_through node machines S (made only) tying are d y x cy cx first (gap, (z, near, names)))

  -- what is reported of the order is exact
  pub order_is_exact : OrderIsExact node
  order_is_exact machines S are y x cy cx =
      let all : List T = filled node machines S (made []) (bare S) are in
      let complete : Completion node machines S all = completes node machines S (made []) (bare S) are in (
        (
          λ before G some. before_in_completion node S machines G some y x before,
          λ always. old_order node machines S (made []) (bare S) are no_names y x cy cx (always all complete),
        ),
        (
          λ (whole, not_before) G some path.
              not_before (before_among_survivors node S machines G some y x cx whole path),
          λ never. (
            never_is_known machines S are y x cy cx never,
            λ before. never all complete (before_in_completion node S machines all complete y x before),
          ),
        ),
      )

-- ---- without cycles

-- without cycles, what was lost in x's past isn't in that of what it comes after
may_precede : {T : Type 0} (node : T → Node) (machines : ℕ) (S G : List T)
    (completion : Completion node machines S G) (y x : T) → Contains S y → Contains S x → IsAcyclic node G →
    Precedes node G y x →
    Precedes node S y x ⊎ ((gap : List ℕ) × IsInPast node S gap x × (¬ IsInPast node S gap y))
may_precede node machines S G completion y x cy cx none (in_y, _, between, path) =
    elim (back node S machines G completion x cx y between in_y path) [
      | inl before ↦ inl before
      | inr (h, ch, lost, near) ↦ inr (
        (node h).digest,
        lost,
        λ (gap, (e, up, names)).
            let on = no_later_in_completion node S machines G completion e y up in
            let after = precedes_on node G h e y (ch, is_there node G e y in_y on, [], names) on in
            elim near [
              | inl is ↦ (gap_cases node S (node h).digest gap).1 (y, cy, ap (λ v. (node v).digest) is)
              | inr before ↦ none y (precedes_over node G y h y before after)
            ],
      )
    ]

-- ---- a completion in which one lost entry names y

module _ {T : Type 0} (node : T → Node) (make : List (List ℕ) → List ℕ → T) (makes : MakesAny node make)
    (machines : ℕ) (S : List T) (are : AreSurvivors node machines S) (none : IsAcyclic node S) (y : T)
    (cy : Contains S y) (tie : List ℕ) (free : ¬ IsInPast node S tie y) where
  -- what the entry that stands for the gap d names
  abbrev names_of : List ℕ → List (List ℕ)
  names_of d = cond (bytes_eq d tie) ((node y).digest ∷ []) []

  -- what stands for the gap d
  abbrev hub : List ℕ → T
  hub d = make (names_of d) d

  -- it names y alone, and that only if it stands for the tie
  hub_names : (d c : List ℕ) → Contains (node (hub d)).names c → (d ≡ tie) × ((node y).digest ≡ c)
  hub_names d c named =
      let there : Contains (names_of d) c = rw makes.names at named in
      elim (cases_Bool (bytes_eq d tie)) [
        | inl is ↦ ((bytes_eq-Decides d tie).0 is, Contains-one (node y).digest c (rw is at there))
        | inr differ ↦ absurd (Contains-none c (rw differ at there))
      ]

  fills : Fills node S hub
  fills = record {
    bears = λ d. makes.digest (names_of d) d;
    maker = λ d. makes.maker (names_of d) d;
    names = λ d c named. (y, cy, (hub_names d c named).1);
  }

  -- the completion
  abbrev tied : List T
  tied = filled node machines S hub fills are

  whole : Completion node machines S tied
  whole = completes node machines S hub fills are

  -- no survivor has the digest of a gap
  not_borne : (f h : T) → Contains S f → Contains (gaps node S) (node h).digest → f ≡ h → ⊥
  not_borne f h cf gap is = (gap_cases node S (node h).digest gap).1 (f, cf, ap (λ v. (node v).digest) is)

  -- only what stands for the tie has an entry before it: y, and what precedes y
  before_hub : (f h : T) → Contains (gaps node S) (node h).digest → Precedes node tied f h →
      ((node h).digest ≡ tie) × Precedes node tied y h × IsNoLater node tied f y
  before_hub f h gap (cf, ch, between, path) =
      let (z, cz, names, near) = last_arrow node tied f between h cf path in
      elim (filled_cases node machines S hub fills are h ch) [
        | inl old ↦ absurd (not_borne h h old gap refl)
        | inr (d, _, is) ↦
            let (same, digest) = hub_names d (node z).digest
            (subst (λ v. Contains (node v).names (node z).digest) (sym is) names) in
            let here : z ≡ y = sym (whole.distinct y z (whole.keeps y cy) cz digest) in (
              rw (← is) (fills.bears d) ∙ same,
              subst (λ v. Precedes node tied v h) here (cz, ch, [], names),
              subst (IsNoLater node tied f) here near,
            )
      ]

  -- what precedes a survivor does so among survivors, or the tie is in the survivor's past
  before_tie : (x f : T) → Contains S x → Contains S f → Precedes node tied f x →
      Precedes node S f x ⊎ (IsInPast node S tie x × IsNoLater node tied f y)
  before_tie x f cx cf (in_f, _, between, path) =
      elim (back node S machines tied whole x cx f between in_f path) [
        | inl among ↦ inl among
        | inr (h, _, lost, inl is) ↦ absurd (not_borne f h cf lost.0 is)
        | inr (h, _, lost, inr before) ↦ let (same, _, on) = before_hub f h lost.0 before in inr (rw same at lost, on)
      ]

  -- and then it is y, or precedes y among survivors
  before_survivor : (x f : T) → Contains S x → Contains S f → Precedes node tied f x →
      Precedes node S f x ⊎ (IsInPast node S tie x × IsNoLater node S f y)
  before_survivor x f cx cf before =
      elim (before_tie x f cx cf before) [
        | inl among ↦ inl among
        | inr (lost, inl is) ↦ inr (lost, inl is)
        | inr (lost, inr early) ↦
            elim (before_tie y f cy cf early)
            [ inl among ↦ inr (lost, inr among) | inr (other, _) ↦ absurd (free other) ]
      ]

  -- no survivor precedes itself
  no_survivor : (e : T) → Contains S e → ¬ Precedes node tied e e
  no_survivor e ce path =
      elim (before_survivor e e ce ce path) [
        | inl among ↦ none e among
        | inr ((gap, (f, near, names)), on) ↦ free (gap, (f, no_later_on node S f e y near on, names))
      ]

  -- so no entry precedes itself
  no_cycle : IsAcyclic node tied
  no_cycle e cycle =
      elim (filled_cases node machines S hub fills are e cycle.0) [
        | inl old ↦ no_survivor e old cycle
        | inr (d, gap, is) ↦
            let mine : Contains (gaps node S) (node e).digest = rw (← is, fills.bears d) gap in
            let (_, up, near) = before_hub e e mine cycle in
            elim near [
              | inl same ↦ not_borne y e cy mine (sym same)
              | inr early ↦ no_survivor y cy (precedes_over node tied y e y up early)
            ]
      ]

  -- y precedes what has the tie in its past
  y_precedes : (x : T) → Contains S x → IsInPast node S tie x → Precedes node tied y x
  y_precedes x cx past =
      precedes_through node machines S hub fills are tie y x cy cx
      (rw (makes.names (names_of tie) tie, (bytes_eq-Decides tie tie).1 refl) (Contains-head _ [])) past

  -- a completion without cycles, in which y precedes these and no other survivors that it didn't
  tying : (G : List T) × Completion node machines S G × IsAcyclic node G
      × ((x : T) → Contains S x → IsInPast node S tie x → Precedes node G y x)
      × ((x : T) → Contains S x → Precedes node G y x → Precedes node S y x ⊎ IsInPast node S tie x)
  tying = (
    tied,
    whole,
    no_cycle,
    y_precedes,
    λ x cx before.
        elim (before_survivor x y cx cy before) [ inl among ↦ inl among | inr (lost, _) ↦ inr lost ],
  )

-- what is said of the order without cycles is exact
pub order_is_exact_without_cycles : {T : Type 0} (node : T → Node) (make : List (List ℕ) → List ℕ → T) →
    MakesAny node make → OrderIsExactWithoutCycles node
order_is_exact_without_cycles node make makes machines S are none y x cy cx =
    let tie = tying node make makes machines S are none y cy in
    let own : ¬ IsInPast node S (node y).digest y = λ past. (gap_cases node S _ past.0).1 (y, cy, refl) in
    let (G, complete, acyclic, _, only) = tie (node y).digest own in (
      (
        λ (F, completes, free, before). may_precede node machines S F completes y x cy cx free before,
        λ either. elim either [
          | inl among ↦ (G, complete, acyclic, before_in_completion node S machines G complete y x among)
          | inr (gap, past, free) ↦ let (F, whole, free, ties, _) = tie gap free in (F, whole, free, ties x cx past)
        ],
      ),
      (
        λ each. elim (only x cx (each G complete acyclic))
            [ inl among ↦ among | inr lost ↦ absurd ((gap_cases node S _ lost.0).1 (y, cy, refl)) ],
        λ among F completes free. before_in_completion node S machines F completes y x among,
      ),
    )
