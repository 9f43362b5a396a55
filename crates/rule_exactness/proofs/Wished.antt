-- A completion of survivors in which wished entries stand behind every gap.
use Rattle.entry_order.proofs.Filled.{completes, filled as hubs_filled, filled_cases, Fills, in_filled}
use Rattle.rule_exactness.proofs.Imports
use Imports.{[], ap, AreDigests, AreSurvivors, arith, before, Bool, bytes_eq, cases_Bool, Completion, Contains}
use Imports.{Contains-append_cases, Contains-append_left, Contains-append_right, Contains-head, Contains-later}
use Imports.{Contains-map, Contains-map_cases, Contains-none, false, false≢true, gap_cases, gap_or_bearer, gaps, inl}
use Imports.{inr, is_among, is_there, is_whole, IsAcyclic, IsBorneIn, IsGraphOf, IsInPast, IsNoLater, IsPath, length}
use Imports.{length-append, length-map, List, list_all, list_any, list_any_of, list_any_some, MakesAny, map, member_at}
use Imports.{Names, no_later_in_completion, no_later_on, Node, not-false, Precedes, precedes_on, precedes_over, refl}
use Imports.{slice_get, Some, subst, suc, sym, true, true≢false, zero, ℕ, ◌++◌, ◌+◌, ◌<◌, ◌∙◌, ◌∷◌, ◌≡◌, ◌≤◌, ◌⊎◌}
use Rattle.rule_exactness.proofs.Fresh.{chain_acyclic, chain_back, chain_distinct, chain_named, chain_new, chain_path}
use Rattle.rule_exactness.proofs.Fresh.{granted, granted_are, granted_chain, HasRoom, head_borne, head_name, IsChain}
use Rattle.rule_exactness.proofs.Fresh.{IsFairly, Wish}

-- where not all pass, one doesn't
list_all_not : {X : Type 0} (p : X → Bool) (xs : List X) → list_all p xs ≡ false →
    (x : X) × Contains xs x × (p x ≡ false)
list_all_not {X} p [] e = absurd (true≢false e)
list_all_not {X} p (z ∷ xs) e = elim (cases_Bool (p z)) [
  | inl passes ↦
      let (x, there, fails) = list_all_not p xs (rw passes at e) in (x, Contains-later z xs x there, fails)
  | inr fails ↦ (z, Contains-head z xs, fails)
]

module _ {T : Type 0} (node : T → Node) (S : List T) (parents : ℕ → List ℕ) (ragged : ℕ → Bool)
    (graph : IsGraphOf node S parents ragged) where
  -- some gap is in its past
  abbrev pub IsGapped : T → Type 0
  IsGapped e = (d : List ℕ) × IsInPast node S d e

  -- a ragged place names a gap
  ragged_names : (x : ℕ) (e : T) → slice_get S x ≡ Some e → ragged x ≡ true → IsGapped e
  ragged_names x e at is =
      let is_gap = λ (d : List ℕ). list_any (λ c. bytes_eq c d) (gaps node S) in
      elim (cases_Bool (list_any is_gap (node e).names)) [
        | inl some ↦
            let (d, named, gap) = list_any_some is_gap (node e).names some in
            (d, ((is_among (gaps node S) d).0 gap, (e, inl refl, named)))
        | inr none ↦ absurd (true≢false (sym is ∙ (graph.gaps_shown x e at).1 (λ d named gap.
            false≢true (sym none ∙ list_any_of is_gap (node e).names d named ((is_among (gaps node S) d).1 gap)))))
      ]

  -- a place that isn't found whole
  pub gapped : (n x : ℕ) (e : T) → slice_get S x ≡ Some e → is_whole parents ragged n x ≡ false → IsGapped e
  gapped zero x e at is = ragged_names x e at (not-false (ragged x) is)
  gapped (suc n) x e at is = elim (cases_Bool (ragged x)) [
    | inl r ↦ ragged_names x e at r
    | inr r ↦
        let (z, arrow, fails) = list_all_not (λ z. is_whole parents ragged n z) (parents x) (rw r at is) in
        let (f, at_z) = graph.inside x z arrow in
        let (d, (gap, (g, near, named))) = gapped n z f at_z fails in
        let names = (graph.arrows x z e f at at_z).0 arrow in
        let on = no_later_on node S g f e near (inr (member_at S z f at_z, member_at S x e at, [], names)) in
        (d, (gap, (g, on, named)))
  ]

-- what completes survivors: hubs that stand for the gaps, and what is wished; hubs name these survivors,
-- and there are digests for the wishes
pub record Filling {T : Type 0} (node : T → Node) (machines : ℕ) (S : List T) : Type 0 where
  pub are : AreSurvivors node machines S
  pub hub : List (List ℕ) → List ℕ → T
  pub makes : MakesAny node hub
  pub wished : List (Wish node machines)
  pub ties : List T
  pub kept : (t : T) → Contains ties t → Contains S t
  pub room : HasRoom node S machines wished

-- a hub stands for each gap; it names these survivors and the last of a chain of entries, one for
-- each wish, of which each names the one before
module _ {T : Type 0} {node : T → Node} {machines : ℕ} {S : List T} (by : Filling node machines S) where
  -- an entry's digest
  abbrev digest_of : T → List ℕ
  digest_of e = (node e).digest

  -- the entries that were wished
  abbrev pub extras : List T
  extras = granted node S machines by.wished

  -- they are a chain
  chain : IsChain node S extras
  chain = granted_chain node S machines by.wished by.room

  -- what a hub names
  abbrev pub hub_names : List (List ℕ)
  hub_names = head_name node extras ++ map digest_of by.ties

  -- the hub with this digest
  abbrev pub hub_at : List ℕ → T
  hub_at d = by.hub hub_names d

  -- what was wished, and the survivors
  abbrev base : List T
  base = extras ++ S

  -- they are survivors, too
  pub base_are : AreSurvivors node machines base
  base_are = record {
    in_roster = λ e c. elim (Contains-append_cases extras S e c) [
      | inl new ↦
          granted_are node S machines (λ x. (node x).maker < machines) by.wished (λ w _ ns d _ _ _. w.maker ns d) e new
      | inr old ↦ by.are.in_roster e old
    ];
    distinct = chain_distinct node S by.are.distinct chain;
  }

  -- what a hub names: something wished, or one of the survivors
  hub_named : (c : List ℕ) → Contains hub_names c → IsBorneIn node extras c ⊎ IsBorneIn node by.ties c
  hub_named c there = elim (Contains-append_cases (head_name node extras) (map digest_of by.ties) c there) [
    | inl l ↦ inl (head_borne node extras c l)
    | inr r ↦ inr (Contains-map_cases digest_of by.ties c r)
  ]

  -- a hub stands for a gap
  abbrev IsHub : T → Type 0
  IsHub e = (d : List ℕ) × Contains (gaps node base) d × (hub_at d ≡ e)

  -- what is added is wished or a hub
  abbrev pub IsAdded : T → Type 0
  IsAdded e = Contains extras e ⊎ IsHub e

  -- what hubs and wished entries name
  named_by : (e : T) → IsAdded e → (c : List ℕ) → Contains (node e).names c →
      IsBorneIn node extras c ⊎ IsBorneIn node by.ties c
  named_by e (inl there) c named = inl (chain_named node S chain e there c named)
  named_by e (inr (d, _, is)) c named = hub_named c (rw (← is, by.makes.names hub_names d) at named)

  -- which is in the base
  hub_borne : (c : List ℕ) → Contains hub_names c → IsBorneIn node base c
  hub_borne c there = elim (hub_named c there) [
    | inl (e, new, is) ↦ (e, Contains-append_left extras S e new, is)
    | inr (t, tie, is) ↦ (t, Contains-append_right extras S t (by.kept t tie), is)
  ]

  -- so hubs fill the gaps
  pub fills : Fills node base hub_at
  fills = record {
    bears = by.makes.digest hub_names;
    maker = by.makes.maker hub_names;
    names = λ d c named. hub_borne c (rw (by.makes.names hub_names d) at named);
  }

  -- the completion
  abbrev pub all : List T
  all = hubs_filled node machines base hub_at fills base_are

  -- it completes them
  whole : Completion node machines base all
  whole = completes node machines base hub_at fills base_are

  -- it completes the survivors
  pub completed : Completion node machines S all
  completed = record {
    in_roster = whole.in_roster;
    keeps = λ e there. whole.keeps e (Contains-append_right extras S e there);
    distinct = whole.distinct;
    lacks_nothing = whole.lacks_nothing;
  }

  -- each of its entries is a survivor or was added
  pub all_cases : (e : T) → Contains all e → Contains S e ⊎ IsAdded e
  all_cases e c = elim (filled_cases node machines base hub_at fills base_are e c) [
    | inl kept ↦ elim (Contains-append_cases extras S e kept) [ inl new ↦ inr (inl new) | inr old ↦ inl old ]
    | inr hub ↦ inr (inr hub)
  ]

  -- a hub is no survivor, and wasn't wished
  hub_apart : (e : T) → IsHub e → Contains base e → ⊥
  hub_apart e (d, gap, is) c = (gap_cases node base d gap).1 (e, c, ap digest_of (sym is) ∙ by.makes.digest hub_names d)

  -- no survivor was added
  pub not_added : (e : T) → Contains S e → ¬ IsAdded e
  not_added e old (inl new) = chain_new node S chain e new (inl (e, old, refl))
  not_added e old (inr hub) = hub_apart e hub (Contains-append_right extras S e old)

  -- what was wished is there
  extra_there : (e : T) → Contains extras e → Contains all e
  extra_there e c = whole.keeps e (Contains-append_left extras S e c)

  -- a hub stands for each gap of the survivors
  gap_stays : (d : List ℕ) → Contains (gaps node S) d → Contains (gaps node base) d
  gap_stays d gap =
      let ((e, there, names), lost) = gap_cases node S d gap in
      elim (gap_or_bearer node base e d (Contains-append_right extras S e there) names) [
        | inl stays ↦ stays
        | inr (f, cf, is) ↦ absurd (elim (Contains-append_cases extras S f cf) [
          | inl new ↦ chain_new node S chain f new (inr (subst (Contains (gaps node S)) (sym is) gap))
          | inr old ↦ lost (f, old, is)
        ])
      ]

  -- what holds of hubs and of what is wished holds of all that is added
  pub added_are : (P : T → Type 0) → ((d : List ℕ) → Contains (gaps node base) d → P (hub_at d)) →
      ((w : Wish node machines) → Contains by.wished w → IsFairly P w.make) → (e : T) → IsAdded e → P e
  added_are P at_hub at_wish e (inl c) = granted_are node S machines P by.wished at_wish e c
  added_are P at_hub at_wish e (inr (d, gap, is)) = subst P is (at_hub d gap)

  -- names and digests of the base have 32 octets, if survivors' have
  base_right : ((e : T) → Contains S e → AreDigests (node e).names × (length (node e).digest ≡ 32)) → (e : T) →
      Contains base e → AreDigests (node e).names × (length (node e).digest ≡ 32)
  base_right right e c = elim (Contains-append_cases extras S e c) [
    | inl new ↦
        granted_are node S machines (λ x. AreDigests (node x).names × (length (node x).digest ≡ 32)) by.wished
        (λ w _ ns d _ named long. (rw (w.names ns d) named, rw (w.bears ns d) long)) e new
    | inr old ↦ right e old
  ]

  -- each entry is a survivor or may be, where hubs name at most one entry
  pub all_may_be : (MayBe : T → Type 0) → IsFairly MayBe by.hub → ((w : Wish node machines) → Contains by.wished w →
      IsFairly MayBe w.make) → length by.ties + length (head_name node extras) ≤ 1 → ((e : T) → Contains S e →
      AreDigests (node e).names × (length (node e).digest ≡ 32)) → (e : T) → Contains all e → Contains S e ⊎ MayBe e
  all_may_be MayBe at_hub at_wishes few right e c = elim (all_cases e c) [
    | inl old ↦ inl old
    | inr new ↦
        let both = length-append (head_name node extras) (map digest_of by.ties) in
        let ties = length-map by.ties digest_of in
        inr (added_are MayBe (λ d gap. at_hub hub_names d (omega arith)
        (λ b named. let (f, there, is) = hub_borne b named in rw (← is) (base_right right f there).1)
        (let ((f, there, named), _) = gap_cases node base d gap in (base_right right f there).0 d named))
        at_wishes e new)
  ]

  -- what was wished, or hubs name it
  abbrev pub IsGot : T → Type 0
  IsGot e = Contains extras e ⊎ Contains by.ties e

  -- that precedes each hub
  before_hub : (d : List ℕ) → Contains all (hub_at d) → (e : T) → IsGot e → Precedes node all e (hub_at d)
  before_hub d there e got = elim got [
    | inl c ↦
        chain_path node S all whole.distinct chain extra_there (hub_at d) there
        (λ b named. rw (by.makes.names hub_names d) (Contains-append_left _ _ b named)) e c
    | inr c ↦
        let named = Contains-append_right (head_name node extras) _ _ (Contains-map digest_of by.ties e c) in
        (completed.keeps e (by.kept e c), there, [], rw (by.makes.names hub_names d) named)
  ]

  -- and each survivor with a gap in its past
  pub got_before : (x : T) → Contains S x → (d : List ℕ) → IsInPast node S d x → (e : T) → IsGot e →
      Precedes node all e x
  got_before x cx d (gap, (z, near, names)) e got =
      let there = in_filled node machines base hub_at fills base_are d (gap_stays d gap) in
      precedes_on node all e z x (precedes_over node all e (hub_at d) z (before_hub d there e got)
      (there, completed.keeps z (is_there node S z x cx near), [], rw (by.makes.digest hub_names d) names))
      (no_later_in_completion node S machines all completed z x near)

  -- one of the named survivors, or an ancestor of it
  abbrev pub IsTied : T → Type 0
  IsTied f = (t : T) × Contains by.ties t × Contains S f × IsNoLater node S f t

  -- a survivor that is named by what is added is one that hubs name
  named_by_added : (f g : T) → Contains S f → IsAdded g → Names node g f → IsTied f
  named_by_added f g cf added names = elim (named_by g added (node f).digest names) [
    | inl (e, there, same) ↦ absurd (chain_new node S chain e there (inl (f, cf, sym same)))
    | inr (t, there, same) ↦ (t, there, cf, inl (by.are.distinct f t cf (by.kept t there) (sym same)))
  ]

  -- where what precedes x comes from
  abbrev IsSource : T → T → Type 0
  IsSource x f = Precedes node S f x ⊎ (IsAdded f ⊎ IsTied f)

  -- what is named by x, or by such an entry, is such an entry
  source_on : (x g f : T) → Contains S x → (g ≡ x) ⊎ IsSource x g → Contains all f → Names node g f → IsSource x f
  source_on x g f cx from cf names = elim (all_cases f cf) [
    | inr new ↦ inr (inl new)
    | inl old ↦ elim from [
      | inl is ↦ inl (old, cx, [], subst (λ (y : T). Names node y f) is names)
      | inr (inl before) ↦ inl (precedes_over node S f g x (old, before.0, [], names) before)
      | inr (inr (inl added)) ↦ inr (inr (named_by_added f g old added names))
      | inr (inr (inr (t, there, cg, near))) ↦
          inr (inr (t, there, old, inr (precedes_on node S f g t (old, cg, [], names) near)))
    ]
  ]

  -- so it is of each that precedes x
  sources_on : (x : T) → Contains S x → (f : T) (between : List T) → Contains all f → IsPath node all f between x →
      IsSource x f
  sources_on x cx f [] cf names = source_on x x f cx (inl refl) cf names
  sources_on x cx f (g ∷ between) cf (cg, names, path) =
      source_on x g f cx (inr (sources_on x cx g between cg path)) cf names

  -- what precedes a survivor in the completion did so among the survivors, or was added, or is tied
  pub sources : (x f : T) → Contains S x → Precedes node all f x → IsSource x f
  sources x f cx (cf, _, between, path) = sources_on x cx f between cf path

  -- where no survivor precedes itself and hubs name none, no entry does
  pub acyclic : by.ties ≡ [] → IsAcyclic node S → IsAcyclic node all
  acyclic none before e path =
      let no_tie = λ (t : T) (there : Contains by.ties t). Contains-none t (subst (λ ts. Contains ts t) none there) in
      let (ce, _, between, through) = path in
      elim (all_cases e ce) [
        | inl old ↦ elim (sources e e old path) [
          | inl among ↦ before e among
          | inr (inl new) ↦ not_added e old new
          | inr (inr tied) ↦ no_tie tied.0 tied.1
        ]
        | inr (inl c) ↦ chain_acyclic node S all whole.distinct chain extra_there e between c through
        | inr (inr hub) ↦
            hub_apart e hub (Contains-append_left extras S e (chain_back node S all whole.distinct chain extra_there e
            (λ d named. elim (named_by e (inr hub) d named)
            [ inl borne ↦ borne | inr (t, there, _) ↦ absurd (no_tie t there) ]) e between ce through))
      ]
