-- What is the same in every completion.
use Rattle.entry_order.proofs.Imports
use Imports.{Completion, Contains, Contains-flat_map, Contains-flat_map_cases, IsBorneIn, IsGaps, IsInPast, IsNamedIn}
use Imports.{IsNoLater, IsPath, IsWhole, List, Names, Node, PathsAreSettled, Precedes, [], ascending_ascending}
use Imports.{cases_Bool, false_from_ne_true, filter, flat_map, gaps, has_digest, has_digest_from, has_digest_of}
use Imports.{in_left, inl, inr, not, only_ascending, precedes_on, refl, sym, true≢false, ℕ, ◌↔◌, ◌∙◌, ◌∷◌, ◌≡◌, ◌⊎◌}

module _ {T : Type 0} (node : T → Node) (S : List T) where
  -- the digests that an entry names
  abbrev named : List (List ℕ)
  named = flat_map (λ y. (node y).names) S

  -- the gaps are the digests that an entry names and none has
  gap_members : (d : List ℕ) → Contains (gaps node S) d ↔ (IsNamedIn node S d × (¬ (IsBorneIn node S d)))
  gap_members d = (
    λ c. let (there, free) = (in_left (has_digest node S) named d).0 c in
        (Contains-flat_map_cases _ S d there, λ borne. true≢false (sym (has_digest_of node S d borne) ∙ free)),
    λ ((e, in_e, names), lost). (in_left (has_digest node S) named d).1 (
      Contains-flat_map _ S e d in_e names,
      false_from_ne_true _ (λ t. lost (has_digest_from node S d t)),
    ),
  )

  -- an entry names a gap and none has it
  pub gap_cases : (d : List ℕ) → Contains (gaps node S) d → IsNamedIn node S d × (¬ (IsBorneIn node S d))
  gap_cases d c = (gap_members d).0 c

  -- exactly the gaps are ascending and have these members
  pub gaps_are_unique : (ds : List (List ℕ)) → (ds ≡ gaps node S) ↔ IsGaps node S ds
  gaps_are_unique ds =
      let lost = filter (λ d. not (has_digest node S d)) named in (
        λ is. rw is (record { rises = ascending_ascending lost; members = gap_members }),
        λ is. only_ascending lost _ gap_members ds is.rises is.members,
      )

  -- a named digest is a gap, or an entry has it
  pub gap_or_bearer : (x : T) (d : List ℕ) → Contains S x → Contains (node x).names d →
      Contains (gaps node S) d ⊎ IsBorneIn node S d
  gap_or_bearer x d c n =
      elim (cases_Bool (has_digest node S d)) [
        | inl has ↦ inr (has_digest_from node S d has)
        | inr free ↦ inl ((in_left (has_digest node S) named d).1 (Contains-flat_map _ S x d c n, free))
      ]

  module _ (machines : ℕ) (G : List T) (completion : Completion node machines S G) where
    -- a path among survivors is one in the completion
    kept_path : (f : T) (between : List T) (e : T) → IsPath node S f between e → IsPath node G f between e
    kept_path f [] e p = p
    kept_path f (g ∷ gs) e (there, names, rest) = (completion.keeps g there, names, kept_path g gs e rest)

    -- a path among the survivors is a path in the completion
    pub before_in_completion : (y x : T) → Precedes node S y x → Precedes node G y x
    before_in_completion y x (in_y, in_x, gs, path) =
        (completion.keeps y in_y, completion.keeps x in_x, gs, kept_path y gs x path)

    -- what is or precedes an entry among the survivors is or precedes it in the completion
    pub no_later_in_completion : (y x : T) → IsNoLater node S y x → IsNoLater node G y x
    no_later_in_completion y x near = elim near [ inl is ↦ inl is | inr early ↦ inr (before_in_completion y x early) ]

    -- an entry of the completion whose digest a survivor has is that survivor
    pub survives : (f : T) → Contains G f → IsBorneIn node S (node f).digest → Contains S f
    survives f cf (g, there, same) = rw (completion.distinct g f (completion.keeps g there) cf same) at there

    -- f precedes x among the survivors, or it is or precedes an entry that was lost in x's past
    abbrev pub IsReached : T → T → Type 0
    IsReached x f =
        Precedes node S f x
        ⊎ ((h : T) × Contains G h × IsInPast node S (node h).digest x × IsNoLater node G f h)

    -- what a survivor names that is x or precedes x is reached
    arrow_back : (x g f : T) → Contains S g → Contains S x → IsNoLater node S g x → Contains G f → Names node g f →
        IsReached x f
    arrow_back x g f cg cx near cf names =
        elim (gap_or_bearer g (node f).digest cg names) [
          | inl gap ↦ inr (f, cf, (gap, (g, near, names)), inl refl)
          | inr borne ↦ inl (precedes_on node S f g x (survives f cf borne, cg, [], names) near)
        ]

    -- so is what precedes x in the completion
    pub back : (x : T) → Contains S x → (f : T) (between : List T) → Contains G f → IsPath node G f between x →
        IsReached x f
    back x cx f [] cf names = arrow_back x x f cx cx (inl refl) cf names
    back x cx f (g ∷ gs) cf (cg, names, path) =
        elim (back x cx g gs cg path) [
          | inl before ↦ arrow_back x g f before.0 cx (inr before) cf names
          | inr (h, ch, lost, near) ↦ inr (h, ch, lost, inr (precedes_on node G f g h (cf, cg, [], names) near))
        ]

    -- where x is whole, its ancestors in the completion are its ancestors among the survivors
    pub before_among_survivors : (y x : T) → Contains S x → IsWhole node S x → Precedes node G y x → Precedes node S y x
    before_among_survivors y x cx whole (cy, _, between, path) =
        elim (back x cx y between cy path) [
          | inl before ↦ before
          | inr (h, _, (gap, (e, near, names)), _) ↦ absurd (elim near [
            | inl is ↦ whole.itself (node h).digest (rw is at names) gap
            | inr early ↦ whole.ancestors e early (node h).digest names gap
          ])
        ]

-- both, for all survivors and completions
pub paths_are_settled : {T : Type 0} (node : T → Node) → PathsAreSettled node
paths_are_settled node machines S G completion y x =
    (before_in_completion node S machines G completion y x, before_among_survivors node S machines G completion y x)
