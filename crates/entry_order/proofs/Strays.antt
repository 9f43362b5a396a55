-- Survivors are no strays, and so stamps rise along their names.
use Rattle.entry_order.proofs.Imports.Words
use Words.{Contains, IsPath, IsStray, List, Names, Node, SurvivorsAreNoStrays, SurvivorsHaveNoCycle, [], and_from}
use Words.{and_parts, arith, cases_lt, false, false_from_ne_true, inl, inr, is_stray, le-leb, leb-true, names_digest}
use Words.{not-true, not_from_false, survivors, sym, true, true≢false, ◌<◌, ◌∙◌, ◌∷◌, ◌≡◌}
use Rattle.entry_order.proofs.Lists.{Contains-filter, Contains-filter_cases, list_any_of, list_any_some}
use Rattle.entry_order.proofs.Naming.{names_digest_from, names_digest_of}

module _ {T : Type 0} (node : T → Node) where
  -- a stray is found
  pub is_stray_of : (given : List T) (e : T) → IsStray node given e → is_stray node given e ≡ true
  is_stray_of given e (g, there, names, high) = list_any_of _ given g there
      (and_from _ _ (names_digest_of node e (node g).digest names) (le-leb (node e).stamp (node g).stamp high))

  -- what is found is a stray
  pub is_stray_from : (given : List T) (e : T) → is_stray node given e ≡ true → IsStray node given e
  is_stray_from given e t =
      let (g, there, test) = list_any_some _ given t in
      let (names, high) = and_parts (names_digest node e (node g).digest) _ test in
      (g, there, names_digest_from node e (node g).digest names, leb-true (node e).stamp (node g).stamp high)

  -- what is no stray is not found to be one
  pub no_stray_from : (given : List T) (e : T) → (¬ (IsStray node given e)) → is_stray node given e ≡ false
  no_stray_from given e sound = false_from_ne_true (is_stray node given e) (λ t. sound (is_stray_from given e t))

  -- a filter keeps what its test lets through
  pub survivors_are_no_strays : SurvivorsAreNoStrays node
  survivors_are_no_strays given e = (
    λ c. let (there, kept) = Contains-filter_cases _ given e c in
        (there, λ stray. true≢false (sym (is_stray_of given e stray) ∙ not-true _ kept)),
    λ (c, sound). Contains-filter _ given e c (not_from_false _ (no_stray_from given e sound)),
  )

  -- what is no stray has a higher stamp than each given entry that it names
  pub stamp_rises : (given : List T) (e f : T) → (¬ (IsStray node given e)) → Contains given f → Names node e f →
      (node f).stamp < (node e).stamp
  stamp_rises given e f sound c n =
      elim (cases_lt (node f).stamp (node e).stamp) [ inl l ↦ l | inr l ↦ absurd (sound (f, c, n, l)) ]

  -- stamps rise along a path of survivors
  pub rises_along : (given : List T) (f : T) (between : List T) (e : T) → Contains (survivors node given) f →
      Contains (survivors node given) e → IsPath node (survivors node given) f between e →
      (node f).stamp < (node e).stamp
  rises_along given f [] e cf ce n =
      stamp_rises given e f ((survivors_are_no_strays given e).0 ce).1 ((survivors_are_no_strays given f).0 cf).0 n
  rises_along given f (g ∷ gs) e cf ce (there, names, path) =
      let first = stamp_rises given g f ((survivors_are_no_strays given g).0 there).1
      ((survivors_are_no_strays given f).0 cf).0 names in
      omega (arith, first, rises_along given g gs e there ce path)

  -- no path among survivors leads from an entry back to itself
  pub survivors_have_no_cycle : SurvivorsHaveNoCycle node
  survivors_have_no_cycle given e (there, here, gs, path) =
      absurd (omega (arith, rises_along given e gs e there here path))
