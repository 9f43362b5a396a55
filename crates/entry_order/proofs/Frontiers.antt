-- What is in a frontier, and what it becomes when one entry more is held.
use Rattle.entry_order.proofs.Imports.Words
use Words.{Bool, Contains, Contains-append_left, Contains-push_cases, FrontierIsUnique, IsAscending, IsBorneIn}
use Words.{IsNamedIn, List, Node, [], ap, cases_Bool, cond, false, false_from_ne_true, filter, frontier, inl, inr}
use Words.{insert_digest, is_named, map, map-append, names_digest, not, not-true, not_from_false, or_parts, refl, sym}
use Words.{true, true≢false, ℕ, ◌++◌, ◌||◌, ◌↔◌, ◌∙◌, ◌∷◌, ◌≡◌, ◌⊎◌}
use Rattle.entry_order.proofs.Ascending.{Contains-insert_digest, Contains-insert_digest_cases, ascending_ascending}
use Rattle.entry_order.proofs.Ascending.{filter_ascending, in_left, insert_digest_ascending, only_ascending}
use Rattle.entry_order.proofs.Lists.{Contains-filter, Contains-filter_cases, Contains-map, Contains-map_cases}
use Rattle.entry_order.proofs.{Ascending.same_ascending, Naming.is_named_from, Naming.is_named_of}
use Rattle.std.{proofs.Math.Bool.or-false, proofs.lemmas.Bool.or_from, proofs.lemmas.List.Elements.Contains-push}
use Rattle.std.proofs.lemmas.List.Folds.{list_any-append}

module _ {T : Type 0} (node : T → Node) where
  -- their digests
  abbrev digests : List T → List (List ℕ)
  digests es = map (λ e. (node e).digest) es

  -- those that none of them names
  abbrev unnamed : List T → List (List ℕ)
  unnamed es = filter (λ d. not (is_named node es d)) (digests es)

  -- an entry has each digest of the frontier, and none names it
  pub frontier_cases : (es : List T) (d : List ℕ) → Contains (frontier node es) d →
      Contains (map (λ e. (node e).digest) es) d × (is_named node es d ≡ false)
  frontier_cases es d = (in_left (is_named node es) (digests es) d).0

  -- a digest that an entry has and none names is in the frontier
  frontier_from : (es : List T) (d : List ℕ) → Contains (digests es) d → is_named node es d ≡ false →
      Contains (frontier node es) d
  frontier_from es d c free = (in_left (is_named node es) (digests es) d).1 (c, free)

  -- a digest in the frontier is that of one of the entries
  pub frontier_entry : (es : List T) (d : List ℕ) → Contains (frontier node es) d → IsBorneIn node es d
  frontier_entry es d h = Contains-map_cases (λ e. (node e).digest) es d (frontier_cases es d h).0

  -- an entry has its digest in the frontier, or one of them names it
  pub frontier_or_named : (es : List T) (e : T) → Contains es e →
      Contains (frontier node es) (node e).digest ⊎ IsNamedIn node es (node e).digest
  frontier_or_named es e c =
      elim (cases_Bool (is_named node es (node e).digest)) [
        | inl named ↦ inr (is_named_from node es (node e).digest named)
        | inr free ↦ inl (frontier_from es (node e).digest (Contains-map (λ e. (node e).digest) es e c) free)
      ]

  -- the frontier is the digests that an entry has and none names
  frontier_members : (es : List T) (d : List ℕ) →
      Contains (frontier node es) d ↔ (IsBorneIn node es d × (¬ (IsNamedIn node es d)))
  frontier_members es d = (
    λ c. (frontier_entry es d c, λ n. true≢false (sym (is_named_of node es d n) ∙ (frontier_cases es d c).1)),
    λ ((g, there, same), free). frontier_from es d (rw same at (Contains-map (λ e. (node e).digest) es g there))
        (false_from_ne_true _ (λ t. free (is_named_from node es d t))),
  )

  -- exactly the frontier is ascending and has these members
  pub frontier_is_unique : FrontierIsUnique node
  frontier_is_unique es ds = (
    λ is. rw is (record { rises = ascending_ascending (unnamed es); members = frontier_members es }),
    λ is. only_ascending (unnamed es) _ (frontier_members es) ds is.rises is.members,
  )

  -- a digest is named by one entry more where it was, or where that entry names it
  named_push : (es : List T) (e : T) (d : List ℕ) →
      is_named node (es ++ e ∷ []) d ≡ (is_named node es d || names_digest node e d)
  named_push es e d = rw (list_any-append (λ g. names_digest node g d) es (e ∷ []), or-false)

  -- what stays of a frontier when e is held too
  abbrev staying : List T → T → List (List ℕ)
  staying es e = filter (λ d. not (names_digest node e d)) (frontier node es)

  -- what stays is in ascending order
  staying_rises : (es : List T) (e : T) → IsAscending (staying es e)
  staying_rises es e = filter_ascending _ (frontier node es) (ascending_ascending (unnamed es))

  -- it is the digests of the entries that none of them and e names
  staying_members : (es : List T) (e : T) (d : List ℕ) →
      Contains (staying es e) d ↔ (Contains (digests es) d × (is_named node (es ++ e ∷ []) d ≡ false))
  staying_members es e d = (
    λ c. let (was, unnamed) = Contains-filter_cases _ (frontier node es) d c in
        let (there, free) = frontier_cases es d was in
        (there, named_push es e d ∙ or_from _ _ free (not-true _ unnamed)),
    λ (there, free). let (was, now) = or_parts _ _ (sym (named_push es e d) ∙ free) in
        Contains-filter _ (frontier node es) d (frontier_from es d there was) (not_from_false _ now),
  )

  -- what is in the frontier now stayed, or is e's
  now_cases : (es : List T) (e : T) (d : List ℕ) → Contains (frontier node (es ++ e ∷ [])) d →
      Contains (staying es e) d ⊎ (((node e).digest ≡ d) × (is_named node (es ++ e ∷ []) d ≡ false))
  now_cases es e d c =
      let (there, free) = frontier_cases (es ++ e ∷ []) d c in
      elim (Contains-push_cases (digests es) (node e).digest d (rw map-append at there))
      [ inl old ↦ inl ((staying_members es e d).1 (old, free)) | inr is ↦ inr (is, free) ]

  -- what stays is in the frontier now
  staying_now : (es : List T) (e : T) (d : List ℕ) → Contains (staying es e) d →
      Contains (frontier node (es ++ e ∷ [])) d
  staying_now es e d c =
      let (there, free) = (staying_members es e d).0 c in
      frontier_from (es ++ e ∷ []) d (rw map-append (Contains-append_left _ ((node e).digest ∷ []) d there)) free

  -- the frontier when e is held too: what e names goes, and e's digest comes in its place unless it
  -- is named
  pub frontier_push : (es : List T) (e : T) → let left = filter (λ d. not (names_digest node e d)) (frontier node es) in
      frontier node (es ++ e ∷ []) ≡ cond (is_named node (es ++ e ∷ []) (node e).digest) left
      (insert_digest (node e).digest left)
  frontier_push es e = by (is_named node (es ++ e ∷ []) (node e).digest) refl
    where
      by : (b : Bool) → is_named node (es ++ e ∷ []) (node e).digest ≡ b →
          frontier node (es ++ e ∷ []) ≡ cond b (staying es e) (insert_digest (node e).digest (staying es e))
      by true named =
          same_ascending _ (staying es e) (ascending_ascending (unnamed (es ++ e ∷ []))) (staying_rises es e)
          (λ d c. elim (now_cases es e d c)
          [ inl l ↦ l | inr (is, free) ↦ cc (ap (is_named node (es ++ e ∷ [])) is) ]) (staying_now es e)
      by false free =
          same_ascending _ (insert_digest (node e).digest (staying es e))
          (ascending_ascending (unnamed (es ++ e ∷ [])))
          (insert_digest_ascending (node e).digest (staying es e) (staying_rises es e))
          (λ d c. Contains-insert_digest (node e).digest (staying es e) d
          (elim (now_cases es e d c) [ inl l ↦ inr l | inr (is, _) ↦ inl is ]))
          (λ d c. elim (Contains-insert_digest_cases (node e).digest (staying es e) d c) [
            | inl is ↦ rw is at (frontier_from (es ++ e ∷ []) (node e).digest
                (Contains-map (λ e. (node e).digest) (es ++ e ∷ []) e (Contains-push es e)) free)
            | inr l ↦ staying_now es e d l
          ])
