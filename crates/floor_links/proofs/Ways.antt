-- What became of an entry on its way to a machine.
use Rattle.floor_links.proofs.Imports.{◌≡◌, ℕ, ◌<◌, Bool, true, false, List, [], ◌∷◌, ◌++◌, refl, sym, ap, ◌∙◌, subst}
use Rattle.floor_links.proofs.Imports.{arith, ◌⊎◌, inl, inr, Option, Some, None, get_or, AllPairs, Contains, cases_lt}
use Rattle.floor_links.proofs.Imports.{true≢false, append-nil, at_from_Contains, SealedEntry, list_any_of, OutView}
use Rattle.floor_links.proofs.Imports.{Loss, LossWhy, Scripted, LinkFull, ToStopped, LogFull, SameDigest, is_lost}
use Rattle.floor_links.proofs.Imports.{is_of, itself, loss_of, IsWay, IsTold, IsSentOn}

-- of losses by ascending receivers, two with one receiver are one
pub once_there : (xs : List Loss) → AllPairs (λ (a b : Loss). a.to < b.to) xs → (x y : Loss) → Contains xs x →
    Contains xs y → x.to ≡ y.to → x ≡ y
once_there xs rises x y c d s =
    let (i, i_inside, x_at) = at_from_Contains xs x c in
    let (j, j_inside, y_at) = at_from_Contains xs y d in
    let here : get_or xs i x ≡ x = x_at x in
    let there : get_or xs j x ≡ y = y_at x in
    let n = ap (λ (z : Loss). z.to) here in
    let m = ap (λ (z : Loss). z.to) there in
    elim (cases_lt i j) [
      | inl lt ↦ (let r = rises i j x lt j_inside in absurd (omega arith))
      | inr le ↦ elim (cases_lt j i) [
        | inl lt ↦ (let r = rises j i x lt i_inside in absurd (omega arith))
        | inr above ↦ (let e : i ≡ j = omega arith in sym here ∙ ap (λ k. get_or xs k x) e ∙ there)
      ]
    ]

-- a loss that is reported is one of the entry
told_lost : (lost : List Loss) (e : SealedEntry) (to : ℕ) (why : LossWhy) → Contains lost (loss_of e to why) →
    is_lost lost e.entry.maker e.entry.number to ≡ true
told_lost lost e to why c =
    list_any_of (is_of e.entry.maker e.entry.number to) lost (loss_of e to why) c
    (itself (loss_of e to why) e.entry.maker e.entry.number to refl refl refl)

module _ (scripted : Bool) (capacity to : ℕ) (e : SealedEntry) (old new : OutView SealedEntry) where
  -- the entry was put and isn't lost, or it is lost and nothing was put
  abbrev PutOrLost : List Loss → Type 0
  PutOrLost lost =
      ((new.put ≡ old.put ++ e ∷ []) × (is_lost lost e.entry.maker e.entry.number to ≡ false))
      ⊎ ((new.put ≡ old.put) × (is_lost lost e.entry.maker e.entry.number to ≡ true))

  -- the same by the cause for which it was lost, if there is one
  by_cause : (lost : List Loss) (cause : Option LossWhy) → IsWay scripted capacity e old new cause →
      IsTold lost e to cause → PutOrLost lost
  by_cause lost None (_, item) told = inl (item.put, told)
  by_cause lost (Some Scripted) (_, stays) told =
      inr (ap (λ (x : OutView SealedEntry). x.put) stays, told_lost lost e to Scripted told)
  by_cause lost (Some LinkFull) (_, full) told = inr (full.put, told_lost lost e to LinkFull told)
  by_cause lost (Some ToStopped) way told = absurd way
  by_cause lost (Some LogFull) way told = absurd way
  by_cause lost (Some SameDigest) way told = absurd way

  -- the entry was put, or it is lost and nothing was put
  pub put_or_lost : (lost : List Loss) → IsSentOn scripted capacity to e old new lost → PutOrLost lost
  put_or_lost lost on = by_cause lost on.cause on.way on.told

  -- the same by the cause for which the entry was lost, if there is one
  grows_by : (cause : Option LossWhy) → IsWay scripted capacity e old new cause →
      (more : List SealedEntry) × (new.put ≡ old.put ++ more)
  grows_by None (_, item) = (e ∷ [], item.put)
  grows_by (Some Scripted) (_, stays) = ([], ap (λ (x : OutView SealedEntry). x.put) stays ∙ sym (append-nil old.put))
  grows_by (Some LinkFull) (_, full) = ([], full.put ∙ sym (append-nil old.put))
  grows_by (Some ToStopped) way = absurd way
  grows_by (Some LogFull) way = absurd way
  grows_by (Some SameDigest) way = absurd way

  -- what was put before is still there
  pub put_grows : (lost : List Loss) → IsSentOn scripted capacity to e old new lost →
      (more : List SealedEntry) × (new.put ≡ old.put ++ more)
  put_grows lost on = grows_by on.cause on.way

  -- the same by the cause that is reported for this way
  found_by : (lost : List Loss) → AllPairs (λ (a b : Loss). a.to < b.to) lost → (loss : Loss) → Contains lost loss →
      loss.from ≡ e.entry.maker → loss.number ≡ e.entry.number → loss.to ≡ to →
      (cause : Option LossWhy) → IsWay scripted capacity e old new cause → IsTold lost e to cause →
      IsWay scripted capacity e old new (Some loss.why)
  found_by lost rises loss c from number there None way told =
      let is : is_lost lost e.entry.maker e.entry.number to ≡ true =
      list_any_of (is_of e.entry.maker e.entry.number to) lost loss c
      (itself loss e.entry.maker e.entry.number to from number there) in
      cc
  found_by lost rises loss c from number there (Some why) way told =
      let same : loss_of e to why ≡ loss = once_there lost rises (loss_of e to why) loss told c (sym there) in
      let w : why ≡ loss.why = ap (λ (x : Loss). x.why) same in
      subst (λ (y : LossWhy). IsWay scripted capacity e old new (Some y)) w way

  -- each loss has its own cause
  pub way_of_loss : (lost : List Loss) → AllPairs (λ (a b : Loss). a.to < b.to) lost → (loss : Loss) →
      Contains lost loss → loss.from ≡ e.entry.maker → loss.number ≡ e.entry.number → loss.to ≡ to →
      IsSentOn scripted capacity to e old new lost → IsWay scripted capacity e old new (Some loss.why)
  way_of_loss lost rises loss c from number there on =
      found_by lost rises loss c from number there on.cause on.way on.told

  -- the same by the cause that is reported for this way
  named_by : (lost : List Loss) (cause : Option LossWhy) → IsWay scripted capacity e old new cause →
      IsTold lost e to cause → scripted ≡ true → Contains lost (loss_of e to Scripted)
  named_by lost None way told is = absurd (true≢false (sym is ∙ way.0))
  named_by lost (Some Scripted) way told is = told
  named_by lost (Some LinkFull) way told is = absurd (true≢false (sym is ∙ way.0))
  named_by lost (Some ToStopped) way told is = absurd way
  named_by lost (Some LogFull) way told is = absurd way
  named_by lost (Some SameDigest) way told is = absurd way

  -- an entry that a line names is lost so
  pub named_is_lost : (lost : List Loss) → IsSentOn scripted capacity to e old new lost → scripted ≡ true →
      Contains lost (loss_of e to Scripted)
  named_is_lost lost on is = named_by lost on.cause on.way on.told is
