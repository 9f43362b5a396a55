-- The places of what was sent.
use Rattle.std.proofs.Common.{Option, Some, None}
use Rattle.entangled_log.proofs.Imports.{◌≡◌, ℕ, zero, suc, ◌≤◌, List, [], ◌∷◌, ◌++◌, map, length, refl, sym, ap, ◌∙◌}
use Rattle.entangled_log.proofs.Imports.{arith, slice_get, length-map, map_push, Event, Sent, Got, sent, sent-append}
use Rattle.entangled_log.proofs.Imports.{sent_few, last_at, push_before, AreOwn, own_after}

-- where two lists look the same, what is at a place of the one has its like in the other
paired : {A B X : Type 0} (f : A → X) (g : B → X) (xs : List A) (ys : List B) → map f xs ≡ map g ys → (n : ℕ) (x : A) →
    slice_get xs n ≡ Some x → (y : B) × (slice_get ys n ≡ Some y) × (f x ≡ g y)
paired f g [] ys same n x is = cc
paired f g (a ∷ xs) [] same n x is = cc
paired f g (a ∷ xs) (b ∷ ys) same zero x is =
    let here : a ≡ x = cc in let like : f a ≡ g b = cc in (b, refl, ap f (sym here) ∙ like)
paired f g (a ∷ xs) (b ∷ ys) same (suc n) x is = let rest : map f xs ≡ map g ys = cc in paired f g xs ys rest n x is

-- and where there is none in the one, there is none in the other
unpaired : {A B X : Type 0} (f : A → X) (g : B → X) (xs : List A) (ys : List B) → map f xs ≡ map g ys → (n : ℕ) →
    slice_get xs n ≡ None → slice_get ys n ≡ None
unpaired f g [] [] same n none = refl
unpaired f g [] (b ∷ ys) same n none = cc
unpaired f g (a ∷ xs) [] same n none = cc
unpaired f g (a ∷ xs) (b ∷ ys) same zero none = cc
unpaired f g (a ∷ xs) (b ∷ ys) same (suc n) none =
    let rest : map f xs ≡ map g ys = cc in unpaired f g xs ys rest n none

module _ {T : Type 0} where
  -- the places of a list of entries are theirs with one event more
  own_grows : (events : List (Event T)) (x : Event T) (own : List ℕ) (es : List T) →
      map (λ p. slice_get events p) own ≡ map (λ e. Some (Sent e)) es →
      map (λ p. slice_get (events ++ x ∷ []) p) own ≡ map (λ e. Some (Sent e)) es
  own_grows events x [] es same = same
  own_grows events x (p ∷ own) [] same = cc
  own_grows events x (p ∷ own) (e ∷ es) same =
      let here : slice_get events p ≡ Some (Sent e) = cc in
      let rest : map (λ p. slice_get events p) own ≡ map (λ e. Some (Sent e)) es = cc in
      let first = push_before events x p (Sent e) here in
      let others = own_grows events x own es rest in
      λ i. first i ∷ others i

  -- the places of what was sent with one event more
  pub AreOwn-push : (events : List (Event T)) (x : Event T) (own : List ℕ) → AreOwn events own →
      AreOwn (events ++ x ∷ []) (own_after x (length events) own)
  AreOwn-push events (Sent e) own are =
      map_push (λ p. slice_get (events ++ Sent e ∷ []) p) own (length events)
      ∙ ap (λ (xs : List (Option (Event T))). xs ++ slice_get (events ++ Sent e ∷ []) (length events) ∷ [])
      (own_grows events (Sent e) own (sent events) are)
      ∙ ap (λ (o : Option (Event T)). map (λ e. Some (Sent e)) (sent events) ++ o ∷ []) (last_at events (Sent e))
      ∙ sym (map_push (λ (e : T). Some (Sent e)) (sent events) e)
      ∙ sym (ap (map (λ (e : T). Some (Sent e))) (sent-append events (Sent e ∷ [])))
  AreOwn-push events (Got e) own are =
      own_grows events (Got e) own (sent events) are
      ∙ sym (ap (map (λ (e : T). Some (Sent e))) (sent-append events (Got e ∷ []) ∙ nothing_more (sent events)))
    where
      nothing_more : (es : List T) → es ++ [] ≡ es
      nothing_more [] = refl
      nothing_more (e ∷ es) = ap (λ fs. e ∷ fs) (nothing_more es)

  module _ (events : List (Event T)) (own : List ℕ) (are : AreOwn events own) where
    -- there are as many as were sent
    pub own_count : length own ≡ length (sent events)
    own_count =
        sym (length-map own (λ p. slice_get events p)) ∙ ap length are
        ∙ length-map (sent events) (λ e. Some (Sent e))

    -- the places of what was sent are no more than there are events
    pub own_few : length own ≤ length events
    own_few = omega (arith, own_count, sent_few events)

    -- the entry with a number is at the place with that number
    pub own_at : (n p : ℕ) → slice_get own n ≡ Some p →
        (e : T) × (slice_get (sent events) n ≡ Some e) × (slice_get events p ≡ Some (Sent e))
    own_at n p is = paired (λ p. slice_get events p) (λ e. Some (Sent e)) own (sent events) are n p is

    -- where there is no place, no entry has the number
    pub own_none : (n : ℕ) → slice_get own n ≡ None → slice_get (sent events) n ≡ None
    own_none n none = unpaired (λ p. slice_get events p) (λ e. Some (Sent e)) own (sent events) are n none
