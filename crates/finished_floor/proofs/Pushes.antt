-- What was sent, and what was got, after more events.
use Rattle.finished_floor.proofs.Imports.{sent-append, Contains-at, Contains-cons_cases, Contains-later, Contains-none}
use Rattle.finished_floor.proofs.Imports.{sent, Event, Got, Sent, got, List, [], ap, inl, inr, refl, append-nil}
use Rattle.finished_floor.proofs.Imports.{Contains, ◌++◌, ◌∷◌, ◌≡◌}

module _ {T : Type 0} where
  -- what was got in two parts of a history
  pub got-append : (h k : List (Event T)) → got (h ++ k) ≡ got h ++ got k
  got-append [] k = refl
  got-append (Sent e ∷ h) k = got-append h k
  got-append (Got e ∷ h) k = ap (λ l. e ∷ l) (got-append h k)

  -- what is got comes after what was got before
  pub got-push : (h : List (Event T)) (x : T) → got (h ++ Got x ∷ []) ≡ got h ++ x ∷ []
  got-push h x = got-append h (Got x ∷ [])

  -- what was sent isn't got
  pub got-sent : (h : List (Event T)) (x : T) → got (h ++ Sent x ∷ []) ≡ got h
  got-sent h x = rw (got-append, append-nil)

  -- what is sent comes after what was sent before
  pub sent-push : (h : List (Event T)) (x : T) → sent (h ++ Sent x ∷ []) ≡ sent h ++ x ∷ []
  sent-push h x = sent-append h (Sent x ∷ [])

  -- what was got isn't sent
  pub sent-got : (h : List (Event T)) (x : T) → sent (h ++ Got x ∷ []) ≡ sent h
  sent-got h x = rw (sent-append, append-nil)

  -- what was got is among what was got
  pub Contains-got : (h : List (Event T)) (e : T) → Contains h (Got e) → Contains (got h) e
  Contains-got [] e c = absurd (Contains-none (Got e) c)
  Contains-got (Sent f ∷ h) e c =
      elim (Contains-cons_cases (Sent f) h (Got e) c) [ inl s ↦ cc | inr k ↦ Contains-got h e k ]
  Contains-got (Got f ∷ h) e c =
      elim (Contains-cons_cases (Got f) h (Got e) c) [
        | inl s ↦ Contains-at f (got h) e (let same : Got f ≡ Got e = s in cc)
        | inr k ↦ Contains-later f (got h) e (Contains-got h e k)
      ]
