-- Histories with one event more: what is sent and held then, and whether they stay legal.
use Rattle.entry_order.proofs.Imports.Words
use Words.{Contains, Event, Got, IsLegal, IsNew, List, MayFollow, Node, Sent, Some, [], ap, append-nil, append_assoc}
use Words.{arith, entry_of, fold-append, greatest_stamp, held, inl, inr, length, length-append, length_push}
use Words.{map-append, max, refl, sent, slice_get, subst, suc, zero, ℕ, ◌++◌, ◌+◌, ◌∙◌, ◌∷◌, ◌≡◌, ◌≤◌, ◌⊎◌}
use Rattle.entry_order.proofs.Lists.{Contains-at, Contains-later}

-- ---- one more at the end

-- where one more is put at the end, a place in the list is an earlier one or the last
pub last_or_earlier : {X : Type 0} (xs : List X) (x : X) (before : List X) (y : X) (later : List X) →
    xs ++ x ∷ [] ≡ before ++ y ∷ later → ((rest : List X) × (xs ≡ before ++ y ∷ rest)) ⊎ ((xs ≡ before) × (x ≡ y))
last_or_earlier [] x [] y later e = inr (refl, cc)
last_or_earlier [] x (b ∷ before) y later e = absurd (omega (arith, ap length e, length-append before (y ∷ later)))
last_or_earlier (a ∷ xs) x [] y later e = inl (xs, cc)
last_or_earlier {X} (a ∷ xs) x (b ∷ before) y later e =
    let head : a ≡ b = cc in
    let tail : xs ++ x ∷ [] ≡ before ++ y ∷ later = cc in
    elim (last_or_earlier xs x before y later tail)
    [ inl (rest, is) ↦ inl (rest, cc (is, head)) | inr (is, same) ↦ inr (cc (is, head), same) ]

-- of two members of a list one is before the other, or they are one
pub split_two : {X : Type 0} (p q : List X) (x y : X) (l m : List X) → p ++ x ∷ l ≡ q ++ y ∷ m →
    (x ≡ y) ⊎ (Contains q x ⊎ Contains p y)
split_two [] [] x y l m e = inl cc
split_two [] (b ∷ q) x y l m e = let same : b ≡ x = cc in inr (inl (Contains-at b q x same))
split_two (a ∷ p) [] x y l m e = let same : a ≡ y = cc in inr (inr (Contains-at a p y same))
split_two (a ∷ p) (b ∷ q) x y l m e =
    let tail : p ++ x ∷ l ≡ q ++ y ∷ m = cc in
    elim (split_two p q x y l m tail) [
      | inl s ↦ inl s
      | inr (inl c) ↦ inr (inl (Contains-later b q x c))
      | inr (inr c) ↦ inr (inr (Contains-later a p y c))
    ]

-- ---- what was sent

module _ {T : Type 0} where
  -- what was sent in two parts of a history
  pub sent-append : (p q : List (Event T)) → sent (p ++ q) ≡ sent p ++ sent q
  sent-append [] q = refl
  sent-append (Sent e ∷ p) q = ap (λ (es : List T). e ∷ es) (sent-append p q)
  sent-append (Got e ∷ p) q = sent-append p q

  -- a step that sends adds one entry to those sent
  pub sent_one_more : (p : List (Event T)) (e : T) → length (sent (p ++ Sent e ∷ [])) ≡ length (sent p) + 1
  sent_one_more p e = ap length (sent-append p (Sent e ∷ [])) ∙ length_push (sent p) e

  -- a receipt is none
  pub sent_as_many : (p : List (Event T)) (e : T) → length (sent (p ++ Got e ∷ [])) ≡ length (sent p)
  sent_as_many p e = ap length (sent-append p (Got e ∷ []) ∙ append-nil (sent p))

  -- no more entries were sent than there are events
  pub sent_few : (h : List (Event T)) → length (sent h) ≤ length h
  sent_few [] = omega arith
  sent_few (Sent e ∷ h) = omega (arith, sent_few h)
  sent_few (Got e ∷ h) = omega (arith, sent_few h)

  -- an entry among those sent is in the history after as many others
  pub nth_split : (h : List (Event T)) (i : ℕ) (x : T) → slice_get (sent h) i ≡ Some x →
      (p : List (Event T)) × (l : List (Event T)) × (h ≡ p ++ Sent x ∷ l) × (length (sent p) ≡ i)
  nth_split [] i x e = cc
  nth_split (Sent g ∷ h) zero x e = let same : g ≡ x = cc in ([], h, ap (λ u. Sent u ∷ h) same, refl)
  nth_split (Sent g ∷ h) (suc i) x e =
      let (p, l, split, count) = nth_split h i x e in (Sent g ∷ p, l, ap (λ u. Sent g ∷ u) split, ap suc count)
  nth_split (Got g ∷ h) i x e =
      let (p, l, split, count) = nth_split h i x e in (Got g ∷ p, l, ap (λ u. Got g ∷ u) split, count)

-- ---- legal histories

module _ {T : Type 0} (node : T → Node) where
  -- an event that may follow makes a legal history longer
  pub IsLegal-push : (owner : ℕ) (h : List (Event T)) (x : Event T) → IsLegal node owner h → MayFollow node owner h x →
      IsLegal node owner (h ++ x ∷ [])
  IsLegal-push owner h x legal may before y later e =
      elim (last_or_earlier h x before y later e) [
        | inl (rest, is) ↦ legal before y rest is
        | inr (is, same) ↦ subst (MayFollow node owner before) same (rw is at may)
      ]

  -- the empty history is legal
  pub IsLegal-none : (owner : ℕ) → IsLegal node owner []
  IsLegal-none owner before x later e = absurd (omega (arith, ap length e, length-append before (x ∷ later)))

  -- what may follow is new
  pub new_from_may : (owner : ℕ) (p : List (Event T)) (x : Event T) → MayFollow node owner p x →
      IsNew node (held p) (entry_of x)
  new_from_may owner p (Sent e) may = may.0
  new_from_may owner p (Got e) may = may.0

  -- the greatest stamp with one event more
  pub greatest_push : (p : List (Event T)) (x : Event T) →
      greatest_stamp node (held (p ++ x ∷ [])) ≡ max (greatest_stamp node (held p)) (node (entry_of x)).stamp
  greatest_push p x = rw (map-append entry_of p (x ∷ []), fold-append)

  -- where at most as many entries were sent as the greatest stamp says, so it is after all events on
  few_sent_from : (owner : ℕ) (p q : List (Event T)) → IsLegal node owner (p ++ q) →
      length (sent p) ≤ greatest_stamp node (held p) →
      length (sent (p ++ q)) ≤ greatest_stamp node (held (p ++ q))
  few_sent_from owner p [] legal few = rw (append-nil p) few
  few_sent_from owner p (Sent e ∷ q) legal few =
      rw append_assoc at (few_sent_from owner (p ++ Sent e ∷ []) q (rw append_assoc legal)
      (omega (arith, (legal p (Sent e) q refl).1.stamp, sent_one_more p e, greatest_push p (Sent e), few)))
  few_sent_from owner p (Got e ∷ q) legal few =
      rw append_assoc at (few_sent_from owner (p ++ Got e ∷ []) q (rw append_assoc legal)
      (omega (arith, sent_as_many p e, greatest_push p (Got e), few)))

  -- in a legal history at most as many entries were sent as the greatest stamp says
  pub few_sent : (owner : ℕ) (h : List (Event T)) → IsLegal node owner h →
      length (sent h) ≤ greatest_stamp node (held h)
  few_sent owner h legal = few_sent_from owner [] h legal (omega arith)
