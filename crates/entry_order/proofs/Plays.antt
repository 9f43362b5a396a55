-- Each world that steps lead to has legal histories, and each entry that was got had been sent.
use Rattle.entry_order.proofs.Imports
use Imports.{Act, Contains, Contains-append_left, Contains-none, Contains-push_cases, Event, Got, Hear, IsLegal}
use Imports.{IsLegal-none, IsLegal-push, IsLegalNext, IsNew, IsOrderly, List, Machine, MayFollow, Node, None, Option}
use Imports.{OrderIsReceipt, Sent, Some, Step, Stop, World, [], append, cannot_hear, cond, cond_both, eqb-false, false}
use Imports.{false≢true, happens, has_digest, has_digest_of, hear, held, history, inl, inr, member_at, member_split}
use Imports.{or_parts, play, refl, send, sent, sent_in, slice_get, start, stop, subst, suc, sym, true, with_machine}
use Imports.{zero, ℕ, ◌++◌, ◌==◌, ◌||◌, ◌∙◌, ◌∷◌, ◌≡◌, ◌≢◌, ◌⊎◌}
use Rattle.entry_order.proofs.Orders.{Contains-sent_cases, one_order, sent_in_cases, sent_in_from}

module _ {T : Type 0} (node : T → Node) where
  -- the test of a digest says that the entry is new
  pub IsNew-from_test : (es : List T) (e : T) → has_digest node es (node e).digest ≡ false → IsNew node es e
  IsNew-from_test es e free g c s = false≢true (sym free ∙ has_digest_of node es (node e).digest (g, c, s))

-- ---- one machine changed

-- what holds of each history that stays and of the one that is changed holds of every history
changed : {T : Type 0} (R : ℕ → List (Event T) → List (Event T) → Type 0) →
    ((n : ℕ) (h : List (Event T)) → R n h h) → (m : ℕ) (change : Machine T → Machine T) →
    ((a : Machine T) → R m a.history (change a).history) → (w : World T) (n : ℕ) →
    R n (history w n) (history (with_machine m change w) n)
changed R same m change does [] n = same n []
changed R same zero change does (a ∷ w) zero = does a
changed R same zero change does (a ∷ w) (suc n) = same (suc n) (history w n)
changed R same (suc m) change does (a ∷ w) zero = same zero a.history
changed R same (suc m) change does (a ∷ w) (suc n) =
    changed (λ k. R (suc k)) (λ k. same (suc k)) m change does w n

-- ---- one step

module _ {T : Type 0} (node : T → Node) (next : ℕ → List (Event T) → Option T) (log : ℕ) (w : World T) where
  -- why x comes after the history h of machine n: it is what n sends next, or another sent it
  abbrev pub Cause : ℕ → List (Event T) → Event T → Type 0
  Cause n h (Sent e) = next n h ≡ Some e
  Cause n h (Got e) =
      (has_digest node (held h) (node e).digest ≡ false)
      × ((from : ℕ) × (n ≢ from) × Contains (sent (history w from)) e)

  -- a history stays, or has one event more that has a cause
  abbrev pub Grows : ℕ → List (Event T) → List (Event T) → Type 0
  Grows n h new = (new ≡ h) ⊎ ((x : Event T) × (new ≡ h ++ x ∷ []) × Cause n h x)

  -- a machine that sends has its next entry more
  Grows-send : (m : ℕ) (a : Machine T) (o : Option T) → next m a.history ≡ o → Grows m a.history (send o a).history
  Grows-send m a None is = inl refl
  Grows-send m a (Some e) is =
      elim a.stopped as (λ b. Grows m a.history (cond b a (append (Sent e) a)).history)
      [ true ↦ inl refl | false ↦ inr (Sent e, refl, is) ]

  -- a machine that hears another's entry has it more
  Grows-hear : (m from : ℕ) (a : Machine T) (o : Option T) → m ≢ from →
      ((e : T) → o ≡ Some e → Contains (sent (history w from)) e) → Grows m a.history (hear node log o a).history
  Grows-hear m from a None apart there = inl refl
  Grows-hear m from a (Some e) apart there =
      cond_both (cannot_hear node log a (node e).digest) a (append (Got e) a) (λ u. Grows m a.history u.history)
      (λ _. inl refl) (λ s.
      let (able, _) = or_parts (a.stopped || has_digest node (held a.history) (node e).digest) _ s in
      inr (Got e, refl, ((or_parts a.stopped _ able).1, (from, apart, there e refl))))

  -- a step does one of these
  pub Grows-step : (s : Step) (n : ℕ) → Grows n (history w n) (history (happens node next log w s) n)
  Grows-step (Act m) n =
      changed Grows (λ _ _. inl refl) m _ (λ a. Grows-send m a (next m a.history) refl) w n
  Grows-step (Hear at from number) n =
      let change = hear node log (slice_get (sent (history w from)) number) in
      cond_both (at == from) w (with_machine at change w) (λ v. Grows n (history w n) (history v n)) (λ _. inl refl)
      (λ s. changed Grows (λ _ _. inl refl) at change
      (λ a. Grows-hear at from a _ (eqb-false at from s) (member_at _ number)) w n)
  Grows-step (Stop m) n = changed Grows (λ _ _. inl refl) m stop (λ _. inl refl) w n

  module _ (lawful : IsLegalNext node next) (orderly : IsOrderly node w) where
    -- what has a cause may follow
    may_follow : (n : ℕ) (x : Event T) → Cause n (history w n) x → MayFollow node n (history w n) x
    may_follow n (Sent e) is = lawful n (history w n) e is
    may_follow n (Got e) (free, (from, apart, there)) =
        let (past, later, is) = member_split (history w from) (Sent e) (Contains-sent_cases _ e there) in
        (IsNew-from_test node _ e free, λ me. apart (sym me ∙ (orderly.legal from past (Sent e) later is).1.maker))

    -- what was sent in the world still is
    sent_in-step : (s : Step) (e : T) → Contains (sent_in w) e → Contains (sent_in (happens node next log w s)) e
    sent_in-step s e c =
        let (m, there) = sent_in_cases w e c in
        sent_in_from (happens node next log w s) m e (elim (Grows-step s m) [
          | inl same ↦ rw same there
          | inr (added, more, _) ↦ rw more (Contains-append_left (history w m) (added ∷ []) (Sent e) there)
        ])

    -- a step keeps the world orderly
    IsOrderly-step : (s : Step) → IsOrderly node (happens node next log w s)
    IsOrderly-step s = record { legal = legal; heard = λ m e c. sent_in-step s e (got_before m e (Grows-step s m) c) }
      where
        legal : (m : ℕ) → IsLegal node m (history (happens node next log w s) m)
        legal m =
            elim (Grows-step s m) [
              | inl same ↦ rw same (orderly.legal m)
              | inr (x, more, cause) ↦ rw more (IsLegal-push node m _ x (orderly.legal m) (may_follow m x cause))
            ]

        got_before : (m : ℕ) (e : T) → Grows m (history w m) (history (happens node next log w s) m) →
            Contains (history (happens node next log w s) m) (Got e) → Contains (sent_in w) e
        got_before m e (inl same) c = orderly.heard m e (rw same at c)
        got_before m e (inr (x, more, cause)) c =
            elim (Contains-push_cases (history w m) x (Got e) (rw more at c)) [
              | inl old ↦ orderly.heard m e old
              | inr is ↦ let (_, (from, _, there)) = subst (Cause m (history w m)) is cause in
                  sent_in_from w from e (Contains-sent_cases _ e there)
            ]

-- ---- the whole run

-- at the start every history is empty
pub start_is_empty : {T : Type 0} (machines m : ℕ) → history (start {T = T} machines) m ≡ []
start_is_empty zero m = refl
start_is_empty (suc machines) zero = refl
start_is_empty (suc machines) (suc m) = start_is_empty machines m

module _ {T : Type 0} (node : T → Node) where
  -- at the start a world is orderly
  pub IsOrderly-start : (machines : ℕ) → IsOrderly node (start machines)
  IsOrderly-start machines = record {
    legal = λ m. rw (start_is_empty machines m) (IsLegal-none node m);
    heard = λ m e c. absurd (Contains-none (Got e) (rw (start_is_empty machines m) at c));
  }

  -- steps keep it orderly
  pub IsOrderly-play : (next : ℕ → List (Event T) → Option T) (log : ℕ) → IsLegalNext node next →
      (w : World T) (steps : List Step) → IsOrderly node w → IsOrderly node (play node next log w steps)
  IsOrderly-play next log lawful w [] o = o
  IsOrderly-play next log lawful w (s ∷ steps) o =
      IsOrderly-play next log lawful (happens node next log w s) steps (IsOrderly-step node next log w lawful o s)

  -- the law, after every list of steps
  pub order_is_receipt : OrderIsReceipt node
  order_is_receipt next log machines steps lawful distinct f e cf ce =
      one_order node _ (IsOrderly-play next log lawful _ steps (IsOrderly-start machines)) distinct f e cf ce
