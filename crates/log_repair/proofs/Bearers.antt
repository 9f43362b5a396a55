-- Entries that a machine is answered: a machine of the world that runs holds them, and their maker
-- sent them.
use Rattle.log_repair.proofs.Imports.{Bool, ◌≡◌, ◌≢◌, ◌∙◌, ℕ, zero, suc, true, false, cond, List, [], ◌∷◌, ◌++◌, inl}
use Rattle.log_repair.proofs.Imports.{inr, Option, Some, None, refl, sym, ap, slice_get, Contains, option_or, bytes_eq}
use Rattle.log_repair.proofs.Imports.{bytes_eq-Decides, Event, Sent, Got, IsBorneIn, Node, entry_of, held, sent}
use Rattle.log_repair.proofs.Imports.{IsOrderly, Machine, World, history, sent_in, Contains-later, Contains-cons_cases}
use Rattle.log_repair.proofs.Imports.{Contains-none, Contains-map_cases, nth_of_sent, sent_in_from, was_sent, answer_of}
use Rattle.log_repair.proofs.Imports.{bearer, found_by_digest, NoneAnswers, Contains-head, Contains-map, DigestsDiffer}
use Rattle.log_repair.proofs.Imports.{IsLegal, append_assoc, member_split, new_from_may, Contains-append_right}
use Rattle.log_repair.proofs.Imports.{true≢false}

module _ {T : Type 0} (node : T → Node) where
  -- the entries of a legal history have different digests
  pub differ_after : (owner : ℕ) (before h : List (Event T)) → IsLegal node owner (before ++ h) →
      DigestsDiffer node (held h)
  differ_after owner before [] legal = tt
  differ_after owner before (x ∷ h) legal = (
    λ e c same.
        let (y, there, is) = Contains-map_cases entry_of h e c in
        let (between, later, split) = member_split h y there in
        new_from_may node owner (before ++ x ∷ between) y
        (legal (before ++ x ∷ between) y later (cc (split, append_assoc before (x ∷ between) (y ∷ later)))) (entry_of x)
        (Contains-map entry_of (before ++ x ∷ between) x
        (Contains-append_right before (x ∷ between) x (Contains-head x between))) (rw (is, same)),
    differ_after owner (before ++ x ∷ []) h (rw (append_assoc before (x ∷ []) h) legal),
  )

  one_with : (es : List T) (e f : T) → DigestsDiffer node es → Contains es e → Contains es f →
      (node e).digest ≡ (node f).digest → e ≡ f
  one_with [] e f differ c d same = absurd (Contains-none e c)
  one_with (x ∷ es) e f (first, differ) c d same =
      elim (Contains-cons_cases x es e c) [
        | inl is ↦ elim (Contains-cons_cases x es f d) [
          | inl also ↦ cc
          | inr later ↦ absurd (first f later (rw is (sym same)))
        ]
        | inr later ↦ elim (Contains-cons_cases x es f d) [
          | inl also ↦ absurd (first e later (rw also same))
          | inr too ↦ one_with es e f differ later too same
        ]
      ]

  module _ (d : List ℕ) where
    -- one of the entries has the digest, or where Runs is so none has
    abbrev pub Bears : Type 0 → List T → Option T → Type 0
    Bears Runs es None = Runs → (IsBorneIn node es d) → ⊥
    Bears Runs es (Some e) = Contains es e × ((node e).digest ≡ d)

    found_bears : (Runs : Type 0) (es : List T) → Bears Runs es (found_by_digest node d es)
    found_bears Runs [] = λ runs (e, c, is). Contains-none e c
    found_bears Runs (x ∷ es) =
        by (bytes_eq (node x).digest d) refl (found_by_digest node d es) (found_bears Runs es)
      where
        by : (b : Bool) → bytes_eq (node x).digest d ≡ b → (o : Option T) → Bears Runs es o →
            Bears Runs (x ∷ es) (cond b (Some x) o)
        by true is o bears = (Contains-head x es, (bytes_eq-Decides (node x).digest d).0 is)
        by false is None none = λ runs (e, c, same).
            elim (Contains-cons_cases x es e c) [
              | inl here ↦ true≢false (sym ((bytes_eq-Decides (node x).digest d).1 (rw here same)) ∙ is)
              | inr later ↦ none runs (e, later, same)
            ]
        by false is (Some e) (c, same) = (Contains-later x es e c, same)

    -- of a legal history it is that entry
    pub one_bears : (owner : ℕ) (h : List (Event T)) → IsLegal node owner h → (o : Option T) →
        Bears (Unit {0}) (held h) o → o ≡ found_by_digest node d (held h)
    one_bears owner h legal o bears = by o (found_by_digest node d (held h)) bears (found_bears (Unit {0}) (held h))
      where
        by : (o p : Option T) → Bears (Unit {0}) (held h) o → Bears (Unit {0}) (held h) p → o ≡ p
        by None None none _ = refl
        by None (Some f) none has = absurd (none tt (f, has.0, has.1))
        by (Some e) None has none = absurd (none tt (e, has.0, has.1))
        by (Some e) (Some f) (c, is) (d, also) =
            ap Some (one_with (held h) e f (differ_after owner [] h legal) c d (is ∙ sym also))

    -- a machine of the world holds the answer, or none that runs holds one
    abbrev pub IsAnswerIn : World T → Option T → Type 0
    IsAnswerIn w None = NoneAnswers node w d
    IsAnswerIn w (Some e) = (m : ℕ) × Contains (held (history w m)) e × ((node e).digest ≡ d)

    none_more : (a : Machine T) (w : World T) → Bears (a.stopped ≡ false) (held a.history) None →
        NoneAnswers node w d → NoneAnswers node (a ∷ w) d
    none_more a w none rest zero b at runs borne =
        let same : a ≡ b = cc in none (rw same runs) (rw same borne)
    none_more a w none rest (suc m) b at runs borne = rest m b at runs borne

    answer_more : (a : Machine T) (w : World T) (o p : Option T) → Bears (a.stopped ≡ false) (held a.history) o →
        IsAnswerIn w p → IsAnswerIn (a ∷ w) (option_or o p)
    answer_more a w (Some e) p (c, is) rest = (zero, c, is)
    answer_more a w None (Some e) none (m, c, is) = (suc m, c, is)
    answer_more a w None None none rest = none_more a w none rest

    pub bearer_answers : (w : World T) → IsAnswerIn w (bearer node d w)
    bearer_answers [] = λ m a at. cc
    bearer_answers (a ∷ w) =
        answer_more a w (answer_of node d a) (bearer node d w)
        ((elim a.stopped as (λ b. a.stopped ≡ b →
        Bears (a.stopped ≡ false) (held a.history) (cond b None (found_by_digest node d (held a.history)))) [
          | true ↦ λ is runs. absurd (true≢false (sym is ∙ runs))
          | false ↦ λ is. found_bears (a.stopped ≡ false) (held a.history)
        ]) refl) (bearer_answers w)

module _ {T : Type 0} (node : T → Node) (w : World T) (orderly : IsOrderly node w) where
  -- what is held was sent
  pub held_in : (m : ℕ) (e : T) → Contains (held (history w m)) e → Contains (sent_in w) e
  held_in m e c = let (x, there, same) = Contains-map_cases entry_of (history w m) e c in by x there same
    where
      by : (x : Event T) → Contains (history w m) x → entry_of x ≡ e → Contains (sent_in w) e
      by (Sent f) there same = rw same at (sent_in_from w m f there)
      by (Got f) there same = rw same at (orderly.heard m f there)

  -- it is its maker's entry with its number
  pub held_sent : (m : ℕ) (e : T) → Contains (held (history w m)) e →
      slice_get (sent (history w (node e).maker)) (node e).number ≡ Some e
  held_sent m e c =
      let (past, (by_whom, later, is)) = was_sent w e (held_in m e c) in
      let own = (orderly.legal by_whom past (Sent e) later is).1 in
      rw (own.maker, own.number, is) (nth_of_sent past e later)
