-- How the entries that arrive change with the entries and with the losses.
use Rattle.finished_floor.proofs.Imports.{Contains-filter, Contains-filter_cases, filter_all, Node, arriving, is_lost}
use Rattle.finished_floor.proofs.Imports.{is_of, Loss, Bool, List, [], ap, arith, false, inl, inr, sym, true, ℕ}
use Rattle.finished_floor.proofs.Imports.{cases_Bool, not-true, true≢false, append-nil, filter-append, list_any-append}
use Rattle.finished_floor.proofs.Imports.{Contains, not, nat_tests, ◌++◌, ◌∙◌, ◌∷◌, ◌≡◌, ◌≢◌, ◌⊎◌, ◌&&◌, ◌||◌}
use Rattle.finished_floor.proofs.Lists.{filter_same, filter_twice}

module _ (loss : Loss) (from number to : ℕ) where
  -- a loss of another number is not of the entry
  pub other_number : loss.number ≢ number → is_of from number to loss ≡ false
  other_number differs = grind (arith, nat_tests)

  -- nor is a loss of another maker
  pub other_from : loss.from ≢ from → is_of from number to loss ≡ false
  other_from differs = grind (arith, nat_tests)

  -- nor a loss on the way to another machine
  pub other_to : loss.to ≢ to → is_of from number to loss ≡ false
  other_to differs = grind (arith, nat_tests)

  -- the loss of this entry
  pub itself : loss.from ≡ from → loss.number ≡ number → loss.to ≡ to → is_of from number to loss ≡ true
  itself f n t = grind (arith, nat_tests)

  -- what it is a loss of
  pub is_of_parts : is_of from number to loss ≡ true → (loss.from ≡ from) × (loss.number ≡ number) × (loss.to ≡ to)
  is_of_parts is = grind (arith, nat_tests)

-- the two ends of a way lose what either loses
pub lost_either : (mine theirs : List Loss) (from number to : ℕ) →
    is_lost (mine ++ theirs) from number to ≡ (is_lost mine from number to || is_lost theirs from number to)
lost_either mine theirs from number to = list_any-append (is_of from number to) mine theirs

module _ (losses : List Loss) (loss : Loss) (from number to : ℕ) where
  -- one loss more of another entry, or of another way, changes nothing
  pub lost_push : is_of from number to loss ≡ false →
      is_lost (losses ++ loss ∷ []) from number to ≡ is_lost losses from number to
  lost_push other = grind (arith, lost_either)

  -- a loss of this entry on this way makes it lost
  pub lost_now : is_of from number to loss ≡ true → is_lost (losses ++ loss ∷ []) from number to ≡ true
  lost_now is = grind (arith, lost_either)

module _ {T : Type 0} (node : T → Node) where
  -- one entry more arrives, or is lost
  pub arriving_kept : (losses : List Loss) (from to : ℕ) (es : List T) (e : T) →
      is_lost losses from (node e).number to ≡ false →
      arriving node losses from to (es ++ e ∷ []) ≡ arriving node losses from to es ++ e ∷ []
  arriving_kept losses from to es e here = rw (filter-append, here)

  -- an entry more that is lost doesn't arrive
  pub arriving_lost : (losses : List Loss) (from to : ℕ) (es : List T) (e : T) →
      is_lost losses from (node e).number to ≡ true →
      arriving node losses from to (es ++ e ∷ []) ≡ arriving node losses from to es
  arriving_lost losses from to es e here = rw (filter-append, here, append-nil)

  -- losses of other entries change nothing
  pub arriving_same : (losses more : List Loss) (from to : ℕ) (es : List T) →
      ((e : T) → Contains es e → is_lost more from (node e).number to ≡ is_lost losses from (node e).number to) →
      arriving node more from to es ≡ arriving node losses from to es
  arriving_same losses more from to es same = filter_same _ _ es (λ e c. ap not (same e c))

  -- what arrives where either loses is what arrives of what the first lets through
  pub arriving_twice : (mine theirs total : List Loss) (from to : ℕ) (es : List T) →
      ((e : T) → Contains es e →
      is_lost total from (node e).number to
      ≡ (is_lost mine from (node e).number to || is_lost theirs from (node e).number to)) →
      arriving node total from to es ≡ arriving node theirs from to (arriving node mine from to es)
  arriving_twice mine theirs total from to es either =
      rw filter_twice (filter_same _ _ es
      (λ e c. neither _ (is_lost mine from (node e).number to) (is_lost theirs from (node e).number to) (either e c)))
    where
      -- what neither loses is kept by both
      neither : (all mine theirs : Bool) → all ≡ (mine || theirs) → not all ≡ (not mine && not theirs)
      neither all true theirs is = ap not is
      neither all false theirs is = ap not is

  -- what isn't lost arrives whole
  pub arriving_all : (losses : List Loss) (from to : ℕ) (es : List T) →
      ((e : T) → Contains es e → is_lost losses from (node e).number to ≡ false) → arriving node losses from to es ≡ es
  arriving_all losses from to es none = filter_all _ es (λ e c. ap not (none e c))

  -- the link has been finished: what the sender put is what the receiver took and the rest
  pub gathered : (mine theirs total : List Loss) (from to : ℕ) (es put taken rest heard : List T) →
      put ≡ arriving node mine from to es → heard ≡ arriving node theirs from to taken → put ≡ taken ++ rest →
      ((e : T) → Contains es e →
      is_lost total from (node e).number to
      ≡ (is_lost mine from (node e).number to || is_lost theirs from (node e).number to)) →
      ((e : T) → Contains rest e → is_lost theirs from (node e).number to ≡ false) →
      heard ++ rest ≡ arriving node total from to es
  gathered mine theirs total from to es put taken rest heard puts hears in_order either waiting =
      rw (
        arriving_twice mine theirs total from to es either,
        ← puts,
        in_order,
        filter-append,
        hears,
        arriving_all theirs from to rest waiting,
      )

  -- an entry that was sent arrived, or is lost, and not both
  pub heard_or_lost : (losses : List Loss) (from to : ℕ) (es heard : List T) (e : T) →
      heard ≡ arriving node losses from to es → Contains es e →
      (Contains heard e × (is_lost losses from (node e).number to ≡ false)) ⊎
      ((Contains heard e → ⊥) × (is_lost losses from (node e).number to ≡ true))
  heard_or_lost losses from to es heard e is c =
      elim (cases_Bool (is_lost losses from (node e).number to)) [
        | inl lost ↦ inr (
          (λ h. true≢false (sym lost ∙ not-true _ (Contains-filter_cases _ es e (rw is at h)).1)),
          lost,
        )
        | inr kept ↦ inl (rw is (Contains-filter _ es e c (ap not kept)), kept)
      ]

  -- what arrived was sent
  pub heard_was_sent : (losses : List Loss) (from to : ℕ) (es heard : List T) (e : T) →
      heard ≡ arriving node losses from to es → Contains heard e → Contains es e
  heard_was_sent losses from to es heard e is c = (Contains-filter_cases _ es e (rw is at c)).0
