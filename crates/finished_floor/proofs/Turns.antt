-- A round over the machines, and what is known of a machine that didn't act in it.
use Rattle.polling_world.specs.declared.acted.Acted.TheVariants as acted
use Rattle.polling_world.specs.declared.left.LeftWhy.TheVariants as why
use Rattle.finished_floor.proofs.{Handed.none_on, Handed.stopped_there, Handed.then_on, Imports.[]}
use Rattle.finished_floor.proofs.Imports.{Acted, actions_left, All-nil, ap, append-nil, AreOfSent, AreOnce, ArePlaced}
use Rattle.finished_floor.proofs.Imports.{AreStillBelow, arith, Bool, cases_lt, did, false, HasGrown, history, inl, inr}
use Rattle.finished_floor.proofs.Imports.{IsActed, IsAt, IsBalanced, IsLicensed, IsNumbered, IsStillAt, IsSwept, IsTurn}
use Rattle.finished_floor.proofs.Imports.{IsWholeRun, length, List, Lose, Loss, MachineState, no_waits, node_of_sealed}
use Rattle.finished_floor.proofs.Imports.{one_at, or_parts, refl, slice_get, Some, subst, SweptFloor, sym, true}
use Rattle.finished_floor.proofs.Imports.{true≢false, Waits, world_of, ℕ, ◌+◌, ◌<◌, ◌||◌, ◌∙◌, ◌≡◌, ◌≤◌}

-- as a round begins none has acted
pub turn_none : (still : Type 0) (floor : SweptFloor) → IsNumbered floor → still → IsTurn still floor false floor
turn_none still floor numbered is = record {
  goes_on = none_on no_waits floor numbered;
  acted = λ now. absurd (true≢false (sym now));
  none = λ isnt. (is, refl);
}

-- no more actions are left than before
fewer : (still : Type 0) (old new : SweptFloor) (did : Bool) → IsTurn still old did new →
    actions_left new.machines.items ≤ actions_left old.machines.items
fewer still old new true is = let l = is.acted refl in omega arith
fewer still old new false is = let s = ap actions_left (is.none refl).1 in omega arith

module _ (first second both : Type 0) (old between new : SweptFloor) where
  -- a machine acts after others, or can't
  pub turn_more : (some now either : Bool) → (some || now) ≡ either → IsTurn first old some between →
      IsTurn second between now new → (first → between.machines.items ≡ old.machines.items → second → both) →
      IsTurn both old either new
  turn_more some now either is was then still = record {
    goes_on = then_on no_waits no_waits no_waits old between new was.goes_on then.goes_on;
    acted = λ acts. less some now (is ∙ acts) was then;
    none = λ neither.
        let (not_before, not_now) = or_parts some now (is ∙ neither) in
        let (before, same) = was.none not_before in
        let (after, stays) = then.none not_now in
        (still before same after, stays ∙ same);
  }
    where
      -- where one acted, fewer actions are left
      less : (some now : Bool) → (some || now) ≡ true → IsTurn first old some between →
          IsTurn second between now new → actions_left new.machines.items < actions_left old.machines.items
      less true now acts was then = let l = was.acted refl in let f = fewer second between new now then in omega arith
      less false now acts was then =
          let l = then.acted acts in let f = fewer first old between false was in omega arith

-- whether one acted stays where the last couldn't
pub nothing_more : (some now : Bool) → now ≡ false → (some || now) ≡ some
nothing_more true now is = refl
nothing_more false now is = is

-- where no machine below `at` acted and the next can't, none below the one after it did
pub still_more : (at : ℕ) (old between : List MachineState) → AreStillBelow at old → between ≡ old →
    IsStillAt between at → AreStillBelow (at + 1) old
still_more at old between below same next place lt =
    elim (cases_lt place at) [
      | inl low ↦ below place low
      | inr high ↦ (let here : at ≡ place = omega arith in
          subst (IsStillAt old) here (subst (λ (l : List MachineState). IsStillAt l at) same next))
    ]

-- a machine that was to act, and didn't, has a cause for it
still_whole : (place : ℕ) (m : MachineState) (receivers : ℕ) (answer : Acted) → IsAt place m →
    IsActed m receivers answer m → did answer ≡ false → IsWholeRun m
still_whole place m receivers (acted.Did number copies) at is isnt = absurd (true≢false isnt)
still_whole place m receivers acted.Stopped at (has, _) isnt = inr (inl (stopped_there m at.machine at.unmarked has))
still_whole place m receivers acted.NoMore at (_, no_more, _) isnt = inl no_more
still_whole place m receivers (acted.SupervisorNot cause) at ((deed, next, why_not), _) isnt =
    inr (inr (inl (deed, next, (why.SupervisorNot cause, why_not.refused))))
still_whole place m receivers (acted.BoothNot cause) at ((deed, next, why_not), _) isnt =
    inr (inr (inl (deed, next, (why.BoothNot cause, why_not.refused))))
still_whole place m receivers acted.Full at ((_, _, why_not), _) isnt = inr (inr (inr (inl why_not.full)))
still_whole place m receivers acted.StampSpent at ((_, _, why_not), _) isnt = inr (inr (inr (inr (inl why_not.stamp))))
still_whole place m receivers acted.Spent at ((_, _, why_not), _) isnt = inr (inr (inr (inr (inr (inl why_not.spent)))))
still_whole place m receivers acted.SameDigest at (already, _) isnt =
    inr (inr (inr (inr (inr (inr (already.deed, already.action, already.held))))))

-- where each machine was to act and none did, the run of each is whole
pub all_whole : (ms : List MachineState) → ArePlaced ms → AreStillBelow (length ms) ms →
    (place : ℕ) (m : MachineState) → place < length ms → slice_get ms place ≡ Some m → IsWholeRun m
all_whole ms placed still place m lt is =
    let (k, answer, acts, isnt) = still place lt m is in still_whole place m k answer (placed place m is) acts isnt

-- before anything is done
pub swept_none : (loses : List Lose) (ms : List MachineState) (losses : List Loss) (waits : Waits) → ArePlaced ms →
    IsBalanced node_of_sealed (length ms) (history (world_of ms)) losses waits → AreOnce losses →
    AreOfSent ms losses → IsSwept loses ms losses waits ms losses
swept_none loses ms losses waits placed balanced once of = record {
  grown = record {
    count = refl;
    each = λ place m n was is.
        subst (HasGrown m) (one_at ms place m n was is)
        (record { config = refl; stop = refl; later = []; events = sym (append-nil m.events) });
  };
  placed = placed;
  makers = λ had. had;
  balanced = balanced;
  lost = [];
  losses = sym (append-nil losses);
  licensed = All-nil (IsLicensed loses ms);
  once = once;
  of_sent = of;
  scripted = λ c number d lc ld differs low high named. absurd (omega arith);
}
