-- What is true after mending.
use Rattle.log_repair.proofs.Imports.{◌≡◌, ◌∙◌, ℕ, ◌<◌, ◌≤◌, ◌==◌, arith, Bool, true, false, List, [], ◌∷◌, length}
use Rattle.log_repair.proofs.Imports.{Option, Some, None, refl, sym, ap, inl, inr, slice_get, nat_le, Contains}
use Rattle.log_repair.proofs.Imports.{eqb-true, leb-true, length-append, get_or-range_with_len, length-range_with_len}
use Rattle.log_repair.proofs.Imports.{slice_get_within, Event, Sent, Got, Step, IsBorneIn, has_digest, Node, entry_of}
use Rattle.log_repair.proofs.Imports.{held, sent, IsOrderly, gaps, Machine, World, happens, hear, history, history_of}
use Rattle.log_repair.proofs.Imports.{gap_cases, gap_or_bearer, Contains-cons_cases, Contains-head, Contains-map}
use Rattle.log_repair.proofs.Imports.{Contains-none, get_same, has_digest_from, Contains-sent_cases, member_at}
use Rattle.log_repair.proofs.Imports.{RunningMachinesAreMended, Asks, HearsOf, Repairs, TakesRound, TakesTurn, bearer}
use Rattle.log_repair.proofs.Imports.{is_mended, goes_on, IsMended, InOrder, option_map, slice_get-map, node_of_sealed}
use Rattle.log_repair.proofs.Imports.{MachineState, WorldState, IsWorld, machine_of, world_of, configs_of, HaveLog}
use Rattle.log_repair.proofs.Imports.{AreMended, LeadsTo, IsMadeAsBefore, next_of, tells_next}
use Rattle.log_repair.proofs.Bearers.{bearer_answers, held_sent, IsAnswerIn}
use Rattle.log_repair.proofs.OneWay.{AnyStep, asks_sure, turn_sure}
use Rattle.log_repair.proofs.Making.{have_log, log_there, same_log}

-- where nothing changes in all together, nothing changes in each
still_each : {X W : Type 0} (Way : X → W → List Step → W → Type 0) →
    ((x : X) (old new : W) → Way x old [] new → new ≡ old) → (xs : List X) (old new : W) → InOrder Way xs old [] new →
    (x : X) → Contains xs x → Way x old [] old
still_each Way still [] old new all x c = absurd (Contains-none x c)
still_each Way still (y ∷ xs) old new (mid, [], [], one, others, is) x c =
    let same = still y old mid one in
    elim (Contains-cons_cases y xs x c) [
      | inl here ↦ rw (← here) (rw same at one)
      | inr later ↦ rw same at (still_each Way still xs mid new others x later)
    ]
still_each Way still (y ∷ xs) old new (mid, [], s ∷ rest, one, others, is) x c = cc
still_each Way still (y ∷ xs) old new (mid, s ∷ first, rest, one, others, is) x c = cc

module _ {T : Type 0} (node : T → Node) where
  -- the last round changes nothing
  ends_still : (after : World T → Step → World T) (old new : World T) (steps : List Step) →
      Repairs node after old steps new → TakesRound node after new [] new
  ends_still after _ _ _ (is_mended w round) = round
  ends_still after _ _ _ (goes_on old mid new first rest round some later) = ends_still after mid new rest later

  module _ (next : ℕ → List (Event T) → Option T) (log : ℕ) (w : World T) (orderly : IsOrderly node w)
      (small : (m : ℕ) → length (history w m) ≤ log) (m : ℕ) (a : Machine T) (at : slice_get w m ≡ Some a)
      (runs : a.stopped ≡ false) where
    -- a machine that hears nothing of a new entry is full
    full : (e : T) → ((IsBorneIn node (held a.history) (node e).digest) → ⊥) → hear node log (Some e) a ≡ a →
        length a.history ≡ log
    full e lacks stays =
        by (has_digest node (held a.history) (node e).digest) (nat_le log (length a.history)) refl refl
      where
        by : (has most : Bool) → has_digest node (held a.history) (node e).digest ≡ has →
            nat_le log (length a.history) ≡ most → length a.history ≡ log
        by true most has is = absurd (lacks (has_digest_from node (held a.history) (node e).digest has))
        by false true has is = omega (arith, leb-true log (length a.history) is, small m, ap length (ap history_of at))
        by false false has is =
            let grown = rw (runs, has, is) at stays in
            absurd (omega (
              arith,
              ap (λ (b : Machine T). length b.history) grown,
              length-append a.history (Got e ∷ []),
            ))

    -- where asking for a digest that it misses changes nothing, it is full or no machine answers
    asked : (d : List ℕ) → Contains (gaps node (held a.history)) d → Asks node (happens node next log) m d w [] w →
        IsMended node log w a
    asked d gap asks = by (bearer node d w) (bearer_answers node d w) asks
      where
        by : (o : Option T) → IsAnswerIn node d w o → HearsOf node (happens node next log) m o w [] w →
            IsMended node log w a
        by None none stays = inr (inr (d, gap, none))
        by (Some e) (n, holds, digest) (is, _) = inr (inl (at_place (m == (node e).maker) refl))
          where
            maker : ℕ
            maker = (node e).maker

            sent_there : slice_get (sent (history w maker)) (node e).number ≡ Some e
            sent_there = held_sent node w orderly n e holds

            -- what the machine doesn't hold is of another
            at_place : (b : Bool) → (m == maker) ≡ b → length a.history ≡ log
            at_place true own =
                let mine : Contains (held (history w maker)) e = Contains-map entry_of (history w maker) (Sent e)
                (Contains-sent_cases (history w maker) e
                (member_at (sent (history w maker)) (node e).number e sent_there)) in
                absurd ((gap_cases node (held a.history) d gap).1
                (e, rw (← eqb-true m maker own, ap history_of at) at mine, digest))
            at_place false other = full e (λ (f, c, also). (gap_cases node (held a.history) d gap).1
                (f, c, also ∙ digest)) stays
              where
                stays : hear node log (Some e) a ≡ a
                stays =
                    let shown = rw (other, sent_there) at is in
                    let both = sym at ∙ ap (λ (u : World T). slice_get u m) shown
                    ∙ get_same m (hear node log (Some e)) w a at in
                    cc

    mended : TakesRound node (happens node next log) w [] w → IsMended node log w a
    mended round = by (gaps node (held a.history)) refl
      where
        turn : TakesTurn node (happens node next log) m w [] w
        turn =
            let within : m < length w = slice_get_within w m a at in
            still_each (TakesTurn node (happens node next log))
            (λ n v u turn. (turn_sure node (happens node next log) AnyStep (λ _ _ _ _ _. tt) n v u [] turn).0)
            _ w w round m (
              m,
              omega (arith, within, length-range_with_len 0 (length w)),
              omega (arith, get_or-range_with_len 0 (length w) m m within),
            )

        by : (ds : List (List ℕ)) → gaps node (held a.history) ≡ ds → IsMended node log w a
        by [] none = inl (λ e d c names. elim (gap_or_bearer node (held a.history) e d c names) [
          | inl gap ↦ absurd (Contains-none d (rw none at gap))
          | inr borne ↦ borne
        ])
        by (d ∷ ds) some =
            let gap : Contains (gaps node (held a.history)) d = rw some (Contains-head d ds) in
            asked d gap (still_each (Asks node (happens node next log) m)
            (λ c v u ask. (asks_sure node (happens node next log) AnyStep (λ _ _ _ _ _. tt) m c v u [] ask).0)
            (gaps node (held a.history)) w w (rw (at, runs) at turn) d gap)

-- the law
pub running_machines_are_mended : {T : Type 0} (node : T → Node) → RunningMachinesAreMended node
running_machines_are_mended node next log old new steps orderly small mended_by m a at runs =
    mended node next log new orderly small m a at runs (ends_still node (happens node next log) old new steps mended_by)

-- ---- the machines of a polling place

-- no history has more events than a log may have
small_histories : (w : WorldState) → (is : IsWorld w.roster w.machines) → (m : ℕ) →
    length (history (world_of w.machines) m) ≤ is.log
small_histories w is m = rw (slice_get-map machine_of w.machines m) (by (slice_get w.machines m) refl)
  where
    by : (o : Option MachineState) → slice_get w.machines m ≡ o → length (history_of (option_map machine_of o)) ≤ is.log
    by None at = omega arith
    by (Some a) at = (is.placed m a at).within

-- each machine that hasn't stopped is mended
pub are_mended : (old new : WorldState) (steps : List Step) → IsMadeAsBefore old new →
    IsWorld new.roster new.machines → LeadsTo (Repairs node_of_sealed) old.machines steps new.machines →
    AreMended new.machines
are_mended old new steps made is led place a at runs =
    let have : HaveLog is.log new.machines = have_log new is in
    let had : HaveLog is.log old.machines = same_log is.log new.machines old.machines (sym made.configs) have in
    let next = next_of (configs_of old.machines) in
    rw (log_there new.machines place a have at)
    (running_machines_are_mended node_of_sealed next is.log (world_of old.machines) (world_of new.machines) steps
    is.orderly (small_histories new is) (led next is.log (tells_next (configs_of old.machines)) had) place
    (machine_of a) (rw (slice_get-map machine_of new.machines place, at)) runs)
