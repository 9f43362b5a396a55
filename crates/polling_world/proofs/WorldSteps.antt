-- Each step leads from a world to a world, as the world's step does.
use Rattle.polling_world.specs.declared.acted.Acted.TheVariants as acted
use Rattle.polling_world.specs.declared.heard.MachineHeard.TheVariants as heard
use Rattle.polling_world.proofs.Growing.{held_stamps, sent_in_few}
use Rattle.polling_world.proofs.Imports.{[], Act, Acted, all_at, AllocError, ap, arith, cases_eq, Config, configs_of}
use Rattle.polling_world.proofs.Imports.{Contains, Did, eq-eqb, Event, get_or, Got, happens, has_stopped, HaveLog, Hear}
use Rattle.polling_world.proofs.Imports.{hear, held, history, IfOk, inl, inr, IsActed, IsHeard, IsLegalNext, IsNextAt}
use Rattle.polling_world.proofs.Imports.{IsOrderly, IsOrderly-play, IsPlaced, IsStampSpent, IsWorld, length}
use Rattle.polling_world.proofs.Imports.{length-append, length-map, length-set, List, Machine, machine_after}
use Rattle.polling_world.proofs.Imports.{machine_of, MachineHeard, MachineState, max_events, MayFollow, ne_eqb}
use Rattle.polling_world.proofs.Imports.{node_of_sealed, Nothing, nth_split, OnErr, Post, refl, SealedEntry, send, Sent}
use Rattle.polling_world.proofs.Imports.{sent, sent_in, slice_get, slice_get-get_or, slice_set, stamps_are_few, Step}
use Rattle.polling_world.proofs.Imports.{Stepped, stepped_by, stepped_in, StepsBy, Stop, stop, stops_of, suc, sym}
use Rattle.polling_world.proofs.Imports.{TellsNext, true, with_event, with_machine, World, world_of, WorldState, zero}
use Rattle.polling_world.proofs.Imports.{ℕ, ◌<◌, ◌↔◌, ◌∙◌, ◌∷◌, ◌≡◌, ◌≢◌, ◌≤◌, ◌⊎◌}
use Rattle.polling_world.proofs.{MadeEntries.may_follow, NextTold.next_of, NextTold.tells_next, Placing.get-map}
use Rattle.polling_world.proofs.Placing.{get-map_from, history_there, map-set_same, set_cases, set_get, set_same}
use Rattle.polling_world.proofs.{Placing.world_of-set, Stepping.act_is, Stepping.hear_is}
use Rattle.polling_world.specs.Steps.{Stays}
use Rattle.std.proofs.Common.{Err, None, Ok, Option, Result, Some}

-- ---- what becomes of the machines

-- the machine is another one than before, made of the same and with the same stop, and its events
-- fit into its log if they did before
pub record IsChange (m new : MachineState) : Type 0 where
  pub config : new.config ≡ m.config
  pub stop : new.stop ≡ m.stop
  pub within : length m.events ≤ m.config.log → length new.events ≤ m.config.log
  pub other : new ≢ m

-- a machine stays, or is changed
abbrev Becomes : MachineState → Stepped → MachineState → Type 0
Becomes m stepped new = ((stepped ≡ Nothing) × (new ≡ m)) ⊎ ((stepped ≡ Did) × IsChange m new)

-- one of the machines is changed
pub record IsOneChanged (old : List MachineState) (stepped : Stepped) (new : List MachineState) : Type 0 where
  pub at : ℕ
  pub before : MachineState
  pub after : MachineState
  pub stood : slice_get old at ≡ Some before
  pub changed : new ≡ slice_set old at after
  pub told : stepped ≡ Did
  pub change : IsChange before after

-- with an event more, for which there was room, a machine is changed
grown : (m : MachineState) (x : Event SealedEntry) → length m.events < m.config.log → IsChange m (with_event x m)
grown m x room =
    let count = length-append m.events (x ∷ []) in
    record {
      config = refl;
      stop = refl;
      within = λ fits. omega (arith, room, count);
      other = λ same. let one = ap (λ (u : MachineState). length u.events) same in omega (arith, one, count);
    }

-- what becomes of a machine that acts
acted_cases : (m : MachineState) (answer : Acted) (after : MachineState) → IsActed m 0 answer after →
    Becomes m (stepped_by answer) after
acted_cases m (acted.Did number copies) after done =
    inr (refl, rw (done.changed) (grown m (Sent done.entry) done.may.room))
acted_cases m acted.NoMore after stays = inl (refl, stays.2)
acted_cases m _ after stays = inl (refl, stays.1)

-- what becomes of a machine that hears
heard_cases : (m : MachineState) (e : SealedEntry) (answer : MachineHeard) → IsHeard m e answer →
    Becomes m (stepped_in answer) (machine_after answer e m)
heard_cases m e heard.Taken (going, (maker, new, room)) = inr (refl, grown m (Got e) room)
heard_cases m e _ h = inl (refl, refl)

-- what becomes of machines by what becomes of one
changes : (ms : List MachineState) (at : ℕ) (before after : MachineState) (stepped told : Stepped)
    (new : List MachineState) → slice_get ms at ≡ Some before → new ≡ slice_set ms at after → stepped ≡ told →
    Becomes before told after → Stays ms stepped new ⊎ IsOneChanged ms stepped new
changes ms at before after stepped told new stood changed is (inl (none, same)) =
    inl (is ∙ none, changed ∙ ap (slice_set ms at) same ∙ set_same ms at before stood)
changes ms at before after stepped told new stood changed is (inr (did, change)) = inr (record {
  at = at;
  before = before;
  after = after;
  stood = stood;
  changed = changed;
  told = is ∙ did;
  change = change;
})

-- a step changes one machine or none
step_changes : (ms : List MachineState) (step : Step) (stepped : Stepped) (new : List MachineState) →
    StepsBy step ms stepped new → Stays ms stepped new ⊎ IsOneChanged ms stepped new
step_changes ms (Act at) stepped new h =
    changes ms at h.before h.after stepped (stepped_by h.answer) new h.stood h.changed h.told
    (acted_cases h.before h.answer h.after h.acted)
step_changes ms (Hear at from number) stepped new (inl (_, stays)) = inl stays
step_changes ms (Hear at from number) stepped new (inr (_, (e, _, h))) =
    changes ms at h.before (machine_after h.answer e h.before) stepped (stepped_in h.answer) new h.stood h.changed
    h.told (heard_cases h.before e h.answer h.heard)
step_changes ms (Stop at) stepped new h =
    elim h.changed [
      | inl (going, told, changed) ↦ changes ms at h.before (record h.before { marked = true }) stepped Did new
          h.stood changed told (inr (
            refl,
            record {
              config = refl;
              stop = refl;
              within = λ fits. fits;
              other = λ same. let no : true ≡ has_stopped h.before = ap has_stopped same in cc;
            },
          ))
      | inr (_, stays) ↦ inl stays
    ]

-- ---- what the world's step does

-- it is the world's step
abbrev pub Happens : List MachineState → Step → List MachineState → Type 0
Happens old step new =
    (next : ℕ → List (Event SealedEntry) → Option SealedEntry) (log : ℕ) →
    TellsNext (configs_of old) next → HaveLog log old →
    world_of new ≡ happens node_of_sealed next log (world_of old) step

-- a machine that hears nothing changes nothing
nothing_heard : (at log : ℕ) (w : World SealedEntry) → with_machine at (hear node_of_sealed log None) w ≡ w
nothing_heard at log [] = refl
nothing_heard zero log (a ∷ w) = refl
nothing_heard (suc at) log (a ∷ w) = ap (λ (v : World SealedEntry). a ∷ v) (nothing_heard at log w)

module _ (posts : List Post) (ms : List MachineState) (world : IsWorld posts ms) where
  -- each machine's log has the world's size
  have_log : HaveLog world.log ms
  have_log k d within = (world.placed k (get_or ms k d) (slice_get-get_or ms k d within)).of_size

  -- in a world few entries are sent
  few_sent : length (sent_in (world_of ms)) ≤ 65536
  few_sent = omega (arith, sent_in_few (world_of ms) small, length-map ms machine_of, world.few)
    where
      -- the log of each has room for at most 4,096 events
      small : (n : ℕ) (a : Machine SealedEntry) → slice_get (world_of ms) n ≡ Some a → length a.history ≤ max_events
      small n a is =
          let (m, stands, is_a) = get-map_from machine_of ms n a is in
          let within = (world.placed n m stands).within in
          let same : length m.events ≡ length a.history =
          ap (λ (u : Machine SealedEntry). length u.history) is_a in
          omega (arith, within, world.small, same)

  -- none holds an entry with the greatest stamp
  unspent : (at : ℕ) (m : MachineState) → slice_get ms at ≡ Some m → ¬ IsStampSpent m
  unspent at m there (e, c, greatest) =
      let inside : Contains (held (history (world_of ms) at)) e = rw (history_there ms at m there) c in
      absurd (omega (arith, held_stamps node_of_sealed (world_of ms) world.orderly at e inside, few_sent, greatest))

  -- what was sent has its maker
  made_by : (from number : ℕ) (e : SealedEntry) → slice_get (sent (history (world_of ms) from)) number ≡ Some e →
      (node_of_sealed e).maker ≡ from
  made_by from number e is =
      let (before, after, split, _) = nth_split (history (world_of ms) from) number e is in
      (world.orderly.legal from before (Sent e) after split).1.maker

  -- any step is the world's step
  step_happens : (step : Step) (stepped : Stepped) (new : List MachineState) → StepsBy step ms stepped new →
      Happens ms step new
  step_happens (Act at) stepped new h next log tells size =
      ap world_of h.changed
      ∙ world_of-set ms at h.before h.after (λ a. send (next at a.history) a) h.stood
      (act_is h.before h.after h.answer (next at h.before.events) (world.placed at h.before h.stood).no_stop
      (unspent at h.before h.stood) (rw (get-map (λ u. u.config) ms at h.before h.stood) at (tells at h.before.events))
      h.acted)
  step_happens (Hear at from number) stepped new (inl (inl same, (_, is))) next log tells size =
      ap world_of is ∙ rw (eq-eqb at from same)
  step_happens (Hear at from number) stepped new (inl (inr none, (_, is))) next log tells size =
      elim (cases_eq at from) [
        | inl same ↦ ap world_of is ∙ rw (eq-eqb at from same)
        | inr other ↦ ap world_of is ∙ rw (ne_eqb at from other, none) (sym (nothing_heard at log (world_of ms)))
      ]
  step_happens (Hear at from number) stepped new (inr (other, (e, there, h))) next log tells size =
      let m = h.before in
      let place = world.placed at m h.stood in
      let logs : m.config.log ≡ log = all_at (λ u. u.config.log ≡ log) ms at m size h.stood in
      rw (ne_eqb at from other, there)
      (ap world_of h.changed
      ∙ world_of-set ms at m (machine_after h.answer e m) (hear node_of_sealed log (Some e)) h.stood
      (hear_is m e h.answer log place.no_stop logs
      (λ maker. other (sym (maker ∙ place.number) ∙ made_by from number e there)) h.heard))
  step_happens (Stop at) stepped new h next log tells size =
      elim h.changed [
        | inl (_, _, is) ↦ ap world_of is
            ∙ world_of-set ms at h.before (record h.before { marked = true }) stop h.stood refl
        | inr (stopped, (_, same)) ↦ ap world_of (same ∙ sym (set_same ms at h.before h.stood))
            ∙ world_of-set ms at h.before h.before stop h.stood (rw stopped)
      ]

  -- what the machines may send may follow in a legal history
  lawful : IsLegalNext node_of_sealed (next_of (configs_of ms))
  lawful n h e is = by (slice_get (configs_of ms) n) refl (rw is at (tells_next (configs_of ms) n h))
    where
      -- the same by what the machine is made of, if it is there
      by : (o : Option Config) → slice_get (configs_of ms) n ≡ o → IsNextAt o h (Some e) →
          MayFollow node_of_sealed n h (Sent e)
      by None at may = cc
      by (Some config) at may =
          let (m, stands, made) = get-map_from (λ (u : MachineState). u.config) ms n config at in
          let number = (world.placed n m stands).number in
          rw (← number, made) (may_follow config h e may)

  -- after the world's step the histories are legal, and what was heard was sent
  still_orderly : (step : Step) (new : List MachineState) → Happens ms step new →
      IsOrderly node_of_sealed (world_of new)
  still_orderly step new does =
      rw (does (next_of (configs_of ms)) world.log (tells_next (configs_of ms)) have_log)
      (IsOrderly-play node_of_sealed (next_of (configs_of ms)) world.log lawful (world_of ms) (step ∷ []) world.orderly)

  -- where one machine is changed, and the histories are legal again, the machines are a world
  still_world : (stepped : Stepped) (new : List MachineState) → IsOneChanged ms stepped new →
      IsOrderly node_of_sealed (world_of new) → IsWorld posts new
  still_world stepped new c orderly = record {
    log = world.log;
    small = world.small;
    few = omega (arith, world.few, ap length c.changed, length-set ms c.at c.after);
    placed = λ n u stands. elim (set_cases ms c.at n c.before c.after u c.stood (rw (c.changed) at stands)) [
      | inl (here, same) ↦ rw (here, ← same) moved
      | inr stood ↦ world.placed n u stood
    ];
    orderly = orderly;
    stamps = stamps_are_few node_of_sealed (world_of new) orderly;
  }
    where
      -- the machine that is changed is in its place
      moved : IsPlaced posts world.log c.at c.after
      moved =
          let place = world.placed c.at c.before c.stood in
          let config = c.change.config in
          let fits = c.change.within (omega (arith, place.within, place.of_size)) in
          record {
            number = ap (λ (d : Config). d.number) config ∙ place.number;
            of_world = ap (λ (d : Config). d.roster) config ∙ place.of_world;
            of_size = ap (λ (d : Config). d.log) config ∙ place.of_size;
            no_stop = c.change.stop ∙ place.no_stop;
            within = omega (arith, fits, place.of_size);
          }

-- a world with this roster and these machines
abbrev pub state_of : List Post → List MachineState → WorldState
state_of posts machines = record { roster = posts; machines = machines }

-- what contracts say of a step of the world `old`
pub record AfterStep (posts : List Post) (old : WorldState) (step : Step) (result : Result Stepped AllocError)
    (new : List MachineState) : Type 0 where
  -- the machines are a world
  pub world : IsWorld posts new
  -- with enough memory, they did the world's step
  pub ok : IfOk result (λ _. Happens old.machines step new)
  -- nothing happened exactly when the state is as it was
  pub nothing : IfOk result (λ stepped. (stepped ≡ Nothing) ↔ (state_of posts new ≡ old))
  -- the machines are made of what they were
  pub configs : configs_of new ≡ configs_of old.machines
  -- the machines stop where they did before
  pub stops : stops_of new ≡ stops_of old.machines

-- a step that was taken, or failed and left all as it was, is as contracts say
pub after_step : (posts : List Post) (ms : List MachineState) (old : WorldState) (step : Step)
    (result : Result Stepped AllocError) (new : List MachineState) → state_of posts ms ≡ old →
    IsWorld posts ms → IfOk result (λ stepped. StepsBy step ms stepped new) → OnErr result (new ≡ ms) →
    AfterStep posts old step result new
after_step posts ms old step (Err e) new seen world by same = rw (← seen) (record {
  world = rw same world;
  ok = tt;
  nothing = tt;
  configs = ap configs_of same;
  stops = ap stops_of same;
})
after_step posts ms old step (Ok stepped) new seen world by err =
    rw (← seen) (elim (step_changes ms step stepped new by) [
      | inl (told, same) ↦ record {
        world = rw same world;
        ok = does;
        nothing = (λ none. rw same, λ is. told);
        configs = ap configs_of same;
        stops = ap stops_of same;
      }
      | inr c ↦ record {
        world = still_world posts ms world stepped new c (still_orderly posts ms world step new does);
        ok = does;
        nothing = (
          λ none. (let no : Did ≡ Nothing = sym c.told ∙ none in cc),
          λ is. absurd (c.change.other (back c is)),
        );
        configs = ap configs_of c.changed
            ∙ map-set_same (λ u. u.config) ms c.at c.before c.after c.stood c.change.config;
        stops = ap stops_of c.changed ∙ map-set_same (λ u. u.stop) ms c.at c.before c.after c.stood c.change.stop;
      }
    ])
  where
    -- it is the world's step
    does : Happens ms step new
    does = step_happens posts ms world step stepped new by

    -- machines that are as they were have the one that was changed
    back : (c : IsOneChanged ms stepped new) → state_of posts new ≡ state_of posts ms → c.after ≡ c.before
    back c is =
        let same : slice_set ms c.at c.after ≡ ms = sym c.changed ∙ ap (λ (state : WorldState). state.machines) is in
        let now = set_get ms c.at c.before c.after c.stood in
        let was = c.stood in
        cc
