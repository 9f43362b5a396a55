-- What a machine keeps, when it is made and when an event is appended.
use Rattle.entangled_log.specs.declared.heard.Heard.TheVariants.{Taken}
use Rattle.polling_world.proofs.Histories.{AreMade-none, AreMade-push}
use Rattle.polling_world.proofs.Imports.{[], arith, Bool, Cast0, config_of, Deed, election_of, entries_in, Event, false}
use Rattle.polling_world.proofs.Imports.{get_or_from_slice_get, Got, Heard, History, is_reached, IsCast, IsGoing}
use Rattle.polling_world.proofs.Imports.{IsHearAnswer, IsKept, IsLawful, IsLegal-none, IsLegal-push, IsMachine, IsTrue}
use Rattle.polling_world.proofs.Imports.{IsWithinStop, key_of, leb-false, length, length-append, length-map, List}
use Rattle.polling_world.proofs.Imports.{log_after, log_of, MachineState, MayFollow, MaySend, node_of_sealed, Post}
use Rattle.polling_world.proofs.Imports.{post_of, refl, Role, roster_of, Rules, Script, SealedEntry, Secret, Sent, sent}
use Rattle.polling_world.proofs.Imports.{sent_as_many, sent_one_more, slice_get, slice_get_within, spare_of, StandFor}
use Rattle.polling_world.proofs.Imports.{subst, sym, true, with_event, ℕ, ◌++◌, ◌+◌, ◌<◌, ◌^◌, ◌∙◌, ◌∷◌, ◌≡◌, ◌≤◌}
use Rattle.polling_world.proofs.{MadeEntries.may_follow, Rosters.key_in_roster, Rosters.roster_has_text}
use Rattle.std.specs.Prelude.{None, not, Option, Some, ◌||◌}

-- a number that isn't reached allows one event more
one_more : (stop : Option ℕ) (count : ℕ) → is_reached stop count ≡ false → IsWithinStop stop (count + 1)
one_more None count going = tt
one_more (Some stop) count going = omega (arith, leb-false stop count going)

-- where neither of two holds the second doesn't
or_false : (a b : Bool) → IsTrue (not (a || b)) → b ≡ false
or_false true b going = cc
or_false false true going = cc
or_false false false going = refl

-- a machine with one event more, which may follow and, if it is sent, may be sent
pub IsMachine-event : (m : MachineState) (x : Event SealedEntry) → IsMachine m → IsGoing m →
    length m.events < m.config.log → MayFollow node_of_sealed m.config.number m.events x →
    ((e : SealedEntry) → x ≡ Sent e → MaySend m.config m.events e) → IsMachine (with_event x m)
IsMachine-event m x machine going room may send =
    let longer : length (m.events ++ x ∷ []) ≡ length m.events + 1 = length-append m.events (x ∷ []) in
    record {
      version = machine.version;
      roster = machine.roster;
      place = machine.place;
      public = machine.public;
      actions = machine.actions;
      legal = IsLegal-push node_of_sealed m.config.number m.events x machine.legal may;
      within = omega (arith, longer, room);
      sent = AreMade-push m.config m.events x machine.sent send;
      stop = rw longer (one_more m.stop (length m.events)
          (or_false m.marked (is_reached m.stop (length m.events)) going));
    }

-- what the fields keep where an event is appended that may follow and, if it is sent, may be sent
IsKept-event : (m : MachineState) (election : List ℕ) (next later capacity : ℕ) (before after : Rules)
    (x : Event SealedEntry) → IsKept m election next capacity before → IsGoing m → length m.events < m.config.log →
    MayFollow node_of_sealed m.config.number m.events x →
    ((e : SealedEntry) → x ≡ Sent e → MaySend m.config m.events e) → later ≡ length (sent (m.events ++ x ∷ [])) →
    later ≤ 2 ^ m.config.key.height →
    StandFor after m.config.role m.config.number (entries_in (m.events ++ x ∷ [])) →
    m.config.log ≤ length (m.events ++ x ∷ []) + spare_of after →
    IsKept (with_event x m) election later capacity after
IsKept-event m election next later capacity before after x kept going room may send signs indexed noted spare = record {
  machine = IsMachine-event m x kept.machine going room may send;
  of_roster = kept.of_roster;
  signs_next = signs;
  indexed = indexed;
  of_log = kept.of_log;
  noted = noted;
  spare = spare;
  few = kept.few;
}

-- a machine that sends an entry that it may send
pub IsKept-sent : (m : MachineState) (election : List ℕ) (next capacity : ℕ) (before after : Rules) →
    IsKept m election next capacity before → IsGoing m → (e : SealedEntry) → MaySend m.config m.events e →
    StandFor after m.config.role m.config.number (entries_in (m.events ++ Sent e ∷ [])) →
    spare_of before ≤ spare_of after + 1 → IsKept (with_event (Sent e) m) election (next + 1) capacity after
IsKept-sent m election next capacity before after kept going e may noted spare =
    IsKept-event m election next (next + 1) capacity before after (Sent e) kept going may.room
    (may_follow m.config m.events e may)
    (λ f is. subst (λ (g : SealedEntry). MaySend m.config m.events g) (cc is) may)
    (omega (arith, kept.signs_next, sent_one_more m.events e)) (omega (arith, kept.signs_next, may.unspent)) noted
    (omega (arith, kept.spare, spare, length-append m.events (Sent e ∷ [])))

-- the script's machine before anything happened
abbrev pub fresh : Script → ℕ → Cast0 → Option ℕ → MachineState
fresh script at cast stop =
    record { config = config_of script at cast; stop = stop; marked = false; events = [] }

-- what is seen of these fields
abbrev pub state_from : Option ℕ → Bool → ℕ → List ℕ → Role → List Deed → Secret → List Post → History SealedEntry →
    MachineState
state_from stop marked version name role actions key posts log = record {
  config = record {
    version = version;
    number = log.owner;
    name = name;
    role = role;
    actions = actions;
    key = record key { next = 0 };
    roster = posts;
    log = log.capacity;
  };
  stop = stop;
  marked = marked;
  events = log.events;
}

-- what was read of the script is its machine
pub is_fresh : (script : Script) (at : ℕ) (cast read : Cast0) (stop : Option ℕ) (name : List ℕ) (actions : List Deed)
    (key : Secret) (posts : List Post) (log : History SealedEntry) → read ≡ cast → name ≡ read.name →
    actions ≡ read.actions → key ≡ key_of script cast → posts ≡ roster_of script →
    log ≡ record { owner = at; capacity = script.log; events = [] } →
    state_from stop false script.version name read.role actions key posts log ≡ fresh script at cast stop
is_fresh script at cast read stop name actions key posts log reads names acts keys rosters logs =
    rw (names, acts, keys, rosters, logs, reads)

-- any number of events to stop at allows none
none_yet : (stop : Option ℕ) → IsWithinStop stop 0
none_yet None = tt
none_yet (Some stop) = omega arith

-- the machine of a lawful script is one before anything happened
IsMachine-fresh : (script : Script) (at : ℕ) (cast : Cast0) (stop : Option ℕ) → IsLawful script →
    slice_get script.machines at ≡ Some cast → IsMachine (fresh script at cast stop)
IsMachine-fresh script at cast stop lawful is =
    let within : at < length script.machines = slice_get_within script.machines at cast is in
    let acts : IsCast script.version script.machines cast =
    rw (get_or_from_slice_get script.machines at cast cast is) at (lawful.machines.actions at cast within) in
    record {
      version = lawful.version;
      roster = roster_has_text script lawful;
      place = omega (arith, within, length-map script.machines (post_of script));
      public = key_in_roster script at cast is;
      actions = λ k d inside. let is = acts k d inside in (is.0, is.1);
      legal = IsLegal-none node_of_sealed at;
      within = omega arith;
      sent = AreMade-none (config_of script at cast);
      stop = none_yet stop;
    }

-- what the fields keep when the machine is made
pub IsKept-fresh : (script : Script) (at : ℕ) (cast : Cast0) (stop : Option ℕ) (m : MachineState) (election : List ℕ)
    (next : ℕ) (state : Rules) → IsLawful script → slice_get script.machines at ≡ Some cast →
    m ≡ fresh script at cast stop → election ≡ election_of (roster_of script) → next ≡ 0 →
    StandFor state cast.role at [] → script.log ≤ spare_of state → IsKept m election next script.log state
IsKept-fresh script at cast stop m election next state lawful is fresh_is elected unused stand room =
    rw fresh_is (record {
      machine = IsMachine-fresh script at cast stop lawful is;
      of_roster = elected;
      signs_next = unused;
      indexed = omega (arith, unused);
      of_log = refl;
      noted = stand;
      spare = omega (arith, room);
      few = lawful.log.1;
    })

-- the machine with this log in place of its own
abbrev pub with_log : History SealedEntry → MachineState → MachineState
with_log log m = record {
  config = record m.config { number = log.owner; log = log.capacity };
  stop = m.stop;
  marked = m.marked;
  events = log.events;
}

-- a machine whose log heard an entry
pub IsKept-heard : (m : MachineState) (election : List ℕ) (next capacity : ℕ) (before after : Rules) →
    IsKept m election next capacity before → IsGoing m → (e : SealedEntry) (heard : Heard SealedEntry)
    (log : History SealedEntry) → IsHearAnswer node_of_sealed (log_of m) e heard →
    log ≡ log_after heard e (log_of m) → StandFor after m.config.role m.config.number (entries_in log.events) →
    log.capacity ≤ length log.events + spare_of after → IsKept (with_log log m) election next capacity after
IsKept-heard m election next capacity before after kept going e Taken log (other, new, room) is noted spare =
    rw is (IsKept-event m election next next capacity before after (Got e) kept going room (new, other) (λ f same. cc)
    (kept.signs_next ∙ sym (sent_as_many m.events e)) kept.indexed (rw is at noted) (rw is at spare))
IsKept-heard m election next capacity before after kept going e _ log answer is noted spare = rw is (record {
  machine = kept.machine;
  of_roster = kept.of_roster;
  signs_next = kept.signs_next;
  indexed = kept.indexed;
  of_log = kept.of_log;
  noted = rw is at noted;
  spare = rw is at spare;
  few = kept.few;
})
