-- Machines that stay what they are made of.
use Rattle.log_repair.proofs.Imports.{◌≡◌, ◌≢◌, ◌∙◌, ℕ, zero, suc, ◌+◌, ◌<◌, arith, List, [], ◌∷◌, length, get_or}
use Rattle.log_repair.proofs.Imports.{Option, Some, None, refl, sym, ap, option_map, slice_get, get_or-map, length-map}
use Rattle.log_repair.proofs.Imports.{get_or_from_slice_get, slice_get_within, slice_get-get_or, slice_get-map}
use Rattle.log_repair.proofs.Imports.{SealedEntry, Event, Machine, MachineState, WorldState, IsNextAt, IsWorld}
use Rattle.log_repair.proofs.Imports.{machine_of, world_of, configs_of, stops_of, TellsNext, HaveLog, SendsWithRoom}
use Rattle.log_repair.proofs.Imports.{IsMadeAsBefore, spare, room, stopped_by_mark, tells_next, next_of, Says, Step}
use Rattle.log_repair.proofs.Imports.{AddsEvent, node_of_sealed, happens, has_stopped}
use Rattle.log_repair.proofs.Events.{fills_if}

-- a machine is determined by what it is made of and what is seen of it
same_machine : (m n : MachineState) → m.config ≡ n.config → m.stop ≡ None → n.stop ≡ None →
    machine_of m ≡ machine_of n → m ≡ n
same_machine m n config stop stop' same =
    let events : m.events ≡ n.events = ap (λ (a : Machine SealedEntry). a.history) same in
    let stopped : has_stopped m ≡ has_stopped n = ap (λ (a : Machine SealedEntry). a.stopped) same in
    let marked : m.marked ≡ n.marked = sym (stopped_by_mark m stop) ∙ stopped ∙ stopped_by_mark n stop' in
    (λ i. record { config = config i; stop = (stop ∙ sym stop') i; marked = marked i; events = events i })

-- so are machines
same_machines : (ms ns : List MachineState) → configs_of ms ≡ configs_of ns → stops_of ms ≡ stops_of ns →
    ((k : ℕ) (m : MachineState) → slice_get ms k ≡ Some m → m.stop ≡ None) → world_of ms ≡ world_of ns → ms ≡ ns
same_machines [] [] configs stops none worlds = refl
same_machines [] (n ∷ ns) configs stops none worlds = absurd (cc worlds)
same_machines (m ∷ ms) [] configs stops none worlds = absurd (cc worlds)
same_machines (m ∷ ms) (n ∷ ns) configs stops none worlds =
    let stop : m.stop ≡ n.stop = cc stops in
    let first : m.stop ≡ None = none zero m refl in
    let same : m ≡ n = same_machine m n (cc configs) first (sym stop ∙ first) (cc worlds) in
    let rest : ms ≡ ns = same_machines ms ns (cc configs) (cc stops) (λ k a at. none (suc k) a at) (cc worlds) in
    cc

-- where something changed the world changed
pub changed_world : (old new : WorldState) → IsWorld old.roster old.machines → IsMadeAsBefore old new → new ≢ old →
    world_of new.machines ≢ world_of old.machines
changed_world old new is made differ worlds =
    let same : new.machines ≡ old.machines =
    sym (same_machines old.machines new.machines (sym made.configs) (sym made.stops)
    (λ k m at. (is.placed k m at).no_stop) (sym worlds)) in
    differ (λ i. record { roster = made.roster i; machines = same i })

-- each log may have as many events as before
pub same_log : (log : ℕ) (ms ns : List MachineState) → configs_of ns ≡ configs_of ms → HaveLog log ms → HaveLog log ns
same_log log ms ns same have = λ k d within.
    let config = λ (m : MachineState). m.config in
    let here : k < length ms = omega (arith, within, ap length same, length-map ns config, length-map ms config) in
    let as_before : (get_or ns k d).config ≡ (get_or ms k d).config =
    sym (get_or-map config ns k d d.config within) ∙ rw same (get_or-map config ms k d d.config here) in
    rw as_before (have k d here)

-- each machine of a world has a log of one size
pub have_log : (w : WorldState) → (is : IsWorld w.roster w.machines) → HaveLog is.log w.machines
have_log w is k d within = (is.placed k (get_or w.machines k d) (slice_get-get_or w.machines k d within)).of_size

-- the log of each has this size
pub log_there : {log : ℕ} (ms : List MachineState) (at : ℕ) (m : MachineState) → HaveLog log ms →
    slice_get ms at ≡ Some m → m.config.log ≡ log
log_there ms at m have is = rw (get_or_from_slice_get ms at m m is) at (have at m (slice_get_within ms at m is))

-- the function that says what machines may send lets each send only with room
pub sends_with_room : {ms : List MachineState} {next : ℕ → List (Event SealedEntry) → Option SealedEntry} {log : ℕ} →
    Says ms next log → SendsWithRoom next log
sends_with_room {ms = ms} {log = log} says m h e is =
    by (slice_get ms m) refl (rw (is, slice_get-map) at (says.tells m h))
  where
    -- by whether there is such a machine
    by : (o : Option MachineState) → slice_get ms m ≡ o →
        IsNextAt (option_map (λ (a : MachineState). a.config) o) h (Some e) → length h < log
    by None at may = cc may
    by (Some a) at may = omega (arith, may.room, log_there ms m a says.have at)

-- the room that there is in a world
spare_room : (log : ℕ) (ms : List MachineState) → ((k : ℕ) (m : MachineState) → slice_get ms k ≡ Some m →
    m.config.log ≡ log) → spare ms ≡ room log (world_of ms)
spare_room log [] each = refl
spare_room log (n ∷ ns) each = omega (arith, each zero n refl, spare_room log ns (λ k a at. each (suc k) a at))

-- a step that changes a world leaves room for one event less
pub one_less : (old new : WorldState) (step : Step) → IsWorld old.roster old.machines → IsMadeAsBefore old new →
    AddsEvent step → ((next : ℕ → List (Event SealedEntry) → Option SealedEntry) (log : ℕ) →
    TellsNext (configs_of old.machines) next → HaveLog log old.machines →
    world_of new.machines ≡ happens node_of_sealed next log (world_of old.machines) step) →
    world_of new.machines ≢ world_of old.machines → spare new.machines + 1 ≡ spare old.machines
one_less old new step is made adds does differ =
    let next = next_of (configs_of old.machines) in
    let tells = tells_next (configs_of old.machines) in
    let have = have_log old is in
    let still = same_log is.log old.machines new.machines made.configs have in
    let happened = does next is.log tells have in
    let less = fills_if node_of_sealed next is.log (sends_with_room (record { tells = tells; have = have })) step adds
    (world_of old.machines) (rw happened at differ) in
    omega (
      arith,
      rw (← happened) at less,
      spare_room is.log old.machines (λ k m at. log_there old.machines k m have at),
      spare_room is.log new.machines (λ k m at. log_there new.machines k m still at),
    )
