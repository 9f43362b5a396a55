-- Machines that have grown: what they are made of stays, and so does what they sent and held.
use Rattle.finished_floor.proofs.Imports.{Cast0, Script, node_of_sealed, SealedEntry, sent-append, entry_of, held, sent}
use Rattle.finished_floor.proofs.Imports.{IsBorneIn, history, Event, ArePlaced, HasGrown, HaveGrown, IsAt, count_sent}
use Rattle.finished_floor.proofs.Imports.{AreMachinesOf, IsMachineOf, history_there, Config, config_of, MachineState}
use Rattle.finished_floor.proofs.Imports.{world_of, List, Some, ap, arith, inl, inr, length, length-append, ℕ}
use Rattle.finished_floor.proofs.Imports.{map-append, Contains-append_left, slice_get_within, Contains, slice_get, ◌++◌}
use Rattle.finished_floor.proofs.Imports.{◌∙◌, ◌≡◌, ◌≤◌}
use Rattle.finished_floor.proofs.Places.{get_within, history_cases}

module _ (script : Script) (place : ℕ) (m : MachineState) (of : IsMachineOf script place m) where
  -- what the script's machine is made of
  pub config_is :
      (cast : Cast0) × (slice_get script.machines place ≡ Some cast) × (m.config ≡ config_of script place cast)
  config_is = let (cast, named, is) = of.made in (cast, named, ap (λ (u : MachineState). u.config) is)

  -- its log holds as many events as the script says
  pub log_is : m.config.log ≡ script.log
  log_is = ap (λ (c : Config). c.log) config_is.2

  -- its number is its place
  pub number_is : m.config.number ≡ place
  number_is = ap (λ (c : Config). c.number) config_is.2

  -- no call stopped it, and it has its place
  pub is_at : IsAt place m
  is_at = record {
    number = number_is;
    machine = of.machine;
    unmarked = ap (λ (u : MachineState). u.marked) of.made.2;
  }

  -- a machine that has grown is still the script's machine at its place
  pub grown_of : (n : MachineState) → HasGrown m n → IsAt place n → IsMachineOf script place n
  grown_of n grown at =
      let (cast, named, of_cast) = config_is in record {
        stop = rw grown.stop of.stop;
        made = (cast, named, rw (grown.config ∙ of_cast, at.unmarked));
        machine = at.machine;
      }

-- the script's machines are in their places
pub are_placed : (script : Script) (ms : List MachineState) → AreMachinesOf script ms → ArePlaced ms
are_placed script ms of place m is = is_at script place m (of.each place m is)

-- what was held is still held
pub held_still : (m n : MachineState) (d : List ℕ) → HasGrown m n → IsBorneIn node_of_sealed (held m.events) d →
    IsBorneIn node_of_sealed (held n.events) d
held_still m n d grown (entry, there, same) = (
  entry,
  rw (grown.events, map-append entry_of m.events grown.later) (Contains-append_left (held m.events) _ entry there),
  same,
)

-- there are at least as many events
pub longer : (m n : MachineState) → HasGrown m n → length m.events ≤ length n.events
longer m n grown = rw grown.events (let both = length-append m.events grown.later in omega arith)

module _ (ms ns : List MachineState) (grown : HaveGrown ms ns) where
  -- the machine that has grown
  pub now_at : (k : ℕ) (m : MachineState) → slice_get ms k ≡ Some m →
      (n : MachineState) × (slice_get ns k ≡ Some n) × HasGrown m n
  now_at k m is =
      let lt = slice_get_within ms k m is in
      let (n, there) = get_within ns k (let c = grown.count in omega arith) in (n, there, grown.each k m n is there)

  -- each machine at a place has grown from the machine that was there
  pub was_at : (k : ℕ) (n : MachineState) → slice_get ns k ≡ Some n →
      (m : MachineState) × (slice_get ms k ≡ Some m) × HasGrown m n
  was_at k n is =
      let lt = slice_get_within ns k n is in
      let (m, there) = get_within ms k (let c = grown.count in omega arith) in (m, there, grown.each k m n there is)

  -- they are the script's still
  pub machines_still : (script : Script) → AreMachinesOf script ms → ArePlaced ns → AreMachinesOf script ns
  machines_still script of placed = record {
    count = grown.count ∙ of.count;
    each = λ k n is. let (m, there, grows) = was_at k n is in
        grown_of script k m (of.each k m there) n grows (placed k n is);
  }

  -- each history has what it had
  pub history_more : (k : ℕ) →
      (later : List (Event SealedEntry)) × (history (world_of ns) k ≡ history (world_of ms) k ++ later)
  history_more k =
      elim (history_cases ms k) [
        | inl (m, is, same) ↦ (let (n, there, grows) = now_at k m is in
            (grows.later, rw (history_there ns k n there, same) grows.events))
        | inr none ↦ (history (world_of ns) k, rw none)
      ]

  -- each machine sent what it had sent, and more
  pub sent_more : (k : ℕ) →
      (more : List SealedEntry) × (sent (history (world_of ns) k) ≡ sent (history (world_of ms) k) ++ more)
  sent_more k =
      let (later, grows) = history_more k in
      (sent later, ap sent grows ∙ sent-append (history (world_of ms) k) later)

  -- what a machine has sent stays sent as it grows
  pub sent_still : (k : ℕ) (e : SealedEntry) → Contains (sent (history (world_of ms) k)) e →
      Contains (sent (history (world_of ns) k)) e
  sent_still k e c = let (later, grows) = sent_more k in rw grows (Contains-append_left _ later e c)

  -- a machine that has grown has sent no fewer entries
  pub count_more : (k : ℕ) → count_sent ms k ≤ count_sent ns k
  count_more k =
      let (later, grows) = sent_more k in
      let n = ap length grows in
      let l = length-append (sent (history (world_of ms) k)) later in
      omega arith
