-- The merged events of machines can be played on one thread.
use Rattle.finished_floor.proofs.{Arriving.heard_was_sent, Grown.config_is, Grown.log_is}
use Rattle.finished_floor.proofs.Imports.{[], ap, AreMachinesOf, AreMadeByThese, ArePlaced, ArePlayedAgain, arith}
use Rattle.finished_floor.proofs.Imports.{Config, configs_of, Contains-append_left, Contains-filter, Contains-none}
use Rattle.finished_floor.proofs.Imports.{Contains-sent_cases, eq-eqb, Event, false, fresh_configs, get-map}
use Rattle.finished_floor.proofs.Imports.{get-map_from, Got, got, history, history_there, in_world, inl, inr}
use Rattle.finished_floor.proofs.Imports.{IsBalanced, IsMadeBy, IsNextOf, IsOrderly, length, length-map, List, Loss}
use Rattle.finished_floor.proofs.Imports.{MachineState, map, MaySend, member_split, merged_is_played_again, next_entry}
use Rattle.finished_floor.proofs.Imports.{node_of_sealed, None, Option, refl, same_Some, Script, script_configs}
use Rattle.finished_floor.proofs.Imports.{SealedEntry, Sent, sent, sent_in_from, slice_get_within, Some, sym, TellsNext}
use Rattle.finished_floor.proofs.Imports.{world_of, ℕ, ◌==◌, ◌∙◌, ◌∷◌, ◌≡◌, ◌≤◌}
use Rattle.finished_floor.proofs.Places.{get_within, history_cases, legal_at, length_world}
use Rattle.finished_floor.proofs.Pushes.{Contains-got}

-- a machine may send one entry at most
sends_one : (config : Config) (h : List (Event SealedEntry)) (e f : SealedEntry) → MaySend config h e →
    MaySend config h f → e ≡ f
sends_one config h e f a b =
    let same : a.deed ≡ b.deed = same_Some a.deed b.deed (sym a.action ∙ b.action) in
    a.made ∙ ap (next_entry config h) same ∙ sym b.made

-- so what gives the next entry of the machine at a place gives the one that it may send
told_by : (config : Config) (h : List (Event SealedEntry)) (e : SealedEntry) (told : Option SealedEntry) →
    MaySend config h e → IsNextOf config h told → told ≡ Some e
told_by config h e None may is = absurd (is e may)
told_by config h e (Some f) may is = ap (λ (x : SealedEntry). Some x) (sends_one config h f e is may)

-- the machine as it was made, with no stop of its own
abbrev made : MachineState → MachineState
made m = record { config = m.config; stop = None; marked = false; events = [] }

-- as they were made, machines have the same configurations
configs_made : (ms : List MachineState) → configs_of (map made ms) ≡ configs_of ms
configs_made [] = refl
configs_made (m ∷ ms) = ap (λ (cs : List Config). m.config ∷ cs) (configs_made ms)

-- what the script's machines are made of
pub configs_are : (script : Script) (ms : List MachineState) → AreMachinesOf script ms →
    configs_of ms ≡ script_configs script
configs_are script ms of =
    sym (configs_made ms)
    ∙ fresh_configs script (map made ms) (record {
      count = length-map ms made ∙ of.count;
      each = λ place m is.
          let (u, there, same) = get-map_from made ms place m is in
          let (cast, cast_is, made_of) = config_is script place u (of.each place u there) in (
            cast,
            cast_is,
            sym same
                ∙ ap (λ (c : Config). record { config = c; stop = None; marked = false; events = [] }) made_of,
          );
    })

module _ (ms : List MachineState) (placed : ArePlaced ms) where
  -- each entry is what its machine sends next
  made_by : (next : ℕ → List (Event SealedEntry) → Option SealedEntry) → TellsNext (configs_of ms) next →
      IsMadeBy next (world_of ms)
  made_by next tells k before e later is =
      let lt = in_world (world_of ms) k before (Sent e) later is in
      let world = length_world ms in
      let (m, there) = get_within ms k (omega arith) in
      let may = (placed k m there).machine.sent before e later (sym (history_there ms k m there) ∙ is) in
      told_by m.config before e (next k before) may
      (rw (get-map (λ (x : MachineState). x.config) ms k m there) at (tells k before))

  -- where each entry is heard or lost, what was heard was sent
  pub are_orderly : (losses : List Loss) (waits : ℕ → ℕ → List SealedEntry) → AreMadeByThese ms →
      IsBalanced node_of_sealed (length ms) (history (world_of ms)) losses waits →
      IsOrderly node_of_sealed (world_of ms)
  are_orderly losses waits makers balanced = record {
    legal = legal_at ms placed;
    heard = λ b e c. elim (history_cases ms b) [
      | inl (m, at, same) ↦ (let a : ℕ = e.entry.maker in
          let (before, later, is) = member_split (history (world_of ms) b) (Got e) c in
          let mine = Contains-filter (λ (x : SealedEntry). x.entry.maker == a) (got (history (world_of ms) b)) e
          (Contains-got (history (world_of ms) b) e c) (eq-eqb a a refl) in
          sent_in_from (world_of ms) a e (Contains-sent_cases (history (world_of ms) a) e
          (heard_was_sent node_of_sealed losses a b (sent (history (world_of ms) a)) _ e
          (balanced a b (makers b m e at (rw same at c)) (slice_get_within ms b m at)
          (legal_at ms placed b before (Got e) later is).1) (Contains-append_left _ (waits a b) e mine))))
      | inr none ↦ absurd (Contains-none (Got e) (rw none at c))
    ];
  }

  module _ (script : Script) (of : AreMachinesOf script ms) where
    -- no history has more events than the script's log size
    all_within : (k : ℕ) → length (history (world_of ms) k) ≤ script.log
    all_within k =
        elim (history_cases ms k) [
          | inl (m, is, same) ↦ rw (same, ← log_is script k m (of.each k m is)) (placed k m is).machine.within
          | inr none ↦ rw none (omega arith)
        ]

    -- playing the merged events of an orderly world of the script's machines gives their histories
    -- again
    pub played_again : IsOrderly node_of_sealed (world_of ms) → ArePlayedAgain script ms
    played_again orderly xs merged w (next, told, same) k =
        rw (same, sym (length_world ms ∙ of.count))
        (merged_is_played_again node_of_sealed next script.log (world_of ms) orderly
        (made_by next (rw (configs_are script ms of) told)) all_within xs merged k)
