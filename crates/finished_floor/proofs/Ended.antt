-- A whole run of a floor's machines has no stamp that is spent.
use Rattle.finished_floor.proofs.{Grown.are_placed, Grown.log_is, Imports.ap, Imports.AreMachinesOf, Imports.arith}
use Rattle.finished_floor.proofs.Imports.{get-map_from, held, inl, inr, IsAtEnd, IsLawful, IsOrderly, IsStampSpent}
use Rattle.finished_floor.proofs.Imports.{IsWholeRun, length, List, Machine, machine_of, MachineState, max_events}
use Rattle.finished_floor.proofs.Imports.{node_of_sealed, Script, SealedEntry, sent_in, sent_in_few, slice_get}
use Rattle.finished_floor.proofs.Imports.{slice_get-get_or, slice_index_or, Some, StampsAreFew, world_of, ℕ, ◌*◌, ◌≡◌}
use Rattle.finished_floor.proofs.{Imports.◌≤◌, Places.length_world, Roomy.held_sent}
use Rattle.std.specs.Prelude.{All}

module _ (script : Script) (lawful : IsLawful script) (ms : List MachineState) (of : AreMachinesOf script ms)
    (orderly : IsOrderly node_of_sealed (world_of ms)) (law : StampsAreFew node_of_sealed) where
  -- there are at most 16 machines, and each has at most 4,096 events
  few_sent : length (sent_in (world_of ms)) ≤ max_events * length (world_of ms)
  few_sent =
      sent_in_few (world_of ms)
      (λ k a is.
      let (m, there, made) = get-map_from machine_of ms k a is in
      let within = (are_placed script ms of k m there).machine.within in
      let log = log_is script k m (of.each k m there) in
      let most = lawful.log.1 in
      let same = ap (λ (b : Machine SealedEntry). length b.history) made in
      omega arith)

  -- a stamp is at most how many entries were sent, and so none is spent
  not_spent : (k : ℕ) (m : MachineState) → slice_get ms k ≡ Some m → IsStampSpent m → ⊥
  not_spent k m is (e, there, stamp) =
      let low = law (world_of ms) orderly e (held_sent ms orderly k m is e there) in
      let few = few_sent in
      let world = length_world ms in
      let count = of.count in
      let most = lawful.machines.few.1 in
      omega arith

  -- nothing that a machine could do was left
  end_of : (k : ℕ) (m : MachineState) → slice_get ms k ≡ Some m → IsWholeRun m → IsAtEnd m
  end_of k m is whole =
      elim whole [
        | inl none ↦ inl none
        | inr (inl stopped) ↦ inr (inl stopped)
        | inr (inr (inl (deed, next, refused))) ↦ inr (inr (inr (inr (deed, next, inl refused))))
        | inr (inr (inr (inl full))) ↦ inr (inr (inl full))
        | inr (inr (inr (inr (inl spent)))) ↦ absurd (not_spent k m is spent)
        | inr (inr (inr (inr (inr (inl signed))))) ↦ inr (inr (inr (inl signed)))
        | inr (inr (inr (inr (inr (inr (deed, next, held)))))) ↦ inr (inr (inr (inr (deed, next, inr held))))
      ]

  -- each machine is at its end if the run of each is whole
  pub all_at_end : ((place : ℕ) (m : MachineState) → slice_get ms place ≡ Some m → IsWholeRun m) → All IsAtEnd ms
  all_at_end whole k d lt =
      let m : MachineState = slice_index_or ms k d in
      let is = slice_get-get_or ms k d lt in
      end_of k m is (whole k m is)
