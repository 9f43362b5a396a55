-- The logs of machines that have played are all logs of their world.
use Rattle.honest_places.proofs.Imports
use Imports.{All-map, all_from_places, ap, AreAllFilesOf, AreFilesOf, arith, Contains, Contains-map, element_at, Event}
use Imports.{history, history_there, IsPlayed, length, length-map, List, log_text, machine_of, MachineState, member_at}
use Imports.{Option, Script, SealedEntry, slice_get, slice_get_within, Some, subst, sym, world_of, written_logs, ℕ, ◌<◌}
use Imports.{◌∙◌, ◌≡◌}
use Rattle.honest_places.proofs.{LeftFileFacts.IsFileOf, ReadLogs.whole_is_left}

-- the file of a machine's whole log
abbrev pub file_of : MachineState → Option (List ℕ)
file_of m = Some (log_text m.config.number m.events)

module _ (script : Script) (machines : List MachineState) (played : IsPlayed script machines) where
  -- the log of the machine at a place is that of the world's there
  file_at : (place : ℕ) (m : MachineState) → slice_get machines place ≡ Some m →
      file_of m ≡ Some (log_text place (history (world_of machines) place))
  file_at place m at =
      ap (λ (n : ℕ). Some (log_text n m.events)) (played.are_of.number place m at)
      ∙ ap (λ (h : List (Event SealedEntry)). Some (log_text place h)) (sym (history_there machines place m at))

  -- the logs that are written are files of the world
  pub written_are_left : AreFilesOf (world_of machines) (written_logs machines)
  written_are_left =
      All-map (IsFileOf (world_of machines)) file_of machines
      (all_from_places (λ m. IsFileOf (world_of machines) (file_of m)) machines (λ place m at.
      let below : place < length (world_of machines) =
      omega (arith, slice_get_within machines place m at, length-map machines machine_of) in
      subst (IsFileOf (world_of machines)) (sym (file_at place m at))
      (place, below, whole_is_left place (history (world_of machines) place))))

  -- all written logs are there, complete
  pub written_are_all : AreAllFilesOf (world_of machines) (written_logs machines)
  written_are_all place below =
      let (m, at) = element_at machines place (omega (arith, below, length-map machines machine_of)) in
      subst (Contains (written_logs machines)) (file_at place m at)
      (Contains-map file_of machines m (member_at machines place m at))
