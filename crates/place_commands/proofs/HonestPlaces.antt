-- The logs of machines, as they are written, are the logs of each world with their histories.
use Rattle.place_commands.proofs.Imports.{◌≡◌, ◌∙◌, ℕ, List, refl, sym, arith, slice_get, IsSomeAnd, length-map, length}
use Rattle.place_commands.proofs.Imports.{Option, Some, Step, World, history, Contains-map, all_from_places}
use Rattle.place_commands.proofs.Imports.{get-map_from, slice_get_within, element_at, member_at, SealedEntry, log_text}
use Rattle.place_commands.proofs.Imports.{Script, IsLawful, MachineState, ComesTo, IsPlayed, machine_of, world_of}
use Rattle.place_commands.proofs.Imports.{history_there, AreAllFilesOf, written_logs, file_of, AreWholeFilesOf}
use Rattle.place_commands.proofs.Imports.{IsWholeIn, LeaveHonestFiles}

module _ (machines : List MachineState) (w : World SealedEntry) (many : length w ≡ length machines)
    (numbered : (place : ℕ) (m : MachineState) → slice_get machines place ≡ Some m → m.config.number ≡ place)
    (same : (m : ℕ) → history w m ≡ history (world_of machines) m) where
  -- the log of the machine at a place is that of w there
  file_at : (place : ℕ) (m : MachineState) → slice_get machines place ≡ Some m →
      file_of m ≡ Some (log_text place (history w place))
  file_at place m at = rw (numbered place m at, same place, history_there machines place m at)

  -- each file is a whole log of w
  whole_files : AreWholeFilesOf w (written_logs machines)
  whole_files =
      all_from_places (λ (file : Option (List ℕ)). IsSomeAnd file (IsWholeIn w)) (written_logs machines)
      (λ place file at.
      let (m, there, is) = get-map_from file_of machines place file at in
      rw (sym is ∙ file_at place m there)
      (place, omega (arith, many, slice_get_within machines place m there), refl))

  -- and none is missing
  all_files : AreAllFilesOf w (written_logs machines)
  all_files place below =
      let (m, at) = element_at machines place (omega (arith, below, many)) in
      rw (file_at place m at) at (Contains-map file_of machines m (member_at machines place m at))

  -- the files are those of an honest place, where a script's machines come to w
  pub leave_honest_files : (script : Script) → IsLawful script → (steps : List Step) → ComesTo script steps w →
      LeaveHonestFiles script machines w
  leave_honest_files script lawful steps comes = record {
    roster = record { steps = steps; lawful = lawful; comes = comes; text = refl };
    whole = whole_files;
    all = all_files;
  }

-- machines that came to their world by some steps leave such files
pub comers_leave_honest_files : (script : Script) (machines : List MachineState) (steps : List Step) → IsLawful script →
    ((place : ℕ) (m : MachineState) → slice_get machines place ≡ Some m → m.config.number ≡ place) →
    ComesTo script steps (world_of machines) → LeaveHonestFiles script machines (world_of machines)
comers_leave_honest_files script machines steps lawful numbered comes =
    leave_honest_files machines (world_of machines) (length-map machines machine_of) numbered (λ m. refl) script
    lawful steps comes

-- machines that have played leave such files
pub players_leave_honest_files : (script : Script) (machines : List MachineState) → IsLawful script →
    IsPlayed script machines → LeaveHonestFiles script machines (world_of machines)
players_leave_honest_files script machines lawful played =
    comers_leave_honest_files script machines script.steps lawful played.are_of.number played.played
