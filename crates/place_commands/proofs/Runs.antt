-- What a run of a script in threads comes to is an answer.
use Rattle.place_commands.proofs.Imports.{length, Option, Some, None, All, IfSome, ◌≤◌, IsWithinStop, play, ◌≡◌, ◌∙◌, ℕ}
use Rattle.place_commands.proofs.Imports.{List, map, refl, sym, ap, arith, slice_get, length-map, node_of_sealed}
use Rattle.place_commands.proofs.Imports.{SealedEntry, Step, PlacedEvent, IsMergedOf, step_of, World, history, start}
use Rattle.place_commands.proofs.Imports.{length_play, length_start, worlds_have_one_merged_order, one_order, Post}
use Rattle.place_commands.proofs.Imports.{Loss, Script, IsLawful, script_configs, post_of, MachineState, ComesTo}
use Rattle.place_commands.proofs.Imports.{world_of, next_of, tells_next, ArePlayedAgain, IsFloorOf, Answer, SayUndone}
use Rattle.place_commands.proofs.Imports.{IsBetween, IsRunMachine, IsRunOf, run_answer}
use Rattle.place_commands.proofs.HonestPlaces.{leave_honest_files}

-- a machine with no more events than it may have has no more than the number to stop at
within_stop : (stop : Option ℕ) (count : ℕ) → IsWithinStop stop count → IfSome stop (λ most. count ≤ most)
within_stop None count is = tt
within_stop (Some most) count is = is

module _ (prefix : List ℕ) (script : Script) (lawful : IsLawful script) (posts : List Post)
    (machines : List MachineState) (losses : List Loss) (floor : IsFloorOf script posts machines losses)
    (played : ArePlayedAgain script machines) where
  -- the world's merged order
  abbrev merged : (xs : List (PlacedEvent SealedEntry)) × IsMergedOf node_of_sealed (world_of machines) xs
      × ((ys : List (PlacedEvent SealedEntry)) → IsMergedOf node_of_sealed (world_of machines) ys → ys ≡ xs)
  merged = worlds_have_one_merged_order node_of_sealed (world_of machines)

  -- the steps that make the events in that order
  abbrev steps : List Step
  steps = map (λ (x : PlacedEvent SealedEntry). step_of node_of_sealed x.machine x.event) merged.0

  -- the world to which the script's machines come by them
  abbrev again : World SealedEntry
  again = play node_of_sealed (next_of (script_configs script)) script.log (start (length script.machines)) steps

  -- the script's machines come to it by these steps
  comes : ComesTo script steps again
  comes = (next_of (script_configs script), tells_next (script_configs script), refl)

  -- each machine has in it the history that it has after the run
  same : (m : ℕ) → history again m ≡ history (world_of machines) m
  same m = played merged.0 merged.1 again comes m

  -- it has as many machines as the run
  many : length again ≡ length machines
  many =
      length_play node_of_sealed (next_of (script_configs script)) script.log
      (start {T = SealedEntry} (length script.machines)) steps
      ∙ length_start SealedEntry (length script.machines) ∙ sym floor.machines.count

  -- each machine's number is its place
  numbered : (place : ℕ) (m : MachineState) → slice_get machines place ≡ Some m → m.config.number ≡ place
  numbered place m at =
      let made = (floor.machines.each place m at).made in
      ap (λ (u : MachineState). u.config.number) made.2

  -- each loss is between two machines that the roster names
  pub between : All (IsBetween (length posts)) losses
  between k d within =
      let on_way = floor.losses.only k d within in
      let count = ap length floor.roster ∙ length-map script.machines (post_of script) ∙ sym floor.machines.count in
      record { from = omega (arith, count, on_way.from); to = omega (arith, count, on_way.to) }

  -- of each machine its stop line and how it was made
  run_machine : (place : ℕ) (m : MachineState) → slice_get machines place ≡ Some m → IsRunMachine script place m
  run_machine place m at =
      let is = floor.machines.each place m at in
      let (cast, there, made) = is.made in
      record {
        stop = is.stop;
        made = (cast, there, ap (λ (u : MachineState). record u { events = m.events }) made);
        within = within_stop m.stop (length m.events) is.machine.stop;
      }

  -- the answer is that of the run
  pub is_run : (undone : List ℕ) (answer : Answer) → SayUndone machines undone →
      answer ≡ run_answer prefix posts machines losses undone → IsRunOf prefix script answer
  is_run undone answer left told = record {
    machines = machines;
    losses = losses;
    steps = steps;
    w = again;
    undone = undone;
    made = record { count = floor.machines.count; each = run_machine };
    orderly = floor.orderly;
    lost = floor.losses;
    roomy = floor.roomy;
    at_end = floor.at_end;
    again = record { merged = (merged.0, merged.1, refl); comes = comes; same = same };
    order = one_order node_of_sealed (world_of machines) floor.orderly;
    honest = leave_honest_files machines again many numbered same script lawful steps comes;
    left = left;
    told = rw floor.roster at told;
  }
