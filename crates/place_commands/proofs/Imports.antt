-- What the proofs of this crate take from others.
pub use Rattle.auditor.proofs.Chained.{on_one}
pub use Rattle.command_line.proofs.CommandProofs.{HasOneAnswer, HasStatuses, IsCompleted, IsOfCommands, of_read}
pub use Rattle.command_line.proofs.Faults.{found_answered, IsAbsentAnswer, IsAnswerOfFault, IsRightAsRead}
pub use Rattle.command_line.proofs.{Faults.refused_answered, SameOr.one_or}
pub use Rattle.command_line.specs.Lines.{Answer, OrRefused, refusal_answer, status_of_undone}
pub use Rattle.command_line.specs.{Promise.IsAnswered, Reports.IsCarriedOut, declared.answer.Fault.Fault}
pub use Rattle.command_line.specs.declared.answer.Fault.TheVariants.{ReadFault}
pub use Rattle.election_script.specs.Lawful.{IsLawful}
pub use Rattle.election_script.specs.declared.{faults.ScriptFault.ScriptFault, script.Cast0.Cast0, script.Script.Script}
pub use Rattle.entry_format.specs.{Nodes.node_of_sealed, SealedEntry.SealedEntry}
pub use Rattle.entry_order.proofs.{Lists.Contains-map, Machines.length_play, Machines.length_start}
pub use Rattle.entry_order.proofs.{MergedOrder.worlds_have_one_merged_order, Orders.one_order}
pub use Rattle.entry_order.proofs.Places.{all_from_places, element_at, member_at}
pub use Rattle.entry_order.specs.Merged.{IsMergedOf, PlacedEvent, step_of}
pub use Rattle.entry_order.specs.World.{happens, history, play, start, World}
pub use Rattle.entry_order.specs.declared.{event.Event.Event, step.Step.Step}
pub use Rattle.evidence.proofs.{FilesRead.not_read, FilesRead.was_read, Readings.stands}
pub use Rattle.evidence.specs.{NamedFiles.OnOneFile, Reading.IsReadFromFile, Refusal.Refusal, Refusal.too_long}
pub use Rattle.evidence.specs.declared.fault.InputFault.{InputFault}
pub use Rattle.finished_floor.specs.{Floors.ArePlayedAgain, Floors.IsFloorOf, declared.loss.Loss.Loss}
pub use Rattle.hall_outside.specs.{ReadFile.IsFileRefused, declared.stores.Store.Ghosts as StoreGhosts}
pub use Rattle.honest_places.proofs.PlayedFiles.{file_of}
pub use Rattle.honest_places.specs.{EachPlace.LeaveHonestFiles, LeftFiles.AreAllFilesOf, LeftFiles.written_logs}
pub use Rattle.honest_places.specs.Places.{AreWholeFilesOf, IsWholeIn}
pub use Rattle.log_files.specs.Written.{log_text}
pub use Rattle.log_repair.proofs.{Making.same_log, OneWay.finishes_is_one, OneWay.repairs_is_one}
pub use Rattle.log_repair.proofs.Plays.{finishes_is_a_play, play-append, repairs_are_of, repairs_is_a_play}
pub use Rattle.log_repair.specs.{Mending.Finishes, Mending.Repairs, Outcomes.LeadsTo}
pub use Rattle.place_commands.specs.{Made.make_parts, Play.IsPlayOf, Play.log_file}
pub use Rattle.place_commands.specs.Play.{machine_lines, play_files, play_parts, play_statuses, SayUndone, undone_line}
pub use Rattle.place_commands.specs.Repair.{AreMendedBy, IsRepairOf, mended_lines, repair_parts, with_steps}
pub use Rattle.place_commands.specs.Run.{IsRunMachine, IsRunOf, loss_lines, run_answer, run_parts}
pub use Rattle.place_commands.specs.ScriptFile.{GivesScript, IsScriptFile, max_script}
pub use Rattle.place_commands.specs.inside.{Losses.IsBetween, Repaired.ComesByRepair}
pub use Rattle.polling_world.proofs.NextTold.{next_of, tells_next, tells_same}
pub use Rattle.polling_world.proofs.Placing.{get-map, get-map_from, history_there}
pub use Rattle.polling_world.proofs.{Rosters.roster_has_text, WorldMaking.fresh_configs}
pub use Rattle.polling_world.specs.Configs.{Config, config_of, script_configs}
pub use Rattle.polling_world.specs.{Keys.post_of, Keys.roster_of, Machines.IsWithinStop, Machines.MachineState}
pub use Rattle.polling_world.specs.Playing.{AreOf, ComesTo, IsPlayed, ScriptsArePlayedInOneWay}
pub use Rattle.polling_world.specs.Waiting.{IsLeft, WhatIsLeftIsToldInOneWay}
pub use Rattle.polling_world.specs.Worlds.{configs_of, HaveLog, machine_of, stops_of, TellsNext, world_of, WorldState}
pub use Rattle.polling_world.specs.declared.left.Left.{Left}
pub use Rattle.roster.specs.declared.post.Post.{Post}
pub use Rattle.std.proofs.Common.{[], ap, append-nil, append_assoc, arith, get_or, inl, inr, length, List, map, None}
pub use Rattle.std.proofs.Common.{Option, refl, Some, string_bytes, sym, take, ℕ, ◌++◌, ◌+◌, ◌<◌, ◌↔◌, ◌∙◌, ◌∷◌, ◌≡◌}
pub use Rattle.std.proofs.{Common.◌≢◌, Common.◌≤◌, lemmas.List.length-map, lemmas.List.take_more}
pub use Rattle.std.proofs.lemmas.{List.Elements.All-from_recursion, Option.slice_get-get_or, Option.slice_get_within}
pub use Rattle.std.specs.List.{Contains}
pub use Rattle.std.specs.Prelude.{All, Err, IfErr, IfOk, IfSome, IsSomeAnd, Ok, Result, slice_get}
pub use mathlib.Core.Path.{fun_ext}
