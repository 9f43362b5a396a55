-- What the proofs of this crate take from others.
pub use Rattle.auditor.specs.OneReport.{FilesGiveOneReport}
pub use Rattle.auditor.specs.{Outcomes.is_broken, Outcomes.is_unsettled, Report.AuditReport, Sources.standard}
pub use Rattle.auditorium_core.specs.Answer.{AnswersWords, HasItsWords, IsAnswerOf, IsAnswerTo, IsOfAnswers}
pub use Rattle.auditorium_core.specs.Demonstrated.{demonstration_answer, demonstration_parts, GivesDemonstration}
pub use Rattle.auditorium_core.specs.Demonstrated.{IsAnswerOfShown, IsDemonstrationAnswer, IsHalfOf, TellsNoneBroken}
pub use Rattle.auditorium_core.specs.OfficeCalls.{AreCallsOn, Call, IsCall, IsCallOrOther, IsCutOff, IsLeftSo}
pub use Rattle.auditorium_core.specs.OfficeCalls.{IsOfficeIn, IsSignedByNumber, IsSignedInTurn, IsUsedUp, NumbersRise}
pub use Rattle.auditorium_core.specs.OfficeCalls.{ReadsUnsigned, SignsInTurn, UsesNumber, with_next}
pub use Rattle.auditorium_core.specs.OneRun.{DifferInCauses, DiffersInCause}
pub use Rattle.auditorium_core.specs.Outcome.{HasDone, IsGivenBy, IsGivenSomehow}
pub use Rattle.auditorium_core.specs.ReadBack.{AreReadBack, log_names, PlaysAreReadBack, RepairsAreReadBack}
pub use Rattle.auditorium_core.specs.{ReadBack.RunsAreReadBack, Words.AreGood}
pub use Rattle.auditorium_core.specs.Words.{audit, check, Command, command_parts, demonstrate, endorse, endorsed, gaps}
pub use Rattle.auditorium_core.specs.Words.{generate, IsAny, IsStill, Means, office, order, play, prove, repair, run}
pub use Rattle.auditorium_core.specs.{Words.watch, inside.Meaning.asked, inside.Promise.AreAnswered}
pub use Rattle.canonical_sexp.proofs.Unique.{one_tree}
pub use Rattle.canonical_sexp.specs.Text.{text_of}
pub use Rattle.command_line.proofs.CommandProofs.{HasOneAnswer, HasStatuses, IsCompleted, IsOfCommands}
pub use Rattle.command_line.proofs.{Faults.IsAnswerOfFault, Faults.refused_or, SameOr.same_or}
pub use Rattle.command_line.specs.Lines.{Answer, OrRefused, refusal_answer, refused_answer, usage_answer}
pub use Rattle.command_line.specs.{Outside.Outside, Outside.outside, Reports.IsCarriedOut, WordForms.AreSessions}
pub use Rattle.command_line.specs.Written.{IsUnwritten, IsWritten, IsWrittenBy, PlacesInTurn, SetsSome, with_files}
pub use Rattle.command_line.specs.declared.{answer.Fault.Fault, status.Status.Status}
pub use Rattle.demonstration.proofs.Plays.{kept_is_left, some_machine}
pub use Rattle.demonstration.specs.declared.shown.Demonstration.{Demonstration}
pub use Rattle.election_script.specs.{Generated.generated, Lawful.IsLawful, declared.script.Cast0.Cast0}
pub use Rattle.election_script.specs.declared.script.{Script.Script, StopAt.StopAt}
pub use Rattle.entry_format.proofs.Unsealings.{one_unsealing}
pub use Rattle.entry_format.specs.{Nodes.node_of_sealed, SealedEntry.SealedEntry, Unsealing.Unseals}
pub use Rattle.entry_order.proofs.{Histories.nth_split, Lists.Contains-cons_cases, Lists.Contains-head}
pub use Rattle.entry_order.proofs.Lists.{Contains-later, Contains-map, Contains-none, list_any_of, list_any_some}
pub use Rattle.entry_order.proofs.Orders.{one_order}
pub use Rattle.entry_order.proofs.Places.{element_at, member_at, one_at, place_of}
pub use Rattle.entry_order.specs.{History.entry_of, History.sent, Naming.Distinct, Receipt.IsOrderly}
pub use Rattle.entry_order.specs.World.{history, sent_in, World}
pub use Rattle.entry_order.specs.declared.event.Event.{Event, TheVariants.Got, TheVariants.Sent}
pub use Rattle.evidence.proofs.OnReads.{none_read, on_exposed, on_weaker}
pub use Rattle.evidence.proofs.Readings.{no_cause, stands}
pub use Rattle.evidence.specs.{NamedFiles.OnExposed, NamedFiles.OnRead, Refusal.absent, Refusal.Refusal}
pub use Rattle.evidence.specs.{Refusal.refusal_of, Refusal.refused, Same.Agree, declared.fault.InputFault.InputFault}
pub use Rattle.finished_floor.proofs.Arriving.{is_of_parts, itself}
pub use Rattle.finished_floor.specs.Places.{IsStopOf}
pub use Rattle.hall_outside.proofs.FileLists.{eq_self, same_name}
pub use Rattle.hall_outside.specs.{Counts.HasRisen, Files.file_set, Files.Files, Files.with_file}
pub use Rattle.hall_outside.specs.declared.{sinks.Sink.Ghosts as SinkGhosts, stores.Store.Ghosts as StoreGhosts}
pub use Rattle.hex.proofs.HexLemmas.{decode_of-encode_lower}
pub use Rattle.hex.specs.Hex.{decode_of, encode_lower}
pub use Rattle.honest_places.proofs.AuditLaws.{audits_are_refused_only_so, reports_say_none_broken}
pub use Rattle.honest_places.proofs.{Given.event_was_sent, LogScripts.scripts_are_honest, ReadLogs.whole_is_left}
pub use Rattle.honest_places.specs.{EachPlace.LeaveHonestFiles, LeftFiles.written_logs, Places.HasLeft}
pub use Rattle.honest_places.specs.{Places.IsWholeIn, ReportsKept.SaysNoneBroken, WhatIsLeft.IsLeftIn}
pub use Rattle.hss_sign.specs.Signs.{HssSigns}
pub use Rattle.log_commands.proofs.{AuditAnswers.not_absent, GapsCommand.SayOne, HonestAudits.only_broken}
pub use Rattle.log_commands.proofs.{OneOrderAnswer.OrderOne, OneProof.ProofOne, ReportCommands.absent_status}
pub use Rattle.log_commands.proofs.ReportCommands.{outcome_done, outcome_status, refused_status, report_statuses_some}
pub use Rattle.log_commands.proofs.SoundReports.{given_is_sound}
pub use Rattle.log_commands.specs.{Honest.IsHonestOrder, HonestAudit.IsAuditOfPlace, HonestAudit.TellsHonestReport}
pub use Rattle.log_commands.specs.ReportAnswers.{report_statuses}
pub use Rattle.log_files.specs.{LogText.header_tree, Written.log_text, Written.record_text}
pub use Rattle.office_commands.proofs.EndorseCommand.{office_read, unsigned_parts}
pub use Rattle.office_commands.proofs.EndorsedCommand.{bad, endorsed_one, good}
pub use Rattle.office_commands.specs.Endorse.{endorse_answer, GivesUnsigned, IsEndorsement, signature_file, Unsigned}
pub use Rattle.office_commands.specs.{Endorsed.IsEndorsedAnswer, NamedBytes.max_signed, Office.IsOfficeAnswer}
pub use Rattle.office_commands.specs.{Office.IsOfficeSeed, Office.key_file, OfficeFile.office_file}
pub use Rattle.office_key.proofs.GoodSignatures.{endorsed as signs_well, short_signature}
pub use Rattle.office_key.proofs.OfficeTexts.{cut_text, one_office}
pub use Rattle.place_commands.proofs.OnePlayAnswer.{one_script, PlayOne, same_undone}
pub use Rattle.place_commands.specs.Play.{KeepOrder, log_file, machine_log_name, play_files, roster_file, roster_name}
pub use Rattle.place_commands.specs.{Repair.with_steps, Run.AreRunMachines, Run.IsRunMachine}
pub use Rattle.polling_world.proofs.{OnePlay.one_play, Placing.get-map, Placing.get-map_from, Placing.history_there}
pub use Rattle.polling_world.specs.{Configs.Config, Configs.config_of, Keys.roster_of, Machines.MachineState}
pub use Rattle.polling_world.specs.{Making.election_of, Playing.AreOf, Playing.IsPlayed}
pub use Rattle.polling_world.specs.Worlds.{machine_of, world_of}
pub use Rattle.roster.specs.{RosterText.roster_tree, declared.post.Post.Post}
pub use Rattle.rule_engine.specs.declared.verdict.Verdict.{Verdict}
pub use Rattle.rule_language.specs.Standard.{standard_rules}
pub use Rattle.std.proofs.Common.{[], ap, append-nil, append_assoc, arith, Bool, codes, cond, Contains, drop, false}
pub use Rattle.std.proofs.Common.{get_or, inl, inr, length, length-append, List, map, None, Option, refl, rules, Some}
pub use Rattle.std.proofs.Common.{string_bytes, subst, suc, sym, take, true, zero, ℕ, ◌%◌, ◌++◌, ◌+◌, ◌<◌, ◌∙◌, ◌∷◌}
pub use Rattle.std.proofs.{Common.◌≡◌, Common.◌≢◌, Common.◌≤◌, Common.◌⊎◌, Math.Seq.drop-nil, Math.Seq.take-nil}
pub use Rattle.std.proofs.lemmas.Bool.{cases_Bool, cases_lt, cases_order, true≢false, Decides.not_from_Decides}
pub use Rattle.std.proofs.lemmas.{Fmt.decimal_injective, List.append_cancel_left}
pub use Rattle.std.proofs.lemmas.List.{append_cancel_right, get_or-append-add, length-map, nil_from_length, take_all}
pub use Rattle.std.proofs.lemmas.List.Elements.{All-cons, All-contains, All-nil, All-weaker}
pub use Rattle.std.proofs.lemmas.{List.Kept.AllPairs-cons, List.Sums.sum_by-cons, Option.get_or_from_slice_get}
pub use Rattle.std.proofs.lemmas.{Option.same_Some, Option.slice_get_within, Slice.Eq.bytes_eq-Decides}
pub use Rattle.std.specs.{Fmt.decimal, List.All, List.flat_map}
pub use Rattle.std.specs.Prelude.{AllPairs, count_by, Err, IfOk, IfSome, IsSomeAnd, Ok, Result, slice_get, ⊤}
pub use Rattle.std.specs.Str.{bytes_eq}
