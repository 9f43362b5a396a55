-- What the proofs of this crate take from others.
pub use Rattle.auditor.proofs.{Chained.err_by, Makers.logs_have_makers}
pub use Rattle.auditor.specs.{Audits.WithLogs, Outcomes.is_broken, Outcomes.is_unsettled, Report.AuditReport}
pub use Rattle.auditor.specs.{Report.report_of, Report.ReportParts, Same.SameReport, Same.SameVerdict, Sources.standard}
pub use Rattle.canonical_sexp.specs.Text.{text_of}
pub use Rattle.demonstration.specs.Kept.{ends_session, HasNoEnd, IsKeptOf, IsLastEnd}
pub use Rattle.demonstration.specs.Shown.{GivesAudit, is_kept, IsAudited, IsCounted, IsDemonstrationOf, IsRefusedSo}
pub use Rattle.demonstration.specs.{Shown.log_name, declared.shown.Demonstration.Demonstration}
pub use Rattle.election_script.specs.{Lawful.IsLawful, declared.script.Script.Script}
pub use Rattle.entry_format.specs.SealedEntry.{SealedEntry}
pub use Rattle.entry_order.proofs.Places.{all_at, last_at, push_before, push_cases, taken_more}
pub use Rattle.entry_order.specs.{World.history, World.sent_in, declared.event.Event.Event}
pub use Rattle.evidence.proofs.Steps.{on_refusal}
pub use Rattle.evidence.specs.{Logs.IsLogRefusal, Refusal.Refusal, Refusal.refusal_of, Refusal.too_long}
pub use Rattle.evidence.specs.RosterFile.{GivesRoster, max_roster}
pub use Rattle.evidence.specs.{Same.Agree, declared.roster_file.RosterRead.RosterRead}
pub use Rattle.honest_places.proofs.ReadLogs.{left_has_header, whole_is_left}
pub use Rattle.honest_places.proofs.RosterTexts.{script_roster_is_read}
pub use Rattle.honest_places.specs.WhatIsLeft.{end_of, IsLeftOf}
pub use Rattle.log_files.specs.{LogFile.IsSealedLogOf, LogText.HasHeader, LogText.header_tree, Logs.LogRead}
pub use Rattle.log_files.specs.Written.{log_text, record_text}
pub use Rattle.polling_world.proofs.Rosters.{roster_has_text}
pub use Rattle.polling_world.specs.{Keys.roster_of, Machines.MachineState, Playing.IsPlayed}
pub use Rattle.polling_world.specs.{Playing.ScriptsArePlayedInOneWay, Worlds.world_of, Worlds.WorldState}
pub use Rattle.roster.proofs.Fits.{roster_fits}
pub use Rattle.roster.specs.{Machines.HaveText, RosterText.roster_tree, declared.post.Post.Post}
pub use Rattle.rule_engine.specs.declared.verdict.Verdict.{Verdict}
pub use Rattle.rule_engine.specs.declared.verdict.Verdict.TheVariants.{Broken, Kept, Unsettled}
pub use Rattle.rule_language.specs.Standard.{standard_rules}
pub use Rattle.sha2.specs.Sha256.{sha256}
pub use Rattle.std.proofs.Common.{[], ap, arith, Bool, cond, drop, false, get_or, inl, inr, length, length-append, List}
pub use Rattle.std.proofs.Common.{map, MatchOption, None, Option, refl, rules, Some, string_bytes, subst, sym, take}
pub use Rattle.std.proofs.Common.{true, ℕ, ◌*◌, ◌++◌, ◌+◌, ◌-◌, ◌<◌, ◌^◌, ◌∙◌, ◌∷◌, ◌≡◌, ◌≤◌, ◌⊎◌}
pub use Rattle.std.proofs.lemmas.{Bool.cases_lt, Bool.cases_order, Bool.false≢true, Grind.flat_map-append}
pub use Rattle.std.proofs.lemmas.List.{drop_more, length-drop, length-take-le, take-append-drop, take_all}
pub use Rattle.std.proofs.lemmas.List.Elements.{All-append, All-cons, All-nil}
pub use Rattle.std.proofs.lemmas.{Option.get_or_from_slice_get, Option.slice_get_within, Result.IfOk-weaker}
pub use Rattle.std.specs.List.{AllZip, flat_map, fold}
pub use Rattle.std.specs.Prelude.{codes, count_by, Err, IfErr, IfOk, IfSome, Ok, Result, slice_get}
