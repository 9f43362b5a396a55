-- What the proofs of this crate take from others.
pub use Rattle.audit_proof.proofs.{Canonicals.canonical_full, Trusted.full_proofs_say_all, Trusted.proofs_say_no_more}
pub use Rattle.audit_proof.specs.Answers.{IsCheckAnswer, verdict_of}
pub use Rattle.audit_proof.specs.Canonical.{IsCanonicalProof, IsCanonicalText, OneTextIsCanonical}
pub use Rattle.audit_proof.specs.{KnownBy.three_by, Lines.IsProofOf, Lines.Line, OneReading.TextsAreReadInOneWay}
pub use Rattle.audit_proof.specs.{Reads.IsReadAnswer, Trust.ProofsSayNoMore, declared.fault.CheckFault.CheckFault}
pub use Rattle.audit_proof.specs.declared.fault.ProofFault.{ProofFault, TheVariants.At}
pub use Rattle.audit_proof.specs.declared.fault.Verdict.TheVariants.{Broken, Unsettled}
pub use Rattle.auditor.proofs.Chained.{and_refused, and_then, err_by, file_ends, file_joins, of_one, on_one, rules_end}
pub use Rattle.auditor.proofs.Chained.{rules_then, standard_then}
pub use Rattle.auditor.proofs.Makers.{logs_have_makers, survivors_have_makers}
pub use Rattle.auditor.proofs.OneStep.{agree_equal, first_then_one, graph_then_one, IsOne, logs_then_one, one_rules}
pub use Rattle.auditor.proofs.OneStep.{Ones, roster_then_one, rules_then_one, RulesAreReadInOneWay, steps_agree}
pub use Rattle.auditor.proofs.OneVerdict.{one_place, verdicts_agree}
pub use Rattle.auditor.proofs.{Pieces.pair_more, Pieces.pairs_all, PlainRules.plain_rules}
pub use Rattle.auditor.specs.Audits.{AndThen, FileThen, GivesReport, RulesThen, WithGraph, WithLogs}
pub use Rattle.auditor.specs.{Nodes.nodes_of, OneReport.FilesGiveOneReport, Outcomes.graph_has_finding}
pub use Rattle.auditor.specs.Outcomes.{is_broken, is_unsettled, log_has_finding, outcome_by, outcome_of}
pub use Rattle.auditor.specs.{Report.AuditReport, Report.IsReport, Report.report_on, Same.SameReport, Same.SameVerdict}
pub use Rattle.auditor.specs.Sources.{GivesRules, in_file, RuleSource, source_of, source_word, standard}
pub use Rattle.auditor.specs.{declared.outcome.Outcome.Outcome, inside.Begun.WithRules}
pub use Rattle.command_line.proofs.CommandProofs.{carried_out_as, contains_as, HasOneAnswer, HasStatuses, IsCompleted}
pub use Rattle.command_line.proofs.CommandProofs.{IsOfCommands, of_read, status_is}
pub use Rattle.command_line.proofs.Faults.{found_answered, or_answered, or_refused, refused_answered, refused_or}
pub use Rattle.command_line.proofs.{ReportStatuses.not_absent, SameOr.one_or, SameOr.same_or}
pub use Rattle.command_line.specs.Lines.{absent_answer, Answer, findings_answer, line_answer, OrRefused, refusal_answer}
pub use Rattle.command_line.specs.{Lines.refused_answer, Lines.status_of, Promise.IsAnswerAsRead}
pub use Rattle.command_line.specs.Reports.{IsCarriedOut, IsOfReport, source_named, status_by}
pub use Rattle.command_line.specs.declared.status.Status.{Status, TheVariants.Done}
pub use Rattle.demonstration.proofs.OneShown.{one_count, same_count}
pub use Rattle.demonstration.specs.Shown.{is_kept}
pub use Rattle.election_script.specs.declared.script.Script.{Script}
pub use Rattle.entry_format.proofs.Fillers.{made}
pub use Rattle.entry_format.specs.{Nodes.node_of, Nodes.node_of_sealed, Plains.plain_of, Plains.plains}
pub use Rattle.entry_format.specs.{SealedEntry.SealedEntry, Unsealing.IsValid, declared.plain.Plain.Plain}
pub use Rattle.entry_graph.proofs.DistinctFacts.{distinct_again, distinct_bears, distinct_given, distinct_new}
pub use Rattle.entry_graph.specs.EntryGraph.{EntryGraph, parents_of, ragged_of}
pub use Rattle.entry_graph.specs.Given.{distinct, HasNoCollision}
pub use Rattle.entry_order.proofs.{Completions.paths_are_settled, Filled.completions_exist, Filled.order_is_exact}
pub use Rattle.entry_order.proofs.Images.{completion_seen, order_back, order_seen, whole_back, whole_seen}
pub use Rattle.entry_order.proofs.Lists.{Contains-cons_cases, Contains-flat_map, Contains-flat_map_cases, Contains-head}
pub use Rattle.entry_order.proofs.Lists.{Contains-later, Contains-map, Contains-map_cases, Contains-none}
pub use Rattle.entry_order.proofs.Naming.{has_digest_from, has_digest_of}
pub use Rattle.entry_order.proofs.{Orders.one_order, Orders.stamps_rise, Paths.precedes_over}
pub use Rattle.entry_order.proofs.Places.{element_at, last_at, member_at, one_at, taken_more}
pub use Rattle.entry_order.specs.Ancestors.{before, Descends, is_whole, reaches}
pub use Rattle.entry_order.specs.{Completion.Completion, Exact.AreSurvivors, HeldBefore.HeldBefore, Naming.Distinct}
pub use Rattle.entry_order.specs.{Naming.has_digest, Naming.IsNew, Precedes.Precedes, Receipt.OrderIsReceiptIn}
pub use Rattle.entry_order.specs.Settled.{GraphsAreExact, IsGraphOf, IsWhole}
pub use Rattle.entry_order.specs.{Survivors.gaps, World.sent_in, World.World, declared.three.Three.Three}
pub use Rattle.entry_order.specs.declared.three.Three.TheVariants.{False, True, Unknown}
pub use Rattle.evidence.proofs.FilesRead.{not_read, was_read}
pub use Rattle.evidence.proofs.OnReads.{all_weaker, none_read, on_weaker, one_read, some_as_read}
pub use Rattle.evidence.proofs.Readings.{no_cause, of_refusal, stands}
pub use Rattle.evidence.proofs.Repeats.{same_gives, stand_copied, stand_repeated}
pub use Rattle.evidence.proofs.{Steps.on_refusal, Steps.read_ends, Steps.read_then, Survivors.survivors_distinct}
pub use Rattle.evidence.specs.Graphs.{entries_of, entries_of_records, GivesGraph, IsSealedGraph}
pub use Rattle.evidence.specs.{Logs.GivesLogs, NamedFiles.OnAllRead, NamedFiles.OnOneFile, NamedFiles.OnRead}
pub use Rattle.evidence.specs.OneAnswer.{EntriesGiveOneGraph, LogFilesGiveOneAnswer, NoSurvivorPrecedesItself}
pub use Rattle.evidence.specs.OneAnswer.{RosterFilesGiveOneAnswer, SurvivorsAreDistinct}
pub use Rattle.evidence.specs.Reading.{IsReadFrom, IsReadFromFile}
pub use Rattle.evidence.specs.Refusal.{absent, IsAbsent, IsFaultOf, Refusal, refusal_of, refused, too_long}
pub use Rattle.evidence.specs.{RosterFile.GivesRoster, Same.Agree, declared.fault.InputFault.InputFault}
pub use Rattle.evidence.specs.declared.roster_file.RosterRead.{RosterRead}
pub use Rattle.evidence.specs.inside.Copies.{StandFor, text_of_sealed}
pub use Rattle.hall_outside.proofs.ReadFiles.{read_weaker}
pub use Rattle.hall_outside.specs.ReadFile.{IsFileRefused, OnReadFile}
pub use Rattle.hall_outside.specs.declared.stores.Store.{Ghosts as StoreGhosts}
pub use Rattle.hall_text.specs.Words.{IsDigestText}
pub use Rattle.hex.proofs.HexLemmas.{decode_of-encode_lower, decode_of-same}
pub use Rattle.hex.specs.Hex.{decode_of, encode_lower, IsBytes, lower_digits}
pub use Rattle.honest_places.proofs.AuditLaws.{audits_are_refused_only_so, reports_accuse_nobody}
pub use Rattle.honest_places.proofs.AuditLaws.{reports_leave_rules_open, reports_say_none_broken}
pub use Rattle.honest_places.proofs.AuditLaws.{whole_reports_say_all_kept, whole_reports_show_distinct}
pub use Rattle.honest_places.proofs.Given.{left_agrees}
pub use Rattle.honest_places.proofs.HonestFiles.{script_distinct, script_given, script_not_refused, script_read}
pub use Rattle.honest_places.proofs.{Judged.none_broken, LeftFileFacts.files_are_read, LogScripts.scripts_are_honest}
pub use Rattle.honest_places.proofs.{RosterGiven.read_same, RosterGiven.roster_not_refused, RosterTexts.read_of_script}
pub use Rattle.honest_places.proofs.{RosterTexts.world_of_script, RuleAudits.honest_audits_never_say_broken}
pub use Rattle.honest_places.proofs.RuleScripts.{scripts_are_never_too_wide, scripts_lead_to_honest_places}
pub use Rattle.honest_places.specs.{Honest.IsHonest, HonestReading.IsHonestlyRead, HonestWorld.IsHonestWorld}
pub use Rattle.honest_places.specs.{LeftFiles.AreAllFilesOf, OfScript.IsOfScript, Places.files_read, Places.HasLeft}
pub use Rattle.honest_places.specs.{Refusals.IsHonestRefusal, ReportsKept.SaysAllKept, RulesKept.WereSentIn}
pub use Rattle.input_causes.specs.Causes.{proof_why_word}
pub use Rattle.live_auditor.proofs.{Ends.at_cases, Ends.slice_get_take, OneEntry.same_text, OneSummary.graph_moved}
pub use Rattle.live_auditor.specs.Adding.{Becomes, Collides, IsAddAnswer, IsOfSameAudit, IsTooWideOver}
pub use Rattle.live_auditor.specs.Live.{IsLive, IsOfMachine, LiveState, max_added}
pub use Rattle.live_auditor.specs.Summary.{After, Summary}
pub use Rattle.live_auditor.specs.declared.fresh.Fresh.{Fresh, TheVariants.Known, TheVariants.New}
pub use Rattle.live_auditor.specs.declared.fresh.LiveFault.{LiveFault, TheVariants.TooMany}
pub use Rattle.log_commands.specs.Audit.{audit_parts, Completes, GiveReport, HoldsOf, IsAuditAnswer, IsAuditOf}
pub use Rattle.log_commands.specs.Audit.{IsAuditOver, IsSound}
pub use Rattle.log_commands.specs.Check.{AreChecked, check_answer, check_parts, checked_line, checked_status}
pub use Rattle.log_commands.specs.Check.{CheckReport, GivesCheck, GivesChecked, IsCheckOf, IsCheckOver, verdict_on_all}
pub use Rattle.log_commands.specs.CheckAgrees.{ChecksAgreeWithAudits, ChecksSayNoMore, SaysNoMore, without_entries}
pub use Rattle.log_commands.specs.EntryWords.{by_digest, by_number, EntryName, IsNamedBy, IsNumbered, IsSpelt}
pub use Rattle.log_commands.specs.EntryWords.{MeansEntry, MeansNone}
pub use Rattle.log_commands.specs.Gaps.{gaps_log_lines, gaps_parts, IsGapsAnswer, IsRefusal}
pub use Rattle.log_commands.specs.Honest.{IsExactIn, IsHonestOrder, IsHonestWord, IsOrderOfPlace, IsWordIn}
pub use Rattle.log_commands.specs.HonestAudit.{IsAuditOfPlace, IsAuditOfPlaces}
pub use Rattle.log_commands.specs.{Lines.no_entry, Lines.order_word, Order.ComesFirst, Order.GiveEntries}
pub use Rattle.log_commands.specs.Order.{InEach, IsExact, IsOrderAnswer, IsOrderOver, IsOrderOverLogs, IsOrderUnder}
pub use Rattle.log_commands.specs.{Order.order_parts, ProofFile.GivesProof, ProofFile.max_proof}
pub use Rattle.log_commands.specs.Prove.{GivesMade, GivesText, proof_answer, ProofMade, prove_parts}
pub use Rattle.log_commands.specs.ReportAnswers.{report_answer, report_statuses}
pub use Rattle.log_commands.specs.TwoEntries.{AreWhole, IsBefore, IsOrderAmong, IsOrderOf, IsWordOf}
pub use Rattle.log_commands.specs.Watch.{AreFewDistinct, AreSummaries, Evidence, GivesEvidence, GivesSummaries}
pub use Rattle.log_commands.specs.Watch.{GivesWatch, IsNarrowOver, IsTooWideAfter, IsWatchOver, numbers_line}
pub use Rattle.log_commands.specs.Watch.{watch_answer, watch_line, watch_lines, watch_parts, Watches}
pub use Rattle.log_commands.specs.WatchAgrees.{AgreesWithAudit, BreaksNoRule, EndAlike, HonestWatchesBreakNoRule}
pub use Rattle.log_commands.specs.WatchAgrees.{NamedLog, OrdersOfLogsEndAlike, PrintsLast, summary_of}
pub use Rattle.log_commands.specs.{WatchAgrees.WatchesAgreeWithAudits, declared.check.Checked.Checked}
pub use Rattle.log_commands.specs.declared.{check.Unchecked.Unchecked, order_word.OrderWord.OrderWord}
pub use Rattle.log_commands.specs.declared.watch.Unwatched.{Unwatched}
pub use Rattle.log_commands.specs.inside.Checking.{ChecksFiles, ChecksLines, ChecksLogs, ChecksProof, ChecksRules}
pub use Rattle.log_commands.specs.inside.Checking.{IsUnchecked, ProvesFiles, ProvesLogs, report_by}
pub use Rattle.log_commands.specs.inside.EntryNames.{IsFirstDot, IsLowerAt, IsPlaceOf, word_by}
pub use Rattle.log_commands.specs.inside.PlaceFiles.{GivesPlace}
pub use Rattle.log_commands.specs.inside.Watching.{AddsTo, AreLinesOf, evidence_by, evidence_of, first_half, IsUnadded}
pub use Rattle.log_commands.specs.inside.Watching.{IsUnwatched, ReadsLogs, ReadsRules, second_half}
pub use Rattle.log_files.proofs.ValidEntries.{log_is_valid}
pub use Rattle.log_files.specs.LogFile.{IsLogOf, IsLogRefused, IsSealedLogOf, max_bytes}
pub use Rattle.log_files.specs.{LogText.HasHeader, LogText.Says, Logs.LogRead, Logs.PlainLog}
pub use Rattle.log_files.specs.declared.plain_log.LogFault.{LogFault, TheVariants.Header, TheVariants.TooLong}
pub use Rattle.polling_world.specs.{Keys.roster_of, Making.election_of}
pub use Rattle.precedence.specs.Graph.{Graph}
pub use Rattle.report_exactness.proofs.{Given.given, Reports.reports_are_exact}
pub use Rattle.roster.specs.{Machines.IsName, Machines.IsNameByte, declared.post.Post.Post}
pub use Rattle.rule_engine.proofs.OneByOne.{judged_is_narrow}
pub use Rattle.rule_engine.specs.{Judged.AreJudged, Judged.IsFirstTooWide, Verdicts.IsJudged, Verdicts.IsVerdict}
pub use Rattle.rule_engine.specs.declared.verdict.Verdict.{Verdict as AuditVerdict}
pub use Rattle.rule_language.specs.{Forms.rule_tree, Standard.standard_rules, Trees.RuleTree, Trees.Trees}
pub use Rattle.rule_language.specs.declared.{formula.Rule.Rule, row.Row.Row}
pub use Rattle.rule_meaning.proofs.Unknowns.{unknown_only_by_gaps}
pub use Rattle.rule_meaning.specs.{Knowledge.IsLessKnown, Values.three, Values.three_in, Widths.is_too_wide}
pub use Rattle.std.proofs.Common.{[], ap, append-nil, append_assoc, arith, Bool, cond, drop, false, get_or, inl, inr}
pub use Rattle.std.proofs.Common.{length, length-append, length-take, List, map, None, Option, refl, rules, Some}
pub use Rattle.std.proofs.Common.{string_bytes, subst, suc, sym, take, take-append-drop, true, zero, ℕ, ◌%◌, ◌++◌, ◌+◌}
pub use Rattle.std.proofs.Common.{◌/◌, ◌<◌, ◌∙◌, ◌∷◌, ◌≡◌, ◌≢◌, ◌≤◌, ◌⊎◌}
pub use Rattle.std.proofs.lemmas.Bool.{agree_below_at, and_from, and_parts, cases_Bool, cases_order, cond-false}
pub use Rattle.std.proofs.lemmas.Bool.{false≢true, ltb-true, true≢false}
pub use Rattle.std.proofs.lemmas.{Cmp.nat_list_cmp_total, Fmt.decimal_injective, List.append_cancel_right}
pub use Rattle.std.proofs.lemmas.List.{get_or-map, length-map, length-take-le, map-append, map_more, nil_from_length}
pub use Rattle.std.proofs.lemmas.List.{take-map, take-take, take_all, take_rest, Concat.length-flat_map}
pub use Rattle.std.proofs.lemmas.List.Elements.{All-append, All-contains, All-from_recursion, All-map, All-nil}
pub use Rattle.std.proofs.lemmas.List.Elements.{Contains-append_left}
pub use Rattle.std.proofs.lemmas.List.Sorted.{Contains-permutation, IsPermutation-keeps, IsPermutation-map}
pub use Rattle.std.proofs.lemmas.List.Sorted.{IsPermutation-refl, IsPermutation-swap, IsPermutation-sym}
pub use Rattle.std.proofs.lemmas.List.Sorted.{IsPermutation-trans, list_any-IsPermutation, sum_by-IsPermutation}
pub use Rattle.std.proofs.lemmas.{List.Sums.length-filter, Map.Lookups.exact_bytes, Option.get_or_from_slice_get}
pub use Rattle.std.proofs.lemmas.Option.{same_Some, slice_get-get_or, slice_get-map, slice_get_within}
pub use Rattle.std.proofs.lemmas.{Result.IfOk-weaker, Slice.Eq.bytes_eq-Decides}
pub use Rattle.std.proofs.lemmas.Slice.Zip.{all_zipped_more, AllZip-long, AllZip-map}
pub use Rattle.std.specs.{Cmp.Lexicographic.slice_cmp, Fmt.decimal}
pub use Rattle.std.specs.List.{AllZip, Contains, filter, flat_map, list_all, list_any, swap, zip, Sorted.IsPermutation}
pub use Rattle.std.specs.Ordering.{is_lt, nat_cmp, ordering_reverse}
pub use Rattle.std.specs.Prelude.{All, codes, count_by, Err, IfErr, IfOk, IfSome, if◌then◌else◌, IsTrue, nat_lt, not}
pub use Rattle.std.specs.Prelude.{Ok, OnOk, option_map, Result, set, slice_get, slice_index, ◌==◌, ◌||◌, ◌↔◌}
pub use Rattle.std.specs.{Str.bytes_eq, declared.cmp.Ordering.Ordering}
pub use Rattle.std.specs.declared.cmp.Ordering.TheVariants.{Equal, Greater, Less}
pub use Rattle.survivor_rows.specs.Rows.{HaveMakers, row_of, row_said}
pub use borrow.Author.Count.{below_more}
pub use lib.Seq.{map-set}
unfoldable pub use Rattle.hex.specs.Hex.{encode_with}
