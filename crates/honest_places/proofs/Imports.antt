-- What the proofs of this crate take from others.
pub use Rattle.auditor.specs.ReportText.{break_line, fork_lines, stray_lines}
pub use Rattle.auditor.specs.Sources.{GivesRules, in_file, RuleSource, source_word, standard}
pub use Rattle.auditor.specs.inside.Begun.{WithRoster, WithRules}
pub use Rattle.auditor.specs.{Nodes.nodes_of, Outcomes.is_broken, Report.AuditReport, Report.report_on}
pub use Rattle.canonical_sexp.proofs.Unique.{one_tree}
pub use Rattle.canonical_sexp.specs.Text.{atom_text, Fits, IsProperPrefixOfText, text_of, texts_of}
pub use Rattle.canonical_sexp.specs.{declared.read.Why.Why, declared.sexp.Sexp.TheVariants.Atom, Sexp.forest_of}
pub use Rattle.deed_history.specs.{Deeds.Authorises, Deeds.Ends, Deeds.Overrides, Held.HoldsOwn, Held.HoldsSome}
pub use Rattle.election_script.specs.Lawful.{IsCast, IsDeedAmong, IsLawful, max_actions}
pub use Rattle.election_script.specs.{declared.script.Cast0.Cast0, declared.script.Script.Script}
pub use Rattle.entangled_log.proofs.Whole.{whole_or_not}
pub use Rattle.entry_format.proofs.{Keys.signature_small, Keys.signature_some, Limits.members_in, Limits.signed_fits}
pub use Rattle.entry_format.proofs.{Taken.version_small, Unsealings.one_unsealing}
pub use Rattle.entry_format.specs.EntryText.{body_tree, deed_tree, how_rest, IsDeed, IsDeedIn, IsDigest, IsEntry}
pub use Rattle.entry_format.specs.Unsealing.{IsValid, key_at, Unseals}
pub use Rattle.entry_format.specs.declared.deed.Deed.TheVariants.{Activate, Authorise, Cancel, Closed, Opened, Override}
pub use Rattle.entry_format.specs.{declared.deed.Deed.Deed, declared.deed.How.How, declared.entry.Entry.Entry}
pub use Rattle.entry_format.specs.{declared.plain.EntryFault.EntryFault, declared.plain.Plain.Plain, Deeds.IsDeedOf}
pub use Rattle.entry_format.specs.{EntryText.IsVersion, EntryText.signed_tree, Nodes.node_of, Nodes.node_of_sealed}
pub use Rattle.entry_format.specs.{Plains.plain_of, Plains.plains, SealedEntry.SealedEntry}
pub use Rattle.entry_graph.specs.EntryGraph.{EntryGraph, IsEntryGraph, IsGraphOfGiven, parents_of, ragged_of}
pub use Rattle.entry_graph.specs.declared.fault.GraphFault.{GraphFault}
pub use Rattle.entry_graph.specs.declared.fault.GraphFault.TheVariants.{Collision, Memory, TooMany}
pub use Rattle.entry_graph.specs.{Answers.IsGraphAnswer, Given.distinct, Given.HasNoCollision}
pub use Rattle.entry_order.proofs.Histories.{new_from_may, nth_split, sent-append, split_two}
pub use Rattle.entry_order.proofs.Honest.{honest_entries_agree_in_orderly_worlds, no_fork, none_inside}
pub use Rattle.entry_order.proofs.Lists.{Contains-at, Contains-cons_cases, Contains-filter, Contains-filter_cases}
pub use Rattle.entry_order.proofs.Lists.{Contains-flat_map, Contains-flat_map_cases, Contains-head, Contains-later}
pub use Rattle.entry_order.proofs.Lists.{Contains-map, Contains-map_cases, Contains-middle, Contains-one, list_any_of}
pub use Rattle.entry_order.proofs.Orders.{held_rises, held_was_sent, member_split, named_held, next_of, one_order}
pub use Rattle.entry_order.proofs.Places.{all_at, all_from_places, element_at, member_at, place_of}
pub use Rattle.entry_order.proofs.{Apart.DigestsDiffer, Apart.few_among, Apart.sum_among}
pub use Rattle.entry_order.proofs.{Ascending.length-insert_digest, Completions.before_in_completion}
pub use Rattle.entry_order.proofs.{FewStamps.stamps_are_few, Frontiers.frontier_entry, Frontiers.frontier_push}
pub use Rattle.entry_order.proofs.{Images.order_back, Lists.list_any_some, Machines.in_world, Machines.length_play}
pub use Rattle.entry_order.proofs.{Machines.length_start, MadePlays.plays_are_made, Naming.names_digest_of}
pub use Rattle.entry_order.proofs.{Orders.sent_in_cases, Orders.sent_in_from, Orders.was_sent, Paths.precedes_over}
pub use Rattle.entry_order.proofs.{Plays.IsOrderly-play, Plays.IsOrderly-start, Strays.survivors_are_no_strays}
pub use Rattle.entry_order.specs.History.{entry_of, greatest_stamp, held, IsLegal, IsNext, MayFollow, sent}
pub use Rattle.entry_order.specs.Naming.{Distinct, is_named, names_digest}
pub use Rattle.entry_order.specs.World.{history, history_of, IsLegalNext, Machine, sent_in, start, World}
pub use Rattle.entry_order.specs.declared.event.Event.TheVariants.{Got, Sent}
pub use Rattle.entry_order.specs.{Ascending.insert_digest, Ascending.IsAscending, declared.event.Event.Event}
pub use Rattle.entry_order.specs.{declared.step.Step.Step, declared.three.Three.Three, Frontier.frontier}
pub use Rattle.entry_order.specs.{HeldBefore.HeldBefore, HeldBefore.WasSentAfter, Honest.AgreesWith, Node.Node}
pub use Rattle.entry_order.specs.{Precedes.IsPath, Precedes.Precedes, Receipt.IsOrderly, Survivors.IsStray}
pub use Rattle.evidence.specs.RosterFile.{GivesRoster, max_roster, roster_read}
pub use Rattle.evidence.specs.{declared.roster_file.RosterRead.RosterRead, Graphs.entries_of, Graphs.entries_of_records}
pub use Rattle.evidence.specs.{Graphs.GivesGraph, Logs.GivesLogs, Logs.IsLogRefusal, Refusal.Refusal, Refusal.refused}
pub use Rattle.honest_places.specs.Agreement.{HaveAll, IsAllGiven, IsAllTold, IsHonestGraph, IsHonestlyGiven}
pub use Rattle.honest_places.specs.Honest.{HonestyIsOfHistories, IsHonest, MayAs, role_at}
pub use Rattle.honest_places.specs.LeftFiles.{AreAllFilesOf, AreFilesOf, AreReadOf, IsReadOf, written_logs}
pub use Rattle.honest_places.specs.Places.{AreWholeFilesOf, files_read, IsRosterOf, IsWholeIn}
pub use Rattle.honest_places.specs.ReportsKept.{EndClean, SaysAllKept, SaysNoneBroken}
pub use Rattle.honest_places.specs.RulesKept.{HonestEntriesHaveNoEarlyEnd, HonestEntriesKeepTheRules, WereSentIn}
pub use Rattle.honest_places.specs.WhatIsLeft.{AreLeftOf, AreReadIn, end_of, IsCutAt, IsLeftIn, IsLeftOf, IsPrefixRead}
pub use Rattle.honest_places.specs.WhatIsLeft.{IsReadIn, IsUnbrokenLog, IsWholeRead, StandWhole}
pub use Rattle.honest_places.specs.{HonestReading.IsHonestlyRead, HonestWorld.IsHonestWorld, Named.count_named}
pub use Rattle.honest_places.specs.{OfScript.IsOfScript, Refusals.IsHonestRefusal, Reports.IsHonestReport}
pub use Rattle.item_list.specs.Causes.{IsFirstOf}
pub use Rattle.lms_sign.proofs.{Heights.leaves_of, Signatures.index-signed, Signatures.signed_signs}
pub use Rattle.lms_sign.specs.{Height.IsHeight, Secret.public_of, Secret.signed_by, Signs.Signs}
pub use Rattle.log_files.proofs.{Headers.header_fits, KeptRecords.held_kept, OneBreak.breaks_once, OneLog.one_said}
pub use Rattle.log_files.proofs.{SealedLogs.kept_with, SealedLogs.one_sealed, WrittenLogs.text_more}
pub use Rattle.log_files.specs.LogText.{AreLog, EachGives, Gives, HasHeader, header_tree, IsEnd, kept_of, refused_of}
pub use Rattle.log_files.specs.SealedLog.{BreaksAt, event_of, IsReadSealed, SaysSealed}
pub use Rattle.log_files.specs.declared.plain_log.End.TheVariants.{Clean, Malformed, Torn}
pub use Rattle.log_files.specs.{declared.plain_log.End.End, declared.sealed_log.Kept.Kept, Lines.refused_lines}
pub use Rattle.log_files.specs.{LogFile.max_bytes, Logs.LogRead, Written.log_text, Written.record_text}
pub use Rattle.polling_world.proofs.Histories.{few_in_frontier, frontier_rises}
pub use Rattle.polling_world.proofs.Rosters.{election_is, key_in_roster, length-id, roster_has_text}
pub use Rattle.polling_world.proofs.{MadeEntries.entry-made, MadeEntries.may_follow, Placing.history_there}
pub use Rattle.polling_world.specs.Configs.{Config, config_of, script_configs}
pub use Rattle.polling_world.specs.Rules.{entries_in, IsWholeHistory, RoleRefuses}
pub use Rattle.polling_world.specs.Worlds.{IsNextAt, IsNextOf, machine_of, TellsNext, world_of}
pub use Rattle.polling_world.specs.{Keys.post_of, Keys.roster_of, Machines.MachineState, Making.entry_with}
pub use Rattle.polling_world.specs.{Playing.ComesTo, Playing.IsPlayed, Sending.MaySend}
pub use Rattle.report_exactness.proofs.Reports.{reports_are_exact}
pub use Rattle.report_exactness.specs.ReportExact.{IsOpenFor, MayBeEither, rows_of}
pub use Rattle.roster.proofs.{Fits.roster_fits, One.one_reading}
pub use Rattle.roster.specs.Machines.{HaveText, is_supervisor, IsName, max_machines}
pub use Rattle.roster.specs.RosterText.{HasKey, post_tree, role_word, roster_tree}
pub use Rattle.roster.specs.declared.post.Role.TheVariants.{Booth, Supervisor}
pub use Rattle.roster.specs.{declared.post.Post.Post, declared.post.Role.Role}
pub use Rattle.rule_engine.specs.Judged.{AreJudged, IsFirstTooWide}
pub use Rattle.rule_engine.specs.{declared.verdict.Verdict.Verdict, Verdicts.IsJudged}
pub use Rattle.rule_exactness.specs.Exact.{NoEarlyEnd}
pub use Rattle.rule_language.specs.{declared.kind.Kind.Kind, declared.row.Row.Row, Standard.p3_body}
pub use Rattle.rule_language.specs.{Standard.standard_rules, Trees.RuleTree, Trees.tree_then, Trees.Trees}
pub use Rattle.rule_meaning.proofs.{Sounds.rules_are_settled, Unknowns.unknown_only_by_gaps}
pub use Rattle.rule_meaning.specs.Tests.{has_kind, is_kind, is_role}
pub use Rattle.rule_meaning.specs.Widths.{count_of_rows, is_too_wide, quantified_kind, widens_by}
pub use Rattle.rule_meaning.specs.{Meaning.Holds, Meaning.SomeHolds, Sound.HasNoDouble, Values.three_in}
pub use Rattle.sha2.proofs.Facts256.{length-sha256}
pub use Rattle.sha2.specs.Sha256.{sha256}
pub use Rattle.std.proofs.Common.{[], All, Any, ap, append-nil, append_assoc, arith, Bool, bytes_eq, codes, cond}
pub use Rattle.std.proofs.Common.{Contains, count_by, Decides, decimal, drop, eq-eqb, eqb-true, Err, false, filter}
pub use Rattle.std.proofs.Common.{flat_map, get_or, get_or-take, if◌then◌else◌, inl, inr, is_some, IsOkAnd, IsSomeAnd}
pub use Rattle.std.proofs.Common.{IsTrue, le-ltb, length, length-append, length-drop, length-take, List, ltb-false, map}
pub use Rattle.std.proofs.Common.{mul-le-mul_left, mul-le-mul_right, nat_lt, None, not, Ok, Option, option_map, refl}
pub use Rattle.std.proofs.Common.{Result, rules, slice_get, Some, subst, suc, sum_by, sym, take, take-append-drop}
pub use Rattle.std.proofs.Common.{take-take, take_all, true, true≢false, zero, ℕ, ◌&&◌, ◌*◌, ◌++◌, ◌+◌, ◌-◌, ◌<◌, ◌==◌}
pub use Rattle.std.proofs.Common.{◌^◌, ◌||◌, ◌↔◌, ◌∙◌, ◌∷◌, ◌≡◌, ◌≢◌, ◌≤◌, ◌⊎◌}
pub use Rattle.std.proofs.lemmas.Bool.{and_from, cases_lt, not_from_true, or_from, or_parts, true_from_ne_false}
pub use Rattle.std.proofs.lemmas.List.{length-map, map-append, take-append-le}
pub use Rattle.std.proofs.lemmas.List.Elements.{All-contains, All-contains_itself, All-from_recursion, All-get_or}
pub use Rattle.std.proofs.lemmas.List.Elements.{All-head, All-map, All-tail, All-take, Contains-append_left}
pub use Rattle.std.proofs.lemmas.List.Sums.{count_by-le-length, get_or-le-sum_by, length-filter, sum_by-append}
pub use Rattle.std.proofs.lemmas.List.Sums.{sum_by-cons, sum_by-take-le, sum_by_more_le}
pub use Rattle.std.proofs.lemmas.Option.{get_or_from_slice_get, slice_get-get_or, slice_get-map, slice_get_within}
pub use Rattle.std.proofs.lemmas.Slice.Zip.{AllZip-long, AllZip-map}
pub use Rattle.std.proofs.{lemmas.Fmt.length-decimal-le, lemmas.List.Concat.length-flat_map, lemmas.List.Folds.fold-map}
pub use Rattle.std.proofs.{lemmas.Nat.mul-le, lemmas.Slice.Eq.bytes_eq-Decides, Math.Seq.take-append-add}
pub use Rattle.std.specs.List.{AllByRecursion, AllZip, enumerate_from, list_any}
pub use Rattle.survivor_rows.specs.Rows.{ballot_of, booth_of, kind_of, role_in, row_of, row_said, session_of}
unfoldable pub use Rattle.polling_world.specs.Making.{election_of, made}
