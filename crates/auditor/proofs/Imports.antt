-- What the proofs of this crate take from others.
pub use Rattle.auditor.specs.Audits.{AndThen, FileThen, GivesReport, GivesVerdicts, RulesThen, WithGraph, WithLogs}
pub use Rattle.auditor.specs.{Nodes.nodes_of, Outcomes.is_broken, Outcomes.is_unsettled, PlainRules.PlainRules}
pub use Rattle.auditor.specs.Report.{AuditReport, report_of, report_on}
pub use Rattle.auditor.specs.ReportText.{break_line, entry_words, fork_lines, log_head_line, log_lines, rule_line}
pub use Rattle.auditor.specs.{ReportText.stray_lines, ReportText.verdict_line, Same.SameReport, Same.SameVerdict}
pub use Rattle.auditor.specs.Sources.{GivesRules, in_file, max_rules, rule_files, RuleSource, source_of, source_word}
pub use Rattle.auditor.specs.{Sources.standard, declared.auditing.Begun.Begun, inside.Begun.HasBegun}
pub use Rattle.auditor.specs.inside.{Begun.HasRules, Begun.WithRoster, Begun.WithRules, Places.IsBelow}
pub use Rattle.entry_format.specs.Nodes.{node_of, node_of_sealed}
pub use Rattle.entry_format.specs.{Plains.plain_of, Plains.plains, SealedEntry.SealedEntry, Unsealing.IsValid}
pub use Rattle.entry_format.specs.declared.{entry.Entry.Entry, plain.Plain.Plain}
pub use Rattle.entry_graph.proofs.DistinctFacts.{distinct_given}
pub use Rattle.entry_graph.specs.EntryGraph.{AreForks, EntryGraph, IsLower}
pub use Rattle.entry_order.proofs.Images.{at_image, same_graph}
pub use Rattle.entry_order.specs.{Ancestors.before, Ancestors.is_whole, Node.Node, declared.three.Three.Three}
pub use Rattle.evidence.proofs.{FilesRead.not_read, FilesRead.was_read, OnReads.Contents, OnReads.on_weaker}
pub use Rattle.evidence.proofs.{OnReads.one_first, OnReads.some_as_read, Readings.of_refusal, Readings.stands}
pub use Rattle.evidence.proofs.Steps.{on_refusal, read_ends, read_last, read_then, refused_by}
pub use Rattle.evidence.specs.{Graphs.entries_of, Graphs.entries_of_records, Graphs.GivesGraph, Logs.GivesLogs}
pub use Rattle.evidence.specs.{NamedFiles.OnOneFile, OneAnswer.EntriesGiveOneGraph, OneAnswer.LogFilesGiveOneAnswer}
pub use Rattle.evidence.specs.{OneAnswer.RosterFilesGiveOneAnswer, Reading.IsReadFrom, Reading.IsReadFromFile}
pub use Rattle.evidence.specs.Refusal.{IsAbsent, Refusal, refusal_of, refused, too_long}
pub use Rattle.evidence.specs.{RosterFile.GivesRoster, Same.Agree, declared.fault.InputFault.InputFault}
pub use Rattle.evidence.specs.declared.{fault.InputFault.TheVariants.ReadFault, roster_file.RosterRead.RosterRead}
pub use Rattle.hall_outside.specs.{ReadFile.IsFileRefused, declared.stores.Store.Ghosts as StoreGhosts}
pub use Rattle.hex.specs.Hex.{encode_lower}
pub use Rattle.log_files.proofs.ValidEntries.{log_is_valid}
pub use Rattle.log_files.specs.Lines.{end_line, line, refused_lines}
pub use Rattle.log_files.specs.{LogFile.IsSealedLogOf, Logs.LogRead, declared.sealed_log.Kept.Kept}
pub use Rattle.precedence.specs.Graph.{Graph}
pub use Rattle.roster.specs.declared.post.Post.{Post}
pub use Rattle.rule_engine.proofs.OneByOne.{judged_is_narrow}
pub use Rattle.rule_engine.specs.Judged.{AreJudged, IsFirstTooWide}
pub use Rattle.rule_engine.specs.Verdicts.{and_then, broken, broken_by, first_false, IsJudged, IsVerdict}
pub use Rattle.rule_engine.specs.declared.verdict.Verdict.{Verdict, TheVariants.Broken, TheVariants.Unsettled}
pub use Rattle.rule_language.specs.{Forms.rule_tree, Reading.Reads, Standard.standard_rules}
pub use Rattle.rule_language.specs.Trees.{no_trees, RuleTree, tree_then, Trees}
pub use Rattle.rule_language.specs.declared.faults.RuleFault.{RuleFault, TheVariants.At}
pub use Rattle.rule_language.specs.declared.{form.Form.Form, formula.Rule.Rule, row.Row.Row}
pub use Rattle.rule_meaning.proofs.Sounds.{rules_are_settled}
pub use Rattle.rule_meaning.specs.{Kleene.is_false, Meaning.bind, Meaning.unbound, Sound.HasNoDouble, Tests.has_kind}
pub use Rattle.rule_meaning.specs.Values.{first_value, values}
pub use Rattle.std.proofs.Common.{[], ap, append-nil, append_assoc, arith, Bool, cond, false, get_or, inl, inr, length}
pub use Rattle.std.proofs.Common.{List, map, None, Option, refl, Some, string_bytes, subst, suc, sym, take, true, zero}
pub use Rattle.std.proofs.Common.{ℕ, ◌++◌, ◌+◌, ◌<◌, ◌∙◌, ◌∷◌, ◌≡◌, ◌≤◌}
pub use Rattle.std.proofs.lemmas.{Bool.cases_order, Grind.flat_map-append, List.get_or-map}
pub use Rattle.std.proofs.lemmas.List.{length-map, take_all, take_more, Elements.All-append, Elements.All-contains}
pub use Rattle.std.proofs.lemmas.List.Elements.{All-from_recursion, All-map, All-nil, All-weaker, Contains-get_or}
pub use Rattle.std.proofs.lemmas.{Map.Text.is_eq-slice_cmp, Option.get_or_from_slice_get, Option.slice_get_within}
pub use Rattle.std.proofs.lemmas.{Result.IfErr-weaker, Result.IfOk-weaker, Slice.Eq.bytes_eq-Decides}
pub use Rattle.std.proofs.lemmas.Slice.Zip.{AllZip-long, get_or-zip, length-zip}
pub use Rattle.std.specs.List.{AllByRecursion as ByRecursion, AllPairs, AllZip, flat_map, list_any, range_with_len, zip}
pub use Rattle.std.specs.Prelude.{All, codes, Err, find, IfErr, IfOk, IfSome, Ok, Result, slice_get, ◌&&◌, ◌≢◌}
pub use Rattle.survivor_rows.specs.Rows.{HaveMakers, row_of}
