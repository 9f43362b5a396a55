-- What the proofs of this crate take from others.
pub use Rattle.entry_format.specs.{Nodes.node_of_sealed, SealedEntry.SealedEntry}
pub use Rattle.entry_graph.proofs.DistinctFacts.{distinct_again, distinct_new}
pub use Rattle.entry_graph.specs.EntryGraph.{AreForks, EntryGraph, IsGraphOfGiven, IsLower, pair_cmp}
pub use Rattle.entry_graph.specs.Given.{distinct, HasNoCollision, IsCollision}
pub use Rattle.entry_graph.specs.declared.fault.GraphFault.TheVariants.{Collision, TooMany}
pub use Rattle.entry_graph.specs.{Answers.IsGraphAnswer, declared.fault.GraphFault.GraphFault}
pub use Rattle.entry_order.proofs.Lists.{Contains-cons_cases, Contains-filter_cases, Contains-middle, Contains-none}
pub use Rattle.entry_order.proofs.{Ascending.same_ascending, Comparisons.not_both, Histories.last_or_earlier}
pub use Rattle.entry_order.proofs.{Naming.has_digest_from, Naming.has_digest_of, Rising.Rises, Rising.same_rising}
pub use Rattle.entry_order.specs.Survivors.{survivors, SurvivorsAreNoStrays, SurvivorsHaveNoCycle}
pub use Rattle.entry_order.specs.{Naming.Distinct, Naming.has_digest, Node.Node, Precedes.IsPath, Precedes.Precedes}
pub use Rattle.evidence.specs.Graphs.{entries_of, entries_of_records, GivesGraph, graph_refusal, IsSealedGraph}
pub use Rattle.evidence.specs.Logs.{GivesLogs, IsLogRefusal, log_refusal}
pub use Rattle.evidence.specs.NamedFiles.{AreAsRead, AreRead, FileRead, OnAllRead, OnExposed, OnOneFile, OnRead}
pub use Rattle.evidence.specs.Refusal.{absent, IsAbsent, IsFaultOf, IsFileFault, Refusal, refusal_of, refused, too_long}
pub use Rattle.evidence.specs.declared.fault.InputFault.TheVariants.{Absent, Memory, ReadFault, Refused}
pub use Rattle.evidence.specs.inside.Copies.{IsRepeat, StandFor, text_of_sealed}
pub use Rattle.evidence.specs.{declared.fault.InputFault.InputFault, declared.roster_file.RosterRead.RosterRead}
pub use Rattle.evidence.specs.{inside.Faults.IsGraphFault, inside.Faults.IsLogFault, Reading.IsReadFrom}
pub use Rattle.evidence.specs.{Reading.IsReadFromFile, RosterFile.GivesRoster, RosterFile.max_roster}
pub use Rattle.hall_outside.proofs.ReadFiles.{found_file}
pub use Rattle.hall_outside.specs.ReadFile.{IsFileRefused, IsRead, OnReadFile}
pub use Rattle.hall_outside.specs.{Counts.ComesExactly, Counts.HasCause, declared.reading.FileFault.FileFault}
pub use Rattle.hall_outside.specs.{declared.stores.Store.Ghosts as StoreGhosts, Files.Files}
pub use Rattle.log_files.specs.LogFile.{IsLogRefused, IsSealedLogOf, max_bytes}
pub use Rattle.log_files.specs.SealedLog.{AreValid, SaysSealed}
pub use Rattle.log_files.specs.{declared.plain_log.LogFault.LogFault, Logs.LogRead, LogText.HasHeader}
pub use Rattle.roster.specs.declared.post.Post.{Post}
pub use Rattle.std.proofs.Common.{[], ap, append-nil, append_assoc, arith, drop, get_or, Global, inl, inr, length}
pub use Rattle.std.proofs.Common.{length-append, List, map, None, not, Option, refl, rules, Some, String, string_bytes}
pub use Rattle.std.proofs.Common.{subst, suc, sym, take, zero, ℕ, ◌++◌, ◌+◌, ◌<◌, ◌∙◌, ◌∷◌, ◌≡◌, ◌≢◌, ◌≤◌, ◌⊎◌}
pub use Rattle.std.proofs.lemmas.List.{drop_more, length-map, map-append, nil_from_length, take-append-drop, take_all}
pub use Rattle.std.proofs.lemmas.List.{take_more}
pub use Rattle.std.proofs.lemmas.List.Elements.{All-contains, All-from_recursion, All-nil, All-push}
pub use Rattle.std.proofs.lemmas.List.Elements.{Contains-append_left, Contains-push, Contains-push_cases}
pub use Rattle.std.proofs.{lemmas.Bool.cases_Bool, lemmas.Bool.true≢false, lemmas.Cmp.nat_cmp_total}
pub use Rattle.std.proofs.{lemmas.Result.IfErr-weaker, lemmas.Result.IfOk-weaker, lemmas.Slice.Eq.bytes_eq-Decides}
pub use Rattle.std.specs.Prelude.{codes, Err, IfErr, IfOk, IfSome, is_some, IsErrAnd, IsErrOf, Ok, Result, true, ⊤, ◌↔◌}
pub use Rattle.std.specs.{Cmp.IsTotalOrder, Cmp.on_total, Cmp.then_total, declared.cmp.Ordering.Ordering}
pub use Rattle.std.specs.{declared.cmp.Ordering.TheVariants.Greater, declared.cmp.Ordering.TheVariants.Less, List.All}
pub use Rattle.std.specs.{List.AllPairs, List.Contains, List.filter, Ordering.ordering_reverse, Str.bytes_eq}
unfoldable pub use Rattle.std.specs.List.Sorted.{IsStrictlySortedBy}
