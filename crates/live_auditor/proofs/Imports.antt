-- What the proofs of this crate take from others.
pub use Rattle.auditor.proofs.{Makers.survivors_have_makers, OneVerdict.verdicts_agree}
pub use Rattle.auditor.specs.{Nodes.nodes_of, Sources.standard}
pub use Rattle.entry_format.proofs.OneEntry.{one_entry}
pub use Rattle.entry_format.specs.{EntryText.IsSignedText, Nodes.node_of_sealed, SealedEntry.SealedEntry}
pub use Rattle.entry_format.specs.{Sealing.IsSealed, Unsealing.key_at, declared.entry.Entry.Entry}
pub use Rattle.entry_graph.proofs.DistinctFacts.{distinct_bears, distinct_given, distinct_new, filter_drops}
pub use Rattle.entry_graph.proofs.LinkFacts.{found_first, found_none, links_are_right, one_link_each}
pub use Rattle.entry_graph.proofs.Places.{one_place, single_push}
pub use Rattle.entry_graph.specs.EntryGraph.{AreForks, AreStrays, EntryGraph, IsFork, IsGraphOfGiven, IsLower, Links}
pub use Rattle.entry_graph.specs.EntryGraph.{links_by, parents_in, parents_of, place_in, ragged_in, ragged_of}
pub use Rattle.entry_graph.specs.{Given.distinct, inside.Distinct.HasNoDigestTwice}
pub use Rattle.entry_graph.specs.inside.Tables.{ArePlaces, links_of, number_at}
pub use Rattle.entry_order.proofs.Ascending.{ascending_ascending, Contains-ascending, Contains-ascending_cases}
pub use Rattle.entry_order.proofs.{Completions.gaps_are_unique, Honest.none_inside, Images.at_image}
pub use Rattle.entry_order.proofs.Lists.{Contains-cons_cases, Contains-filter, Contains-filter_cases, Contains-head}
pub use Rattle.entry_order.proofs.Lists.{Contains-later, Contains-map, Contains-none, filter_all, list_any_of}
pub use Rattle.entry_order.proofs.Naming.{has_digest_from, has_digest_of, is_among}
pub use Rattle.entry_order.proofs.{Places.member_at, Places.place_of, Places.taken_more, Settled.list_all_each}
pub use Rattle.entry_order.proofs.Strays.{is_stray_from, is_stray_of, stamp_rises}
pub use Rattle.entry_order.specs.{Ancestors.before, Ancestors.is_whole, Ancestors.reaches, Ascending.ascending}
pub use Rattle.entry_order.specs.Naming.{Distinct, has_digest, IsBorneIn, IsNamedIn, IsNew, Names}
pub use Rattle.entry_order.specs.{Node.Node, Survivors.gaps, Survivors.is_stray, Survivors.IsGaps, Survivors.IsStray}
pub use Rattle.entry_order.specs.declared.three.Three.{Three, TheVariants.False, TheVariants.Unknown}
pub use Rattle.evidence.specs.{Graphs.IsSealedGraph, OneAnswer.EntriesGiveOneGraph}
pub use Rattle.live_auditor.specs.{Adding.HasRoomFor, Live.IsLive, Live.IsOfMachine, Live.LiveState}
pub use Rattle.live_auditor.specs.{Same.OrdersGiveOneSummary, declared.late.Tail.Tail, declared.summary.Summed.Summed}
pub use Rattle.live_auditor.specs.inside.Appended.{AreMissing, AreParents, grown, IsAppended}
pub use Rattle.live_auditor.specs.inside.Following.{CanFollow, FollowOf, IsFollowed, IsPushed}
pub use Rattle.live_auditor.specs.inside.Found.{FindsNames, HasOnePlaceEach, IsApartBy, place_among}
pub use Rattle.live_auditor.specs.inside.Grown.{AreJudgedOver, IsGrowth, kept_with}
pub use Rattle.live_auditor.specs.inside.Kept.{AreGiven, IsGraphed, IsSummed, link_to, nodes_by, SurvivorsKept}
pub use Rattle.live_auditor.specs.inside.{KeptOf.kept_of, Stamps.from_stamp, Stamps.lower}
pub use Rattle.precedence.proofs.Steps.{all_below, any_below}
pub use Rattle.precedence.specs.{Graph.Graph, Known.IsKnownOf, Known.Known, Known.known_before, Known.known_whole}
pub use Rattle.roster.specs.declared.post.Post.{Post}
pub use Rattle.rule_engine.proofs.{Graphs.same_answer, Lists.slice_get-take, OneByOne.judged_more}
pub use Rattle.rule_engine.specs.{Growth.ComesBeforeNone, Judged.AreJudged, Judged.IsFirstTooWide, Judged.IsUnjudged}
pub use Rattle.rule_engine.specs.{Verdicts.IsJudgeAnswer, declared.verdict.Verdict.Verdict}
pub use Rattle.rule_language.specs.{Forms.rule_tree, Trees.RuleTree, declared.formula.Rule.Rule, declared.row.Row.Row}
pub use Rattle.rule_meaning.specs.{Kleene.is_true, Widths.is_too_wide}
pub use Rattle.sha2.specs.Sha256.{sha256}
pub use Rattle.std.proofs.Common.{[], ap, append-nil, arith, Bool, cond, drop, false, get_or, inl, inr, length}
pub use Rattle.std.proofs.Common.{length-append, List, map, None, Option, refl, rules, Some, suc, sym, take, true, zero}
pub use Rattle.std.proofs.Common.{ℕ, ◌++◌, ◌+◌, ◌-◌, ◌<◌, ◌∙◌, ◌∷◌, ◌≡◌, ◌≤◌}
pub use Rattle.std.proofs.lemmas.Bool.{cases_Bool, cond_both, false_from_ne_true, le-ltb, ltb-true, ne_eqb, or_from}
pub use Rattle.std.proofs.lemmas.{Bool.true≢false, Bool.Decides.nat_tests, Cmp.nat_list_eq_equiv}
pub use Rattle.std.proofs.lemmas.Iterator.Adapters.{position_from-zero}
pub use Rattle.std.proofs.lemmas.List.{append_assoc, length-map, length-take-le, map_more, map_push, take-append-drop}
pub use Rattle.std.proofs.lemmas.List.{take_all, take_at, take_more, Elements.All-contains}
pub use Rattle.std.proofs.lemmas.List.Elements.{All-filter, All-more, All-nil, All-push, Contains-append_cases}
pub use Rattle.std.proofs.lemmas.List.Elements.{Contains-append_left, Contains-append_right, Contains-get_or}
pub use Rattle.std.proofs.lemmas.List.Elements.{Contains-push, Contains-push_cases, filter_map-append, filter_more}
pub use Rattle.std.proofs.lemmas.List.{Filters.length-filter_both, Folds.list_any_none, Quantifiers.all_pairs_push}
pub use Rattle.std.proofs.lemmas.List.{Quantifiers.position-Some, Sorted.All-permutation, Sorted.Contains-permutation}
pub use Rattle.std.proofs.lemmas.List.Sorted.{IsPermutation-append_right, IsPermutation-filter_both, IsPermutation-sym}
pub use Rattle.std.proofs.lemmas.{List.Sorted.IsPermutation-trans, Map.Keys.IsDistinct-from_apart}
pub use Rattle.std.proofs.lemmas.Option.{get_or_from_slice_get, IfSome_then, slice_get-get_or, slice_get-map}
pub use Rattle.std.proofs.lemmas.{Option.slice_get_read, Option.slice_get_within, Result.IfErr-weaker}
pub use Rattle.std.proofs.lemmas.{Result.IfOk-weaker, Slice.Eq.bytes_eq-Decides, Slice.Zip.AllZip-long}
pub use Rattle.std.specs.List.{AllPairs, cons_option, Contains, filter, filter_map, IsDistinct, list_all, list_any}
pub use Rattle.std.specs.List.{position_from, Sorted.IsPermutation}
pub use Rattle.std.specs.Prelude.{All, Err, IfNone, IfOk, IfSome, is_none, nat_le, nat_lt, not, Ok, Result, slice_get}
pub use Rattle.std.specs.{Prelude.◌&&◌, Prelude.◌==◌, Prelude.◌||◌, Prelude.◌↔◌, Prelude.◌≢◌, Prelude.◌⊎◌, Str.bytes_eq}
pub use Rattle.survivor_rows.specs.Rows.{row_of}
