-- What the proofs of this crate take from others.
pub use Rattle.entry_order.proofs.Lists.{Contains-cons_cases, Contains-filter, Contains-filter_cases, Contains-head}
pub use Rattle.entry_order.proofs.Lists.{Contains-later, Contains-none, list_any_of}
pub use Rattle.entry_order.specs.{Ancestors.before, Ancestors.is_whole, declared.three.Three.Three}
pub use Rattle.entry_order.specs.declared.three.Three.TheVariants.{False, True, Unknown}
pub use Rattle.precedence.specs.Graph.{Graph}
pub use Rattle.precedence.specs.Known.{IsKnownOf, Known, known_before, known_count, known_whole}
pub use Rattle.rule_engine.specs.{Growth.ComesBeforeNone, Growth.Ready, Judged.AreJudged, Judged.IsFirstTooWide}
pub use Rattle.rule_engine.specs.Verdicts.{and_then, broken, first_false, IsJudgeAnswer, IsJudged}
pub use Rattle.rule_engine.specs.declared.index.{Found.Found, Index.Index, Key.Key, Key.TheVariants.Entry}
pub use Rattle.rule_engine.specs.declared.index.{Key.TheVariants.Session, Kinds.Kinds}
pub use Rattle.rule_engine.specs.declared.verdict.JudgeFault.{JudgeFault, TheVariants.Memory, TheVariants.TooWide}
pub use Rattle.rule_engine.specs.declared.verdict.Verdict.{Verdict, TheVariants.Broken, TheVariants.Kept}
pub use Rattle.rule_engine.specs.{declared.verdict.Verdict.TheVariants.Unsettled, inside.Growth.value_said}
pub use Rattle.rule_engine.specs.inside.Index.{AreKindsOf, ArePlacesOf, ArePlacesOfKind, breadth, entry_group, found_at}
pub use Rattle.rule_engine.specs.inside.Index.{group_in, IsEachEmpty, IsIndexBy, IsStart, least_of, number_in, rank}
pub use Rattle.rule_engine.specs.inside.Reach.{is_of, kind_of_all, reaches_row}
pub use Rattle.rule_language.proofs.Views.{shape, view-Implies}
pub use Rattle.rule_language.specs.Forms.{in_front, rule_tree, tree_of, trees_of}
pub use Rattle.rule_language.specs.{Kinds.entry_kinds, Kinds.kind_named, Kinds.kind_word, Trees.no_trees}
pub use Rattle.rule_language.specs.{Trees.RuleTree, Trees.tree_then, Trees.Trees, declared.form.Form.Form}
pub use Rattle.rule_language.specs.declared.formula.Formula.{ForEvery, Formula, Implies, the_lemmas}
pub use Rattle.rule_language.specs.declared.{formula.Rule.Rule, kind.Kind.Kind, row.Row.Row}
pub use Rattle.rule_meaning.proofs.Judges.{both_assoc, both_true, value-And, value-Equal, value-ForEvery, value-Implies}
pub use Rattle.rule_meaning.proofs.{Judges.value-Or, SameOrders.AreRows, SameOrders.one_more, SameOrders.row_of_kind}
pub use Rattle.rule_meaning.proofs.{SameOrders.same_values, Sounds.true_is}
pub use Rattle.rule_meaning.proofs.Visits.{both_false, no_rest, other_at, range_has, settled_at, step_with, stop_with}
pub use Rattle.rule_meaning.specs.Judging.{over_from, over_rows, signed, value_of}
pub use Rattle.rule_meaning.specs.Kleene.{as_three, both, either, greatest, is_false, is_true, least, opposite}
pub use Rattle.rule_meaning.specs.{Meaning.bind, Meaning.unbound, Scopes.env_of, Tests.has_kind, Tests.is_kind}
pub use Rattle.rule_meaning.specs.{Tests.passes, Values.ancestors, Values.first_value}
pub use Rattle.rule_meaning.specs.Values.{places, rest_of, row_at, second_value, three, value, values, values_before}
pub use Rattle.rule_meaning.specs.{Visited.IsVisitedFor, Widths.is_too_wide, declared.quantifier.Quantifier.Quantifier}
pub use Rattle.std.proofs.Common.{[], ap, append_assoc, arith, Bool, Box, cond, drop, false, get_or, get_or-set_other}
pub use Rattle.std.proofs.Common.{Global, inl, inr, length, List, ltb, ltb-false, ltb-true, map, None, not, Option}
pub use Rattle.std.proofs.Common.{refl, rules, set, Some, subst, suc, sym, take, true, Vec, zero, ℕ, ◌++◌, ◌+◌, ◌-◌}
pub use Rattle.std.proofs.Common.{◌<◌, ◌∙◌, ◌∷◌, ◌≡◌, ◌≢◌, ◌≤◌}
pub use Rattle.std.proofs.Math.{Bool.and-true, Bool.or-false, ListN.length-set}
pub use Rattle.std.proofs.lemmas.Bool.{and_from, and_left, and_parts, and_right, cases_Bool, cases_eq, cases_lt, eq-eqb}
pub use Rattle.std.proofs.lemmas.Bool.{eqb-true, false_from_ne_true, false≢true, ne_eqb, or_parts, true≢false}
pub use Rattle.std.proofs.lemmas.List.{append-nil, drop_more, get_or-drop, get_or-map, get_or-set_same, get_or-take}
pub use Rattle.std.proofs.lemmas.List.{length-drop, length-map, length-take-le, map-append, map-set, map_more, take-map}
pub use Rattle.std.proofs.lemmas.List.{take_all, take_rest, Elements.Contains-append_left}
pub use Rattle.std.proofs.lemmas.List.Elements.{Contains-get_or, Contains-push, Contains-push_cases, filter-append}
pub use Rattle.std.proofs.lemmas.List.FromFn.{get_or-range_with_len, length-range_with_len}
pub use Rattle.std.proofs.lemmas.List.Sorted.{Contains-permutation, IsNonDecreasingBy-from_sort_by_key}
pub use Rattle.std.proofs.lemmas.List.Sorted.{IsPartitionedBy-ltb, IsPartitionPoint-from_clause, IsPermutation-sym}
pub use Rattle.std.proofs.lemmas.Option.{get_or_from_slice_get, same_Some, slice_get-get_or, slice_get-map}
pub use Rattle.std.proofs.lemmas.Option.{slice_get_read, slice_get_within}
pub use Rattle.std.proofs.lemmas.Slice.{Eq.bytes_eq-Decides, Zip.all_zipped_more}
pub use Rattle.std.specs.List.{Contains, filter, list_any, range_with_len}
pub use Rattle.std.specs.List.Sorted.{IsNonDecreasing, IsNonDecreasingBy, IsPermutation}
pub use Rattle.std.specs.Prelude.{Err, find, IfSome, Ok, option_map, Result, slice_get, ◌&&◌, ◌==◌, ◌||◌}
pub use mathlib.Core.Path.{fun_ext}
