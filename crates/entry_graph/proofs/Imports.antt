-- What the proofs of this crate take from others.
pub use Rattle.entry_graph.specs.EntryGraph.{AreForks, AreLinks, AreStrays, EntryGraph, IsEntryGraph, IsFork}
pub use Rattle.entry_graph.specs.EntryGraph.{IsGraphOfGiven, IsLower, Links, links_by, pair_cmp, parents_in, parents_of}
pub use Rattle.entry_graph.specs.EntryGraph.{place_in, ragged_in, ragged_of}
pub use Rattle.entry_graph.specs.Given.{distinct, HasNoCollision}
pub use Rattle.entry_graph.specs.inside.{Distinct.HasNoDigestTwice, Distinct.NamesLower, Tables.ArePlaces}
pub use Rattle.entry_graph.specs.inside.Tables.{AreStamps, is_from, IsTableOf, links_of, number_at, with_next}
pub use Rattle.entry_order.proofs.{Comparisons.below, Comparisons.less, Comparisons.level, Completions.gaps_are_unique}
pub use Rattle.entry_order.proofs.Lists.{Contains-at, Contains-cons_cases, Contains-filter, Contains-filter_cases}
pub use Rattle.entry_order.proofs.Lists.{Contains-head, Contains-later, Contains-map, Contains-map_cases, Contains-none}
pub use Rattle.entry_order.proofs.{Lists.list_any_of, Lists.list_any_some, Naming.has_digest_from, Naming.has_digest_of}
pub use Rattle.entry_order.proofs.Places.{last_at, member_at, place_of, push_before, push_cases, taken_more}
pub use Rattle.entry_order.proofs.Strays.{is_stray_from, is_stray_of, stamp_rises, survivors_are_no_strays}
pub use Rattle.entry_order.specs.{Ascending.IsAscending, Naming.has_digest, Naming.IsBorneIn, Naming.Names, Node.Node}
pub use Rattle.entry_order.specs.Settled.{NamesNoGap}
pub use Rattle.entry_order.specs.Survivors.{gaps, is_stray, IsStray, survivors}
pub use Rattle.std.proofs.Common.{[], ap, append-nil, arith, Bool, cond, false, get_or, inl, inr, length, List, map}
pub use Rattle.std.proofs.Common.{map-id, None, not, Option, refl, rules, slice_index_or, Some, subst, suc, sym, take}
pub use Rattle.std.proofs.Common.{true, zero, ℕ, ◌++◌, ◌+◌, ◌<◌, ◌∙◌, ◌∷◌, ◌≡◌, ◌≤◌, ◌⊎◌}
pub use Rattle.std.proofs.{Math.Bool.or-false, lemmas.Bool.and_from, lemmas.Bool.and_parts, lemmas.Bool.cases_Bool}
pub use Rattle.std.proofs.lemmas.Bool.{cases_lt, cases_order, cond-false, cond-true, false_from_ne_true, le-leb}
pub use Rattle.std.proofs.lemmas.Bool.{leb-true, not-false, not_from_false, not_from_true, or_cases, or_left, or_right}
pub use Rattle.std.proofs.lemmas.{Bool.true≢false, Cmp.eq_by_cmp_equiv, Cmp.nat_cmp_total, Cmp.nat_list_cmp_total}
pub use Rattle.std.proofs.lemmas.{Cmp.nat_list_eq_equiv, Fn.always_returns_same, Iterator.Adapters.YieldsList-from_vec}
pub use Rattle.std.proofs.lemmas.Iterator.Consumers.{YieldsList-end}
pub use Rattle.std.proofs.lemmas.List.{append_assoc, get_or-take, get_or_default, length-map, length-take}
pub use Rattle.std.proofs.lemmas.List.{length-take-le, map_push, take_all, Elements.All-contains, Elements.All-filter}
pub use Rattle.std.proofs.lemmas.List.Elements.{All-from_recursion, All-map, Contains-append_left, Contains-get_or}
pub use Rattle.std.proofs.lemmas.List.Elements.{Contains-push, Contains-push_cases, filter-append, filter_map-append}
pub use Rattle.std.proofs.lemmas.List.{Elements.recursion_from_All, Folds.list_any-append, Folds.list_any_more}
pub use Rattle.std.proofs.lemmas.List.Sorted.{Contains-permutation, IsPermutation-map, IsPermutation-sym}
pub use Rattle.std.proofs.lemmas.List.Sorted.{length_permutation, ranks_by, sorted_far}
pub use Rattle.std.proofs.lemmas.Map.Keys.{IsDistinct-cons, IsDistinct-from_apart, IsDistinct-head}
pub use Rattle.std.proofs.lemmas.Map.Keys.{IsDistinct-IsPermutation, IsDistinct-push, IsDistinct-tail, sorted_head}
pub use Rattle.std.proofs.lemmas.Map.{Keys.sorted_tail, Lookups.exact_bytes, Lookups.exact_pairs}
pub use Rattle.std.proofs.lemmas.Map.{Lookups.exact_unsigned, Views.btree_set_contains_iff}
pub use Rattle.std.proofs.lemmas.Option.{get_or_from_slice_get, none-some, same_Some, slice_get-get_or, slice_get-map}
pub use Rattle.std.proofs.lemmas.Option.{slice_get_past, slice_get_read, slice_get_within}
pub use Rattle.std.proofs.lemmas.Slice.Eq.{bytes_eq-Decides}
pub use Rattle.std.specs.{BTreeMap.is_at, BTreeSet.BTreeSet, BTreeSet.contains}
pub use Rattle.std.specs.Cmp.{IsTotalOrder, on_total, then_total, Lexicographic.slice_cmp}
pub use Rattle.std.specs.List.{All, AllPairs, cons_option, Contains, filter, filter_map, IsDistinct, list_any}
pub use Rattle.std.specs.List.{position_from, Sorted.IsPermutation, Sorted.IsSortedByKey, Sorted.IsStrictlySortedBy}
pub use Rattle.std.specs.Ordering.{is_eq, is_lt, nat_cmp, ordering_then}
pub use Rattle.std.specs.Prelude.{Err, IfOk, is_none, Ok, option_map, Result, slice_get, ◌&&◌, ◌||◌, ◌↔◌}
pub use Rattle.std.specs.{Str.bytes_eq, declared.cmp.Ordering.Ordering}
pub use Rattle.std.specs.declared.cmp.Ordering.TheVariants.{Equal, Greater, Less}
