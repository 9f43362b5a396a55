-- What the proofs of this crate take from others.
pub use Rattle.entry_order.proofs.{Completions.before_among_survivors, Lists.Contains-cons_cases, Lists.Contains-filter}
pub use Rattle.entry_order.proofs.Lists.{Contains-filter_cases, Contains-head, Contains-later, Contains-none}
pub use Rattle.entry_order.proofs.Places.{element_at, member_at, place_of}
pub use Rattle.entry_order.proofs.Settled.{order_is_settled, reaches_from_precedes, whole_from_test, whole_test_from}
pub use Rattle.entry_order.specs.Ancestors.{before, is_whole, reaches}
pub use Rattle.entry_order.specs.{Node.Node, Precedes.Precedes, Settled.IsGraphOf, Settled.IsWhole, Survivors.gaps}
pub use Rattle.entry_order.specs.declared.three.Three.{Three, TheVariants.False, TheVariants.True, TheVariants.Unknown}
pub use Rattle.rule_language.proofs.Views.{shape, view-And, view-Implies, view-Or}
pub use Rattle.rule_language.specs.Forms.{in_front, tree_of, trees_of}
pub use Rattle.rule_language.specs.{Trees.no_trees, Trees.tree_then, Trees.Trees, declared.form.Form.Form}
pub use Rattle.rule_language.specs.declared.formula.Formula.{And, Equal, EveryBefore, ForEvery, Formula, ForSome}
pub use Rattle.rule_language.specs.declared.formula.Formula.{Implies, Or, SomeBefore, the_lemmas}
pub use Rattle.rule_language.specs.declared.{kind.Kind.Kind, row.Row.Row, term.Term.Term}
pub use Rattle.rule_meaning.specs.Judging.{if_meant, is_in, over, over_before, over_from, over_rows, signed}
pub use Rattle.rule_meaning.specs.Judging.{unless_ragged, value_of}
pub use Rattle.rule_meaning.specs.Kleene.{as_three, both, either, greatest, is_false, is_true, least, opposite}
pub use Rattle.rule_meaning.specs.Knowledge.{IsLess, IsLessKnown, IsTrueOf}
pub use Rattle.rule_meaning.specs.Meaning.{bind, ComesBefore, EachHolds, first_sentence, FormHolds, IsOfKind, meanings}
pub use Rattle.rule_meaning.specs.{Meaning.second_sentence, Meaning.SomeHolds, Meaning.unbound, Scopes.env_of}
pub use Rattle.rule_meaning.specs.Sound.{GraphsAreTrue, HasNoDouble, LessIsKnown, RulesAreSettled, UnknownOnlyByGaps}
pub use Rattle.rule_meaning.specs.{Sound.ValuesAreRight, Tests.are_equal, Tests.has_kind, Tests.is_kind, Tests.passes}
pub use Rattle.rule_meaning.specs.{Tests.value_of as term_value, Values.ancestors, Values.first_value, Values.order_of}
pub use Rattle.rule_meaning.specs.Values.{places, row_at, second_value, three, three_in, value, values, values_before}
pub use Rattle.rule_meaning.specs.{Visited.IsVisitedFor, Widths.count_of_rows, Widths.is_too_wide, Widths.widens}
pub use Rattle.rule_meaning.specs.declared.quantifier.Quantifier.{Quantifier}
pub use Rattle.std.proofs.Common.{[], ap, append-nil, arith, Bool, Box, cond, drop, false, get_or, Global, inl, inr}
pub use Rattle.std.proofs.Common.{length, List, map, None, not, Option, refl, rules, Some, subst, suc, sym, take, true}
pub use Rattle.std.proofs.Common.{Vec, zero, ℕ, ◌&&◌, ◌++◌, ◌+◌, ◌-◌, ◌<◌, ◌||◌, ◌∙◌, ◌∷◌, ◌≡◌, ◌≢◌, ◌≤◌, ◌⊎◌}
pub use Rattle.std.proofs.{Math.Bool.and-true, Math.Bool.or-false, lemmas.Bool.cases_eq, lemmas.Bool.eq-eqb}
pub use Rattle.std.proofs.lemmas.{Bool.eqb-true, Bool.false≢true, List.get_or_default, List.length-map}
pub use Rattle.std.proofs.lemmas.List.Elements.{AllWithin-more, Contains-get_or, filter_agree, same_from_all_zip}
pub use Rattle.std.proofs.lemmas.List.FromFn.{get_or-range_with_len, length-range_with_len}
pub use Rattle.std.proofs.lemmas.Option.{slice_get-map, slice_get_cases, slice_get_within}
pub use Rattle.std.specs.List.{AllWithin, AllZip, Contains, filter, range_with_len}
pub use Rattle.std.specs.Prelude.{IsSomeAnd, IsTrue, option_map, slice_get, ◌==◌}
pub use mathlib.Core.Path.{fun_ext}
