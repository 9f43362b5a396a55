-- What the proofs of this crate take from others and from its definitions.
pub use Rattle.entry_order.proofs.Completions.{before_in_completion, gap_cases, gap_or_bearer, no_later_in_completion}
pub use Rattle.entry_order.proofs.Lists.{Contains-cons_cases, Contains-filter, Contains-filter_cases, Contains-flat_map}
pub use Rattle.entry_order.proofs.Lists.{Contains-flat_map_cases, Contains-head, Contains-later, Contains-map}
pub use Rattle.entry_order.proofs.Lists.{Contains-map_cases, Contains-none, Contains-one, list_any_of, list_any_some}
pub use Rattle.entry_order.proofs.Paths.{is_there, IsNoLater, no_later_on, precedes_on, precedes_over}
pub use Rattle.entry_order.proofs.{Ascending.length-insert_digest, Filled.completes, Naming.is_among, Places.member_at}
pub use Rattle.entry_order.proofs.{Places.place_of, Settled.ancestor_from_reaches, Settled.reaches_from_precedes}
pub use Rattle.entry_order.specs.AcyclicOrder.{IsInPast, MakesAny}
pub use Rattle.entry_order.specs.Ancestors.{before, Descends, is_whole, IsWalk, reaches}
pub use Rattle.entry_order.specs.Naming.{Distinct, has_digest, IsBorneIn, Names}
pub use Rattle.entry_order.specs.Precedes.{IsAcyclic, IsPath, Precedes}
pub use Rattle.entry_order.specs.declared.three.Three.TheVariants.{False, True, Unknown}
pub use Rattle.entry_order.specs.{Ascending.ascending, Completion.Completion, declared.three.Three.Three}
pub use Rattle.entry_order.specs.{Exact.AreSurvivors, Node.Node, Settled.IsGraphOf, Settled.NamesNoGap, Survivors.gaps}
pub use Rattle.roster.specs.declared.post.Role.TheVariants.{Supervisor}
pub use Rattle.rule_exactness.specs.Exact.{AreDigests, AreWellFormed, CanSay, IsAllThatIsTold, IsMade, IsOpen}
pub use Rattle.rule_exactness.specs.Exact.{IsSayable, IsWellFormed, MayComplete, NoEarlyEnd, Saying}
pub use Rattle.rule_exactness.specs.Exact.{StandardRulesAreExact, TwoSidedRulesAreExact}
pub use Rattle.rule_exactness.specs.TwoSided.{all_tests, body_asks, can_ask, Equation, first_test, is_real, leads}
pub use Rattle.rule_language.specs.Kinds.{field_word, fields, kind_named, kind_word}
pub use Rattle.rule_language.specs.Standard.{k2_body, p3_body, standard_rules}
pub use Rattle.rule_language.specs.Trees.{no_trees, RuleTree, tree_then, Trees}
pub use Rattle.rule_language.specs.{declared.form.Form.Form, declared.kind.Field.Field, declared.kind.Kind.Kind}
pub use Rattle.rule_language.specs.{declared.row.Row.Row, declared.term.Term.TheVariants.Of, Written.row_text}
pub use Rattle.rule_meaning.proofs.Sounds.{graphs_are_true, place_meant, rules_are_settled, StandFor, unknown≢false}
pub use Rattle.rule_meaning.proofs.{Sounds.unknown≢true, Unknowns.unknown_only_by_gaps}
pub use Rattle.rule_meaning.specs.Kleene.{both, either, greatest, is_true, least, opposite}
pub use Rattle.rule_meaning.specs.Meaning.{bind, ComesBefore, EachHolds, first_sentence, FormHolds, Holds, IsOfKind}
pub use Rattle.rule_meaning.specs.Meaning.{meanings, second_sentence, SomeHolds, unbound}
pub use Rattle.rule_meaning.specs.{Knowledge.IsTrueOf, Sound.HasNoDouble, Tests.are_equal, Tests.field_of}
pub use Rattle.rule_meaning.specs.{Tests.is_kind, Values.first_value, Values.places, Values.three_in, Values.values}
pub use Rattle.std.proofs.Common.{[], ap, arith, Bool, cond, drop, false, get_or, inl, inr, length, length-append, List}
pub use Rattle.std.proofs.Common.{map, None, Option, refl, Some, subst, suc, sym, take, true, zero, ℕ, ◌%◌, ◌&&◌, ◌*◌}
pub use Rattle.std.proofs.Common.{◌++◌, ◌+◌, ◌-◌, ◌/◌, ◌<◌, ◌^◌, ◌||◌, ◌∙◌, ◌∷◌, ◌≡◌, ◌≢◌, ◌≤◌, ◌⊎◌}
pub use Rattle.std.proofs.lemmas.Bool.{and_from, and_parts, cases_Bool, cases_eq, eq-eqb, eqb-true, false_from_ne_true}
pub use Rattle.std.proofs.lemmas.Bool.{false≢true, lt-ltb, ltb-true, not-false, not-true, true≢false}
pub use Rattle.std.proofs.lemmas.List.Elements.{Contains-append_cases, Contains-append_left, Contains-append_right}
pub use Rattle.std.proofs.lemmas.List.{append-nil, length-map, length-replicate}
pub use Rattle.std.proofs.{lemmas.Map.Steps.le-length_from_below, lemmas.Option.same_Some, lemmas.Option.slice_get-map}
pub use Rattle.std.proofs.{lemmas.Option.slice_get_within, lemmas.Slice.Eq.bytes_eq-Decides, Math.Nat.mul-le-mul_left}
pub use Rattle.std.specs.List.{Contains, filter, flat_map, list_all, list_any}
pub use Rattle.std.specs.Prelude.{bytes_eq, codes, if◌then◌else◌, IsSomeAnd, IsTrue, nat_lt, not, option_map, replicate}
pub use Rattle.std.specs.Prelude.{slice_get, ◌==◌}
