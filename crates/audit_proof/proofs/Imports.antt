-- What the proofs of this crate take from others.
pub use Rattle.audit_proof.specs.Canonical.{IsCanonicalProof, IsCanonicalText, IsGreatest, OneTextIsCanonical}
pub use Rattle.audit_proof.specs.KnownBy.{before_by, before_on, is_whole_line, lists, own_line, three_by, whole_by}
pub use Rattle.audit_proof.specs.Lines.{HasEachLine, IsBegun, IsLineOf, IsOnLine, IsProofOf, IsReached, LacksNoParent}
pub use Rattle.audit_proof.specs.{Lines.Line, Lines.listed_in, OneReading.TextsAreReadInOneWay, ProofText.form_line}
pub use Rattle.audit_proof.specs.ProofText.{head_text, line_text, line_words, proof_text, step_text, step_word}
pub use Rattle.audit_proof.specs.{ProofText.survivors_line, Reading.after_line, Reading.at_number, Reading.decimal_read}
pub use Rattle.audit_proof.specs.Reading.{is_above, is_on_line, lacks_no_parent, lines_between, lines_in, lines_read}
pub use Rattle.audit_proof.specs.Reading.{lists_parents, need, number_after, ProofRead, steps_read, TextLine, with_step}
pub use Rattle.audit_proof.specs.{Reading.words_on, Reading.◌>>=◌, Reads.IsReadAnswer, Reads.IsTextFor}
pub use Rattle.audit_proof.specs.{Reads.TextsOfProofsAreRead, Trust.FullProofsSayAll}
pub use Rattle.audit_proof.specs.Trust.{LinesListAncestors, ProofsAreRight, ProofsSayNoMore, WrittenProofsSayAll}
pub use Rattle.audit_proof.specs.declared.fault.ProofFault.{ProofFault, TheVariants.At, TheVariants.Memory}
pub use Rattle.audit_proof.specs.declared.{listing.Listing.Listing, reading.Unread.Unread, step.ProofStep.ProofStep}
pub use Rattle.audit_proof.specs.declared.whole_text.LineAt.{LineAt}
pub use Rattle.audit_proof.specs.inside.Begun.{IsListedTable, IsReading, IsWordsAnswer, line_with, spaced, text_line}
pub use Rattle.audit_proof.specs.inside.{Begun.Told, Bytes.first_from, Closed.closed_at, Falls.Falls}
pub use Rattle.audit_proof.specs.inside.Listing.{IsListingOf, listing_before, listing_whole}
pub use Rattle.audit_proof.specs.inside.{Lists.fault_of, Lists.IsReadingLines, Lists.line_from, Packing.step_in}
pub use Rattle.audit_proof.specs.inside.{Packing.steps_from, Packing.unpacked, Walks.IsNoted, Walks.IsWalking}
pub use Rattle.audit_proof.specs.inside.Walks.{made_line, made_lines, noted_all, noted_one, via_at, visited, walked}
pub use Rattle.entry_order.proofs.Lists.{Contains-cons_cases, Contains-head, Contains-later, Contains-map}
pub use Rattle.entry_order.proofs.Lists.{Contains-map_cases, Contains-middle, Contains-none, list_any_of, list_any_some}
pub use Rattle.entry_order.proofs.Lists.{member_split}
pub use Rattle.entry_order.proofs.Places.{all_at, element_at, member_at, one_at, place_of, push_before, taken_more}
pub use Rattle.entry_order.proofs.Settled.{ancestor_from_reaches, clean_ancestor, clean_itself, is_whole_from_clean}
pub use Rattle.entry_order.proofs.Settled.{list_all_each, list_all_from_each, reaches_from_walk, walk_on}
pub use Rattle.entry_order.specs.Ancestors.{before, Descends, is_whole, IsAncestor, IsWalk, reaches}
pub use Rattle.entry_order.specs.{Node.Node, declared.three.Three.Three}
pub use Rattle.entry_order.specs.declared.three.Three.TheVariants.{False, True, Unknown}
pub use Rattle.hall_text.proofs.Numbers.{number-found, number-none}
pub use Rattle.hall_text.specs.Words.{number_in, value_from}
pub use Rattle.input_causes.specs.declared.proof.ProofWhy.{ProofWhy, TheVariants.Form, TheVariants.WrongCount}
pub use Rattle.precedence.specs.Graph.{Graph}
pub use Rattle.rule_language.specs.{Trees.Trees, declared.row.Row.Row}
pub use Rattle.rule_meaning.proofs.{Less.less_is_known, SameOrders.same_values, Sounds.rules_are_settled}
pub use Rattle.rule_meaning.specs.{Knowledge.IsLess, Meaning.unbound, Tests.has_kind, Values.first_value, Values.values}
pub use Rattle.std.proofs.Common.{[], ap, append-nil, append_assoc, arith, Bool, cond, Decides, drop, false, get_or}
pub use Rattle.std.proofs.Common.{get_or-take, inl, inr, length, length-take, List, None, Option, refl}
pub use Rattle.std.proofs.Common.{replicate, rules, Some, subst, suc, sym, take, true, zero, ℕ, ◌%◌, ◌++◌, ◌+◌, ◌-◌}
pub use Rattle.std.proofs.Common.{◌<◌, ◌^◌, ◌||◌, ◌↔◌, ◌∙◌, ◌∷◌, ◌≡◌, ◌≢◌, ◌≤◌}
pub use Rattle.std.proofs.Math.{Bool.and-true, Bool.or-false, Seq.drop-append-add}
pub use Rattle.std.proofs.lemmas.Bool.{and_right, cases_eq, cases_lt, eq-eqb, eqb-true, false_from_ne_true, false≢true}
pub use Rattle.std.proofs.lemmas.Bool.{le-leb, le-ltb, leb-true, lt-leb, lt-ltb, ltb-true, ne_eqb, not-true}
pub use Rattle.std.proofs.lemmas.Bool.{not_from_false, or_parts, Decides.Decides-and}
pub use Rattle.std.proofs.lemmas.Bool.Decides.{Decides-eqb, Decides-like, Decides-ltb, Decides-or, same_from_decides}
pub use Rattle.std.proofs.lemmas.{Fmt.decimal_by_steps, Fmt.decimal_nonempty, Fmt.length-decimal-le, List.drop-drop}
pub use Rattle.std.proofs.lemmas.List.{drop_all, drop_more, flat_map_more, get_or-append-add, get_or-replicate}
pub use Rattle.std.proofs.lemmas.List.{get_or-set_other, get_or-set_same, get_or_append_left, get_or_at, get_or_past}
pub use Rattle.std.proofs.lemmas.List.{length-append, length-drop, length-map, length-replicate, length-set, map-append}
pub use Rattle.std.proofs.lemmas.List.{map-id, map_push, nil_from_length, same_lists, take_all, take_at}
pub use Rattle.std.proofs.lemmas.List.Elements.{All-cons, All-contains, All-from_get_or, All-head, All-map, All-nil}
pub use Rattle.std.proofs.lemmas.List.Elements.{All-push, All-tail, All-weaker, Contains-append_left, Contains-get_or}
pub use Rattle.std.proofs.lemmas.List.Elements.{Contains-push, Contains-push_cases}
pub use Rattle.std.proofs.lemmas.List.Folds.{find-append, find_at, flat_map-map, length-flat_map-take, list_all-append}
pub use Rattle.std.proofs.lemmas.List.Folds.{list_any-append, list_any_at}
pub use Rattle.std.proofs.lemmas.List.FromFn.{filter_of_map_range_with_len_more, get_or-map-range_with_len}
pub use Rattle.std.proofs.lemmas.List.FromFn.{length-map-range_with_len, map-range_with_len_more}
pub use Rattle.std.proofs.lemmas.List.{FromFn.take-map-range_with_len, Quantifiers.all_pairs_push}
pub use Rattle.std.proofs.lemmas.List.Splits.{join_with_byte-slice_split, length-slice_split, slice_split_at}
pub use Rattle.std.proofs.lemmas.List.Splits.{slice_split_first, slice_split_none}
pub use Rattle.std.proofs.lemmas.List.Sums.{fails_before_first, passes_at_first, split_at_first}
pub use Rattle.std.proofs.lemmas.Option.{get_or_from_slice_get, none-some, same_Some, slice_get-get_or, slice_get_read}
pub use Rattle.std.proofs.lemmas.{Option.slice_get_within, Slice.Eq.bytes_eq-Decides}
pub use Rattle.std.specs.{Fmt.decimal, List.after_first, List.before_first, List.Contains}
pub use Rattle.std.specs.List.{filter, flat_map, join_with_byte, list_all, list_any, position_or_len, range_with_len}
pub use Rattle.std.specs.{List.slice_split, Option.option_or, Prelude.All, Prelude.AllPairs, Prelude.codes, Prelude.Err}
pub use Rattle.std.specs.Prelude.{map, nat_le, nat_lt, not, Ok, ok_or, Result, slice_get, slice_set, ◌&&◌, ◌==◌, ◌⊎◌}
pub use Rattle.std.specs.Str.{bytes_eq}
unfoldable pub use Rattle.audit_proof.specs.Reading.{count_read, end_read, form_read, line_of_entry, past_read}
unfoldable pub use Rattle.audit_proof.specs.Reading.{proof_of, step_fits, step_of_word}
unfoldable pub use Rattle.audit_proof.specs.inside.Begun.{step_tests}
