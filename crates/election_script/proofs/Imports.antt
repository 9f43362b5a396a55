-- What the proofs of this crate take from others.
pub use Rattle.election_script.specs.Deeds.{ballot_deed, do_read}
pub use Rattle.election_script.specs.Generated.{authorise_of, count_actions, hears, session_booth, sessions, supervisor}
pub use Rattle.election_script.specs.Grammar.{actions_at, AreDeedsOf, deed_words, do_line, how_words, is_passed_over}
pub use Rattle.election_script.specs.Grammar.{IsTextOf, key_line, line_of, lines_of, lines_of_kind, link_line, log_line}
pub use Rattle.election_script.specs.Grammar.{lose_line, machine_line, name_at, name_of, seed_line, step_line}
pub use Rattle.election_script.specs.Grammar.{step_words, stop_line}
pub use Rattle.election_script.specs.Kinds.{how_names, key_heights, key_kinds, kinds, line_kinds, line_word, named}
pub use Rattle.election_script.specs.{Kinds.rank, Kinds.role_names, Lawful.AreCast}
pub use Rattle.election_script.specs.Lawful.{IsBetween, IsBoothAt, IsCast, IsDeedAmong, IsLawful, IsLose, IsSession}
pub use Rattle.election_script.specs.Lawful.{IsStep, IsStopAt, max_actions, max_events, max_link, max_loses, max_steps}
pub use Rattle.election_script.specs.Left.{head_of, is_most, kind_and_words, left_from, LinesRead, Next, words_of}
pub use Rattle.election_script.specs.Machines.{is_same_role, place_of}
pub use Rattle.election_script.specs.{Reading.script_from, Reading.script_of, WordLines.Lines, Words.in_table}
pub use Rattle.election_script.specs.Words.{is_between, is_listed, is_name_byte, is_name_word, LineRead, ◌>>=◌}
pub use Rattle.election_script.specs.Written.{deeds_at, deeds_from, ended, script_text, text_of_lines}
pub use Rattle.election_script.specs.declared.draft.{Line.Line, LineFault.LineFault}
pub use Rattle.election_script.specs.declared.{faults.ScriptFault.TheVariants.At, kinds.Kind.Kind, script.Cast0.Cast0}
pub use Rattle.election_script.specs.declared.script.{Lose.Lose, Script.Script, StopAt.StopAt}
pub use Rattle.election_script.specs.{declared.sheet.Sheet.Sheet, inside.Lines.kind_of}
pub use Rattle.election_script.specs.inside.Resume.{after, after_line, count_in, resume, seen}
pub use Rattle.election_script.specs.inside.Sheets.{is_supervised, IsSheet, put, script_in, version_in, with_deeds}
pub use Rattle.election_script.specs.inside.Words.{roles_of, stopped_of, texts_of, told}
pub use Rattle.entry_format.proofs.Taken.{version_small}
pub use Rattle.entry_format.specs.Deeds.{IsDeedOf}
pub use Rattle.entry_format.specs.EntryText.{how_word, IsDeedIn, IsDigest, IsVersion}
pub use Rattle.entry_format.specs.declared.deed.Deed.{Deed, TheVariants.Activate, TheVariants.Authorise}
pub use Rattle.entry_format.specs.declared.deed.Deed.TheVariants.{Cancel, Cast, Challenge, Closed, Commit, Opened}
pub use Rattle.entry_format.specs.declared.deed.{Deed.TheVariants.Override, How.How}
pub use Rattle.entry_order.proofs.Lists.{Contains-at, Contains-cons_cases, Contains-later}
pub use Rattle.entry_order.specs.declared.step.Step.{Step, TheVariants.Act, TheVariants.Hear, TheVariants.Stop}
pub use Rattle.hall_text.proofs.TextLines.{joined, lines_of_joined, lines_within}
pub use Rattle.hall_text.specs.{Lines.line_spans, Lines.text_lines, Spans.piece, declared.spans.Span.Span}
pub use Rattle.hex.specs.Hex.{encode_lower, IsBytes, lower_digits}
pub use Rattle.input_causes.specs.declared.script.ScriptWhy.{ScriptWhy, TheVariants.OutOfRange, TheVariants.UnknownWord}
pub use Rattle.lms_ots.proofs.Candidates.{length-u32str}
pub use Rattle.lms_ots.specs.{Words.ots_word, declared.kind.OtsKind.OtsKind, declared.kind.OtsKind.TheVariants.W1}
pub use Rattle.lms_sign.specs.Height.{height_word, IsHeight}
pub use Rattle.roster.proofs.Raws.{name_is_text}
pub use Rattle.roster.specs.Machines.{is_supervisor, IsName, IsNameByte, max_machines}
pub use Rattle.roster.specs.{RosterText.role_word, declared.post.Role.Role}
pub use Rattle.roster.specs.declared.post.Role.TheVariants.{Booth, Supervisor}
pub use Rattle.std.proofs.Common.{[], ap, arith, Bool, Bor, cond, drop, false, filter, get_or, inl, inr, length, List}
pub use Rattle.std.proofs.Common.{map, None, not, Option, refl, replicate, reverse, rules, set, Some, subst, suc, sym}
pub use Rattle.std.proofs.Common.{take, tests, true, zero, ℕ, ◌%◌, ◌*◌, ◌++◌, ◌+◌, ◌-◌, ◌/◌, ◌<◌, ◌==◌, ◌^◌, ◌↔◌, ◌∙◌}
pub use Rattle.std.proofs.{Common.◌∷◌, Common.◌≡◌, Common.◌≢◌, Common.◌≤◌, Common.◌⊎◌, Math.Seq.get_or-append_seam}
pub use Rattle.std.proofs.lemmas.Bool.{and_parts, cases_Bool, cases_eq, cond_both, eq-eqb, eqb-true, false_from_ne_true}
pub use Rattle.std.proofs.lemmas.Bool.{le-leb, leb-false, leb-true, ltb-true, ne_eqb, not-false, true≢false}
pub use Rattle.std.proofs.lemmas.{Fmt.decimal_by_steps, Iterator.Consumers.map_from_collect}
pub use Rattle.std.proofs.lemmas.{Iterator.Splits.YieldsList-from_slice_split, List.append-nil}
pub use Rattle.std.proofs.lemmas.List.{append_assoc, drop_more, get_or-map, get_or_append_left, get_or_default}
pub use Rattle.std.proofs.lemmas.List.{length-append, length-map, length-set, length-take-le, length_push, map-append}
pub use Rattle.std.proofs.lemmas.List.{take_all, take_at, take_more, take_rest, Concat.flat_map-append}
pub use Rattle.std.proofs.lemmas.List.Elements.{All-append, All-cons, All-contains, All-filter, All-from_recursion}
pub use Rattle.std.proofs.lemmas.List.Elements.{All-head, All-map, All-nil, All-push, All-replicate, All-same, All-tail}
pub use Rattle.std.proofs.lemmas.List.Elements.{All-take, All-weaker, Contains-get_or, filter-append}
pub use Rattle.std.proofs.lemmas.List.{Folds.concat-append, Folds.list_all-append, FromFn.get_or-range_with_len}
pub use Rattle.std.proofs.lemmas.List.{FromFn.length-range_with_len, Quantifiers.all_pairs_push}
pub use Rattle.std.proofs.lemmas.List.Splits.{join_with_byte-slice_split, slice_split_at, slice_split_none}
pub use Rattle.std.proofs.lemmas.List.Sums.{AllPass-from_list_all, count_by-le-length, list_all-from_AllPass}
pub use Rattle.std.proofs.lemmas.List.Sums.{sum_by_push}
pub use Rattle.std.proofs.lemmas.Option.{get_or_from_slice_get, slice_get-get_or, slice_get_cases, slice_get_within}
pub use Rattle.std.proofs.lemmas.{Result.err_from_is_err_and, Result.IfOk-weaker, Slice.Eq.bytes_eq-Decides}
pub use Rattle.std.specs.{Fmt.decimal, List.concat, List.Contains, List.flat_map, List.join_with_byte, List.list_all}
pub use Rattle.std.specs.{List.position_from, List.range_with_len, Prelude.All, Prelude.AllPairs}
pub use Rattle.std.specs.Prelude.{Any, codes, count_by, Err, IfNone, IfSome, is_some, nat_le, nat_lt, Ok, ok_or, Result}
pub use Rattle.std.specs.{Prelude.slice_get, Prelude.slice_index, Prelude.◌&&◌, Str.bytes_eq}
unfoldable pub use Rattle.election_script.specs.Generated.{actions_of, deeds_of, session_steps}
unfoldable pub use Rattle.hex.specs.Hex.{encode_with}
unfoldable pub use Rattle.lms_ots.specs.Ots.{u32str}
