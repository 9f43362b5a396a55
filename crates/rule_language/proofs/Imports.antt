-- What the proofs of this crate take from others and from its definitions.
pub use Rattle.canonical_sexp.proofs.Decimal.{AreDigits, decimal_digits}
pub use Rattle.hall_text.specs.{Places.CutsNoWord, Tokens.is_word_byte}
pub use Rattle.input_causes.specs.declared.rules.RuleWhy.{RuleWhy}
pub use Rattle.roster.specs.{RosterText.role_word, declared.post.Role.Role}
pub use Rattle.rule_language.specs.{Forms.rule_tree, Forms.trees_of, Kinds.entry_kinds, Kinds.field_named}
pub use Rattle.rule_language.specs.Kinds.{field_word, fields, first_named, head_named, head_word, heads, kind_word}
pub use Rattle.rule_language.specs.Lawful.{are_alphanumeric, are_formulas, are_of_one_sort, can_bind, field_sort}
pub use Rattle.rule_language.specs.Lawful.{has_arity, has_order, inner, is_among, is_bound, is_closed, is_name, is_rule}
pub use Rattle.rule_language.specs.{Lawful.scope_in, Lawful.sort_of, Reader.atom, Reader.formula, Reader.rules_of}
pub use Rattle.rule_language.specs.{Reader.several, Reader.without_rest, Scopes.is_letter, Scopes.kind_in, Scopes.Scope}
pub use Rattle.rule_language.specs.Spelling.{form_end, form_words, IsTextOf, rule_then, rules_tokens, spelt, term_word}
pub use Rattle.rule_language.specs.{Spelling.tokens_then, Spelling.variable, Steps.give, Steps.is_end, Steps.next}
pub use Rattle.rule_language.specs.{Steps.Read, Steps.take, Tokens.bad_byte, Tokens.goes_on, Tokens.has_good_bytes}
pub use Rattle.rule_language.specs.Tokens.{left, right, Row, row_from, text_end, Token, token_then, words}
pub use Rattle.rule_language.specs.Trees.{count_of, joined_trees, no_trees, RuleTree, tree_then, Trees}
pub use Rattle.rule_language.specs.{Words.only, Words.opening, Written.form_text, Written.row_text, Written.rules_text}
pub use Rattle.rule_language.specs.{Written.with_spaces, declared.faults.RuleFault.RuleFault, declared.form.Form.Form}
pub use Rattle.rule_language.specs.declared.{form.Head.Head, kind.Field.Field, kind.Kind.Kind, kind.Sort.Sort}
pub use Rattle.rule_language.specs.declared.term.Term.{Term, TheVariants.Number, TheVariants.Of}
pub use Rattle.rule_language.specs.inside.Parts.{parts_of}
pub use Rattle.rule_language.specs.inside.Unread.{bindings, IsNext, rule_names, unread}
pub use Rattle.std.proofs.Common.{[], ap, append-nil, append_assoc, arith, Bool, drop, false, get_or, inl, inr, length}
pub use Rattle.std.proofs.Common.{List, map, None, Option, refl, rules, Some, subst, suc, sym, true, vec_len, zero, ℕ}
pub use Rattle.std.proofs.Common.{◌++◌, ◌+◌, ◌-◌, ◌<◌, ◌^◌, ◌∙◌, ◌∷◌, ◌≡◌, ◌≤◌, ◌⊎◌}
pub use Rattle.std.proofs.lemmas.Bool.{and_parts, eqb-true, lt-ltb, ltb-true, ne_eqb, Decides.nat_tests}
pub use Rattle.std.proofs.lemmas.{Grind.common_steps, List.drop_more, List.map-append}
pub use Rattle.std.specs.Fmt.{decimal}
pub use Rattle.std.specs.Prelude.{codes, if◌then◌else◌, is_some, nat_le, nat_lt, Ok, Result, ◌&&◌, ◌==◌, ◌||◌}
pub use Rattle.std.specs.Str.{bytes_eq}
