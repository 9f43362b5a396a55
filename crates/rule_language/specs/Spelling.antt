-- The tokens of rules, by recursion on their trees, and texts of them.
use Rattle.std.specs.Prelude.{◌≡◌, ℕ, IsTrue, List, [], ◌∷◌, ◌++◌, codes}
use Rattle.std.specs.Fmt.{decimal}
use Rattle.roster.specs.RosterText.{role_word}
use Rattle.rule_language.specs.declared.term.Term.{Term}
use Rattle.rule_language.specs.declared.term.Term.TheVariants.{Of, Number}
use Rattle.rule_language.specs.declared.form.Form.{Form}
use Rattle.rule_language.specs.declared.form.Form.TheVariants as form
use Rattle.rule_language.specs.Kinds.{kind_word, field_word}
use Rattle.rule_language.specs.Trees.{Trees, no_trees, tree_then, RuleTree}
use Rattle.rule_language.specs.Lawful.{are_rules}
use Rattle.rule_language.specs.Tokens.{Token, left, right, text_row, words, has_good_bytes}

-- a variable, by its letter
abbrev pub variable : ℕ → Token
variable v = v ∷ []

-- a term: a variable, a dot and a field, or a decimal
abbrev pub term_word : Term → Token
term_word (Of v field) = v ∷ 46 ∷ field_word field
term_word (Number n) = decimal n

-- the words of a form in front of the formulas in it
abbrev pub form_words : Form → List Token
form_words form.True = codes "true" ∷ []
form_words (form.ForEvery v kind) = codes "every" ∷ variable v ∷ kind_word kind ∷ []
form_words (form.ForSome v kind) = codes "some" ∷ variable v ∷ kind_word kind ∷ []
form_words (form.EveryBefore v kind u) =
    codes "every" ∷ variable v ∷ kind_word kind ∷ codes "before" ∷ variable u ∷ []
form_words (form.SomeBefore v kind u) = codes "some" ∷ variable v ∷ kind_word kind ∷ codes "before" ∷ variable u ∷ []
form_words form.And = codes "and" ∷ []
form_words form.Or = codes "or" ∷ []
form_words form.Not = codes "not" ∷ []
form_words form.Implies = codes "implies" ∷ []
form_words (form.Same v u) = codes "same" ∷ variable v ∷ variable u ∷ []
form_words (form.Before v u) = codes "before" ∷ variable v ∷ variable u ∷ []
form_words (form.Next v u) = codes "next" ∷ variable v ∷ variable u ∷ []
form_words (form.Is v role) = codes "is" ∷ variable v ∷ role_word role ∷ []
form_words (form.OfKind v kind) = codes "kind" ∷ variable v ∷ kind_word kind ∷ []
form_words (form.Equal t u) = codes "=" ∷ term_word t ∷ term_word u ∷ []
form_words (form.Less t u) = codes "<" ∷ term_word t ∷ term_word u ∷ []

-- the beginning of a form, and what follows; all but `true` are in parentheses
abbrev pub spelt : Form → List Token → List Token
spelt form.True following = codes "true" ∷ following
spelt form following = left ∷ (form_words form ++ following)

-- what ends a form, and what follows
abbrev pub form_end : Form → List Token → List Token
form_end form.True following = following
form_end form following = right ∷ following

-- the tokens of formulas in a row, and what follows
abbrev pub tokens_then : Trees → List Token → List Token
tokens_then no_trees following = following
tokens_then (tree_then form parts rest) following = spelt form (tokens_then parts (form_end form (tokens_then rest
    following)))

-- the tokens of a rule, and what follows
abbrev pub rule_then : RuleTree → List Token → List Token
rule_then rule following = left ∷ codes "rule" ∷ rule.name ∷ tokens_then rule.body (right ∷ following)

-- the tokens of rules
abbrev pub rules_tokens : List RuleTree → List Token
rules_tokens [] = []
rules_tokens (rule ∷ rules) = rule_then rule (rules_tokens rules)

-- the text is one of these rules: they are lawful, its words are theirs, and no byte of it is bad
pub record IsTextOf (text : List ℕ) (rules : List RuleTree) : Type 0 where
  pub lawful : IsTrue (are_rules rules)
  pub tokens : words (text_row text) ≡ rules_tokens rules
  pub whole : IsTrue (has_good_bytes (text_row text))
