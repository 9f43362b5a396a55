-- The one text that is written of rules: a rule on a line, one space between tokens, none after `(`
-- or before `)`.
use Rattle.std.specs.Prelude.{ℕ, List, [], ◌∷◌, ◌++◌, codes}
use Rattle.rule_language.specs.declared.form.Form.{Form}
use Rattle.rule_language.specs.declared.form.Form.TheVariants as form
use Rattle.rule_language.specs.Trees.{Trees, no_trees, tree_then, RuleTree}
use Rattle.rule_language.specs.Tokens.{Token}
use Rattle.rule_language.specs.Spelling.{form_words}

-- words with a space before each
abbrev pub spaced : List Token → List ℕ
spaced [] = []
spaced (word ∷ words) = 32 ∷ (word ++ spaced words)

-- words with a space between each two
abbrev pub with_spaces : List Token → List ℕ
with_spaces [] = []
with_spaces (word ∷ words) = word ++ spaced words

-- a form with the text of the formulas in it
abbrev pub form_text : Form → List ℕ → List ℕ
form_text form.True inside = codes "true"
form_text form inside = 40 ∷ (with_spaces (form_words form) ++ (inside ++ 41 ∷ []))

-- formulas in a row, with a space before each
abbrev pub row_text : Trees → List ℕ
row_text no_trees = []
row_text (tree_then form parts rest) = 32 ∷ (form_text form (row_text parts) ++ row_text rest)

-- a rule's line
abbrev pub rule_text : RuleTree → List ℕ
rule_text rule = codes "(rule " ++ (rule.name ++ (row_text rule.body ++ codes ")\n"))

-- the lines of rules
abbrev pub rules_text : List RuleTree → List ℕ
rules_text [] = []
rules_text (rule ∷ rules) = rule_text rule ++ rules_text rules
