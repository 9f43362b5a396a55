use Rattle.rule_language.proofs.form.Head.of_word.Given as goal
use Rattle.rule_language.proofs.Imports.{drop, first_named, head_named, head_word, heads, ◌≡◌}

-- what the word names depends on the heads that are left
abbrev pub invariant-loop-head : goal.invariant-loop-head
invariant-loop-head l = head_named l.word ≡ first_named head_word (drop l.head-index heads) l.word
