use Rattle.rule_language.proofs.kind.Kind.of_word.Given as goal
use Rattle.rule_language.proofs.Imports.{drop, entry_kinds, first_named, kind_word, ◌≡◌}
use Rattle.rule_language.specs.Kinds.{kind_named}

-- what the word names depends on the kinds that are left
abbrev pub invariant-loop-kind : goal.invariant-loop-kind
invariant-loop-kind l = kind_named l.word ≡ first_named kind_word (drop l.kind-index entry_kinds) l.word
