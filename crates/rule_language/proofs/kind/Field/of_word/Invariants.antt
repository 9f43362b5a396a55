use Rattle.rule_language.proofs.kind.Field.of_word.Given as goal
use Rattle.rule_language.proofs.Imports.{drop, field_named, field_word, fields, first_named, ◌≡◌}

-- what the word names depends on the fields that are left
abbrev pub invariant-loop-field : goal.invariant-loop-field
invariant-loop-field l = field_named l.word ≡ first_named field_word (drop l.field-index fields) l.word
