use Rattle.rule_language.proofs.words.is_name.Given as goal
use Rattle.rule_language.proofs.Imports.{are_alphanumeric, drop, ◌≡◌}

-- whether the word is a name depends on the bytes that are left
abbrev pub invariant-loop-byte : goal.invariant-loop-byte
invariant-loop-byte l = are_alphanumeric l.word ≡ are_alphanumeric (drop l.byte-index l.word)
