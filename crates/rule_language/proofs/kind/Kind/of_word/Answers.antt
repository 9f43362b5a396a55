use Rattle.rule_language.proofs.kind.Kind.of_word.Goals as goal
use Rattle.rule_language.proofs.{Imports.entry_kinds, Imports.kind_word, Imports.rules, Imports.◌∙◌, Named.named_next}
use Rattle.rule_language.specs.declared.kind.Kind.TheVariants.{Any}

pub loop-kind-preserved : goal.loop-kind-preserved
loop-kind-preserved c =
    c.loop-kind.invariant
    ∙ named_next kind_word entry_kinds c.loop-kind.kind-index Any c.args.word.now c.loop-kind-test.true (search rules)
