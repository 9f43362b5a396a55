use Rattle.rule_language.proofs.form.Head.of_word.Goals as goal
use Rattle.rule_language.proofs.{Imports.head_word, Imports.heads, Imports.rules, Imports.◌∙◌, Named.named_next}
use Rattle.rule_language.specs.declared.form.Head.TheVariants.{ForEvery}

pub loop-head-preserved : goal.loop-head-preserved
loop-head-preserved c =
    c.loop-head.invariant
    ∙ named_next head_word heads c.loop-head.head-index ForEvery c.args.word.now c.loop-head-test.true (search rules)
