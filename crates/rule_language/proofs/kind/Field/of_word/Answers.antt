use Rattle.rule_language.proofs.kind.Field.of_word.Goals as goal
use Rattle.rule_language.proofs.{Imports.field_word, Imports.fields, Imports.rules, Imports.◌∙◌, Named.named_next}
use Rattle.rule_language.specs.declared.kind.Field.TheVariants.{Maker}

pub loop-field-preserved : goal.loop-field-preserved
loop-field-preserved c =
    c.loop-field.invariant
    ∙ named_next field_word fields c.loop-field.field-index Maker c.args.word.now c.loop-field-test.true (search rules)
