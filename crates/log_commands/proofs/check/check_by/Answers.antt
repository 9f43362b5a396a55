use Rattle.log_commands.proofs.check.check_by.Goals as goal
use Rattle.log_commands.proofs.{CheckAnswers.too_wide_checked, Imports.ap, Imports.map, Imports.rule_tree}

pub returns-in-Err-TooWide-clause-err : goal.returns-in-Err-TooWide-clause-err
returns-in-Err-TooWide-clause-err c =
    too_wide_checked _ c.args.word.now _ _ c.args.graph _ _ _ _ (ap (map rule_tree) c.as_slice.ensures.value)
    c.in-Err-TooWide.ensures.err c.in-Err-TooWide.field-0-is c.refused.ensures
