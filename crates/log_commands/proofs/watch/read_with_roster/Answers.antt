use Rattle.log_commands.proofs.Imports.{ap, rules_end, rules_then, source_of, standard_then, sym, ◌∙◌}
use Rattle.log_commands.proofs.watch.read_with_roster.Goals as goal

pub returns-in-Ok : goal.returns-in-Ok
returns-in-Ok g c =
    standard_then g.S.Store _ _ _ _ _ _ _ _ (sym c.rules_from.ensures ∙ ap source_of c.in-Standard.is) c.in-Ok.ensures
    c.read_with_rules.ensures

pub returns-in-Ok-read_rules : goal.returns-in-Ok-read_rules
returns-in-Ok-read_rules g c =
    rules_then g.S.Store _ _ _ _ _ _ (sym c.rules_from.ensures ∙ ap source_of c.in-File.is) _ _ _ _ _
    c.in-Ok-read_rules.ensures c.read_with_rules-in-Ok-read_rules.ensures

pub returns-in-Err-read_rules : goal.returns-in-Err-read_rules
returns-in-Err-read_rules g c =
    rules_end g.S.Store _ _ _ _ _ _ (sym c.rules_from.ensures ∙ ap source_of c.in-File.is) _ _ _
    c.in-Err-read_rules.ensures
