use Rattle.log_commands.proofs.Imports.{and_refused, and_then, evidence_of, map, Ok, refl, rule_tree, rules, ◌≡◌}
use Rattle.log_commands.proofs.watch.read_with_rules.Goals as goal

pub returns-in-Ok : goal.returns-in-Ok
returns-in-Ok g c =
    and_then g.S.Store (λ logs. logs.items) _ _ evidence_of (λ logs answer. answer ≡ Ok (record {
      machines = c.args.read.roster.machines;
      rules = map rule_tree c.args.rules.items;
      logs = logs;
    })) _ _ c.in-Ok.logs (Ok _) c.in-Ok.ensures refl tt tt

pub returns-in-Err : goal.returns-in-Err
returns-in-Err g c = search (rules, and_refused)
