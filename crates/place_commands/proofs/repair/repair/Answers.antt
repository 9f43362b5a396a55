use Rattle.place_commands.proofs.repair.repair.Goals as goal
use Rattle.place_commands.proofs.{Imports.IsRepairOf, RepairCommand.repair_tells}
use Rattle.place_commands.proofs.ScriptCommands.{script_answered, script_refused}

pub returns-in-Err : goal.returns-in-Err
returns-in-Err g c =
    script_refused c.args.name.now (IsRepairOf c.args.prefix.now) g.S.Store c.args.store.now c.read_script.new.store
    c.in-Err.fault c.of_fault.result c.in-Err.ensures.read c.of_fault.ensures.ok c.of_fault.ensures.err

pub returns-in_ok-repaired-in-Ok : goal.returns-in_ok-repaired-in-Ok
returns-in_ok-repaired-in-Ok g c =
    script_answered c.args.name.now (IsRepairOf c.args.prefix.now) g.S.Store c.args.store.now c.read_script.new.store
    (repair_tells c.args.prefix.now) c.in-Ok.script c.in_ok-repaired-in-Ok.field-0 c.in-Ok.ensures.read
    c.in_ok-repaired-in-Ok.ensures
