use Rattle.polling_world.proofs.Ruled.{supervisor_noted, booth_noted}
use Rattle.polling_world.proofs.rules.Rules.note.Goals as goal

pub returns-in-Supervisor-clause-kept : goal.returns-in-Supervisor-clause-kept
returns-in-Supervisor-clause-kept c =
    supervisor_noted c.args.self.now c.in-Supervisor.state c.note.new.self c.args.entry.now c.in-Supervisor.is
    c.note.ensures.kept

pub returns-in-Booth-clause-kept : goal.returns-in-Booth-clause-kept
returns-in-Booth-clause-kept c =
    booth_noted c.args.self.now c.in-Booth.state c.note-in-Booth.new.self c.args.entry.now c.in-Booth.is
    c.note-in-Booth.ensures.kept
