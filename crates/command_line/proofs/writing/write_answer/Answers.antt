use Rattle.command_line.proofs.writing.write_answer.Goals as goal
use Rattle.command_line.proofs.{Cuts.output_cut, Imports.outside, Imports.rules}

pub returns-clause-err : goal.returns-clause-err
returns-clause-err g c =
    let store = g.S.Store in
    let sink = g.K.Sink in
    output_cut c.write_all.result c.args.answer.now (outside store sink c.args.store.now c.args.out.now)
    (outside store sink c.place_in_turn.new.store c.write_all.new.sink) (search rules) (search rules)
    c.write_all.ensures.cause
