use Rattle.auditorium_core.proofs.program.done_by.Goals as goal
use Rattle.auditorium_core.proofs.{Endings.was_done, Imports.IsStill, Imports.map, Imports.string_bytes}

pub returns-clause-done : goal.returns-clause-done
returns-clause-done g c =
    was_done g.S.Store g.K.Sink IsStill (map string_bytes c.args.words.now) c.args.store.now
    c.answer_of-answer.new.store c.end_heard.new.store c.args.out.now c.end_heard.new.out c.answer_of-answer.result
    c.end_heard.result c.answer_of-answer.ensures c.end_heard.ensures.ended
