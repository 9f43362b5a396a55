use Rattle.auditorium_core.proofs.Imports.{IsAny, IsGivenBy, map, outside, run, string_bytes}
use Rattle.auditorium_core.proofs.Endings.{answered_words, done_as_any, was_done}
use Rattle.auditorium_core.proofs.program.auditorium_heard.Goals as goal

pub returns-in-Some-clause-done : goal.returns-in-Some-clause-done
returns-in-Some-clause-done g c =
    let store = g.S.Store in
    let words = map string_bytes c.args.words.now in
    let old = c.args.store.now in
    let read = c.run-answer.new.store in
    was_done store g.K.Sink IsAny words old read c.end_heard.new.store c.args.out.now c.end_heard.new.out
    c.run-answer.result c.end_heard.result
    (answered_words store IsAny words (run c.in-Some.script.now c.in-Some.prefix.now) old read c.run-answer.result tt
    c.in-Some.ensures.some c.run-answer.ensures) c.end_heard.ensures.ended

pub returns-in-None-clause-done : goal.returns-in-None-clause-done
returns-in-None-clause-done g c =
    done_as_any (map string_bytes c.args.words.now)
    (IsGivenBy g.S.Store g.K.Sink c.args.store.now c.args.out.now c.done_by.new.store c.done_by.new.out)
    (outside g.S.Store g.K.Sink c.args.store.now c.args.out.now)
    (outside g.S.Store g.K.Sink c.done_by.new.store c.done_by.new.out) c.done_by.result c.in-None.ensures.none
    c.done_by.ensures.done
