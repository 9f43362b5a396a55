use Rattle.auditorium_core.proofs.Imports.{AreGood, asked, IsStill, map, rules, string_bytes}
use Rattle.auditorium_core.proofs.Endings.{answered_words, usage_answered}
use Rattle.auditorium_core.proofs.program.answer_of.Goals as goal

pub returns-in-Some : goal.returns-in-Some
returns-in-Some g c =
    let still : IsStill (asked c.in-Some.request) = search rules in
    answered_words g.S.Store IsStill (map string_bytes c.args.words.now) (asked c.in-Some.request) c.args.store.now
    c.answer_to.new.store c.answer_to.result still c.in-Some.ensures.some c.answer_to.ensures

pub returns-in_ok-usage-in_default : goal.returns-in_ok-usage-in_default
returns-in_ok-usage-in_default g c =
    let bad : ¬ AreGood IsStill (map string_bytes c.args.words.now) = search rules in
    usage_answered g.S.Store IsStill (map string_bytes c.args.words.now) c.args.store.now
    c.in_ok-usage-in_default.field-0 bad c.in_ok-usage-in_default.ensures
