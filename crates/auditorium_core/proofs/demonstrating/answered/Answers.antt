use Rattle.auditorium_core.proofs.Imports.{rules}
use Rattle.auditorium_core.proofs.Demonstrations.{refusal_told, shown_not_absent, shown_told}
use Rattle.auditorium_core.proofs.demonstrating.answered.Goals as goal

-- what is shown is right of the day
pub returns-in_ok-answer_of-in-Ok : goal.returns-in_ok-answer_of-in-Ok
returns-in_ok-answer_of-in-Ok c = record {
  told = shown_told c.args.sessions c.half_of.result c.args.script.now
      c.requires.script c.requires.lawful c.half_of.ensures c.in-Ok.shown c.in_ok-answer_of-in-Ok.field-0
      c.in-Ok.ensures.ok c.in_ok-answer_of-in-Ok.ensures;
  status = shown_not_absent c.args.sessions c.in-Ok.shown c.in_ok-answer_of-in-Ok.field-0
      c.in_ok-answer_of-in-Ok.ensures;
  fault = tt;
}

-- the refusal of a demonstration is right of the day
pub returns-in-Err : goal.returns-in-Err
returns-in-Err c = record {
  told = refusal_told c.args.sessions c.half_of.result c.args.script.now
      c.requires.script c.requires.lawful c.half_of.ensures c.in-Err.fault c.of_fault.result c.in-Err.ensures.err
      c.of_fault.ensures.ok;
  status = search rules;
  fault = search rules;
}
