use Rattle.audit_proof.proofs.Imports.{arith, length-set, refl, sym, ◌∙◌}
use Rattle.audit_proof.proofs.LinesRead.{listed_table, reading_more, step_refused, word_refused, words_end}
use Rattle.audit_proof.proofs.reading.read_words.Goals as goal

pub returns-in-None : goal.returns-in-None
returns-in-None g c =
    word_refused c.words.invariant c.words-test.true c.word_end-end.ensures.is c.piece-word.ensures _
    (sym c.in-None.ensures)

pub returns-in-Err : goal.returns-in-Err
returns-in-Err g c =
    step_refused c.words.invariant c.words-test.true c.word_end-end.ensures.is c.piece-word.ensures c.in-Some.step
    (sym c.in-Some.ensures) c.in-Err.why (sym (rw c.deref.ensures.value at c.in-Err.ensures.is))

pub words-preserved : goal.words-preserved
words-preserved g c =
    rw c.in_ok-push.ensures.items
    (reading_more c.words.invariant c.words-test.true c.word_end-end.ensures.is c.piece-word.ensures c.in-Some.step
    (sym c.in-Some.ensures) (sym (rw c.deref.ensures.value at c.in-Ok.ensures.is)) (c.in-Ok.ensures.below refl)
    c.word_end-end.ensures.within.1)

pub returns : goal.returns
returns g c = (
  words_end c.words.invariant (omega (arith, c.words-test.false)),
  length-set _ _ _ ∙ c.words.invariant.each,
  listed_table c.words.invariant c.requires.entry,
)
