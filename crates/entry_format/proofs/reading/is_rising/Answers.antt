use Rattle.entry_format.proofs.Imports.{arith, refl}
use Rattle.entry_format.proofs.Ascending.{ascends, ascends_before, rises_more}
use Rattle.entry_format.proofs.reading.is_rising.Goals as goal

pub returns-then-not-is_below : goal.returns-then-not-is_below
returns-then-not-is_below c = (
  (λ never. cc),
  λ rises. c.if-not-is_below.ensures.1
      (ascends_before c.args.digests.now c.loop-i.i rises (omega arith) c.loop-i-test.true),
)

pub loop-i-preserved : goal.loop-i-preserved
loop-i-preserved c = rises_more c.args.digests.now c.loop-i.i c.loop-i.invariant (omega arith)
    (c.if-not-is_below.ensures.0 refl)

pub returns : goal.returns
returns c =
    ((λ always. ascends c.args.digests.now (λ k within. c.loop-i.invariant k (omega arith))), λ rises. refl)
