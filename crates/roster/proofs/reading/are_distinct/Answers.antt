use Rattle.roster.proofs.Imports.{refl, true≢false, sym}
use Rattle.roster.proofs.Raws.{same_name_found, no_name_found, one_more_distinct}
use Rattle.roster.proofs.reading.are_distinct.Goals as goal

-- an earlier machine has the name
pub returns-then-has_name : goal.returns-then-has_name
returns-then-has_name c = (
  (λ never. absurd (true≢false (sym never))),
  λ all. absurd (same_name_found c.args.raws.now c.loop-i.i _ c.loop-i-test.true (c.if-has_name.ensures.0 refl) all),
)

pub loop-i-preserved : goal.loop-i-preserved
loop-i-preserved c =
    let none = no_name_found c.args.raws.now c.loop-i.i _ c.loop-i-test.true
    (λ any. true≢false (sym (c.if-has_name.ensures.1 any))) in
    one_more_distinct c.args.raws.now c.loop-i.i c.loop-i.invariant none
