use Rattle.std.proofs.Common.{sym, ◌∙◌, arith}
use Rattle.office_key.proofs.OfficeTexts.{one_number}
use Rattle.office_key.proofs.reading.number_of.Goals as goal

pub returns-then-number-gt-MAX_SIGNATURES : goal.returns-then-number-gt-MAX_SIGNATURES
returns-then-number-gt-MAX_SIGNATURES c = λ value (few, is).
    let same = one_number c.in_ok-number.number value c.in_ok-number.ensures.0 few (sym c.in_ok-number.ensures.1 ∙ is) in
    omega (arith, same, few, c.if-number-gt-MAX_SIGNATURES.true)
