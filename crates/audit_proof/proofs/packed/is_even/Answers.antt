use Rattle.audit_proof.proofs.LineFacts.{in_decides, listed_below}
use Rattle.audit_proof.proofs.{Imports.arith, Imports.sym, Imports.◌∙◌, Listings.even_table, Listings.ragged_listed}
use Rattle.audit_proof.proofs.packed.is_even.Goals as goal

pub ragged-requires : goal.ragged-requires
ragged-requires g c =
    listed_below _ _ c.loop-place.place c.requires
    ((in_decides _ c.loop-place.place).0 (sym c.has_code.ensures ∙ c.if-has_code.true))

pub returns-then-ragged : goal.returns-then-ragged
returns-then-ragged g c =
    sym (ragged_listed _ _ c.loop-place.place (sym c.has_code.ensures ∙ c.if-has_code.true)
    (sym c.ragged.ensures ∙ c.if-ragged.true))

pub returns : goal.returns
returns g c =
    sym (even_table _ c.args.table.now (λ y low. c.loop-place.invariant y (omega (arith, c.loop-place-test.false))))
