use Rattle.canonical_sexp.proofs.whole.whole_text.Goals as goal
use Rattle.canonical_sexp.proofs.{Canonical.stops, Imports.inl, Imports.inr, Imports.refl}

pub returns-then-used-bytes-clause-err : goal.returns-then-used-bytes-clause-err
returns-then-used-bytes-clause-err c =
    stops c.args.bytes.now c.in-Whole.used (inr (inl (c.in-Whole.text, c.in-Whole.ensures.right, c.if-used-bytes.true)))

pub returns-in-Cut-clause-err : goal.returns-in-Cut-clause-err
returns-in-Cut-clause-err c = stops c.args.bytes.now _ (inr (inr (c.in-Cut.ensures.right, refl)))

pub returns-in-Bad-clause-err : goal.returns-in-Bad-clause-err
returns-in-Bad-clause-err c =
    stops c.args.bytes.now c.in-Bad.at (inl (c.in-Bad.why, c.in-Bad.ensures.right))
