use Rattle.canonical_sexp.proofs.Imports.{arith, common_steps, max_octets}
use Rattle.canonical_sexp.proofs.Atoms.{digit_range, first_digit, more_digits}
use Rattle.canonical_sexp.proofs.tokens.read_length.Goals as goal

pub loop-at-init : goal.loop-at-init
loop-at-init c =
    let (low, high) = digit_range _ c.requires.digit in
    first_digit c.args.bytes.now max_octets (omega arith) c.requires.some low high

pub loop-at-preserved : goal.loop-at-preserved
loop-at-preserved c = more_digits c.loop-at.invariant (omega arith) (omega arith) (omega arith) (grind arith)
    (grind (arith, common_steps)) (omega arith)
