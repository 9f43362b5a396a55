use Rattle.audit_proof.proofs.Imports.{closed_at, drop, ◌≡◌}
use Rattle.audit_proof.proofs.lines.are_listed.Given as goal

abbrev pub invariant-loop-number : goal.invariant-loop-number
invariant-loop-number l = closed_at l.listed l.numbers ≡ closed_at l.listed (drop l.number-index l.numbers)
