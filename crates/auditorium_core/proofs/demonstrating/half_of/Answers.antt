use Rattle.auditorium_core.proofs.Imports.{arith, cases_lt, inl, inr, ◌%◌}
use Rattle.auditorium_core.proofs.demonstrating.half_of.Goals as goal

pub returns : goal.returns
returns c = elim (cases_lt 0 (c.args.sessions % 2)) [ inl odd ↦ inr (omega arith) | inr even ↦ inl (omega arith) ]
