use Rattle.auditorium_core.proofs.Imports.{IsAny, IsStill}
use Rattle.auditorium_core.proofs.OfficeNumbers.{endorse_leaves, signed_by_number}
use Rattle.auditorium_core.proofs.office_laws.endorsements_leave_three_states.Goals as goal

pub returns : goal.returns
returns c = record {
  any = λ name file call means is. endorse_leaves IsAny call is name file tt means;
  still = λ name file call means is. endorse_leaves IsStill call is name file tt means;
  signed = λ name file call means is.
      signed_by_number name file call.before call.after (endorse_leaves IsAny call is name file tt means);
}
