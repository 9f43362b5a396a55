use Rattle.auditorium_core.proofs.office_laws.numbers_sign_once.Goals as goal
use Rattle.auditorium_core.proofs.{Imports.IsAny, Imports.IsStill, OfficeNumbers.numbers_rise}

pub returns : goal.returns
returns c = record {
  any = λ name. numbers_rise IsAny name (λ n s. tt) (λ n f. tt) (λ k f s. tt);
  still = λ name. numbers_rise IsStill name (λ n s. tt) (λ n f. tt) (λ k f s. tt);
}
