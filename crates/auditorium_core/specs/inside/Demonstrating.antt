-- What `demo` promises of its answer, for which it needs no store.
use Rattle.std.specs.Prelude.{◌≡◌, ◌≢◌, ℕ, Result, IfErr, IfOk}
use Rattle.command_line.specs.declared.answer.Fault.{Fault}
use Rattle.command_line.specs.declared.answer.Fault.TheVariants.{Memory}
use Rattle.command_line.specs.declared.status.Status.TheVariants as status
use Rattle.auditorium_core.specs.Demonstrated.{IsDemonstrationAnswer}
use Rattle.command_line.specs.Lines.{Answer}

-- The answer is right for this number of sessions. It says of no file that it is absent, and only
-- memory can run out.
pub record IsShown (sessions : ℕ) (result : Result Answer Fault) : Type 0 where
  pub told : IfOk result (IsDemonstrationAnswer sessions)
  pub status : IfOk result (λ answer. answer.status ≢ status.Absent)
  pub fault : IfErr result (λ fault. fault ≡ Memory)
