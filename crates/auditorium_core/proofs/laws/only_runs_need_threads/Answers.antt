use Rattle.auditorium_core.proofs.laws.only_runs_need_threads.Goals as goal
use Rattle.auditorium_core.proofs.{Imports.OnExposed, StillAnswers.any_of_still, StillAnswers.still_of_any}

pub returns : goal.returns
returns c = record {
  any = λ words told answer none. any_of_still words none (OnExposed told) answer;
  still = λ words told answer none. still_of_any words none (OnExposed told) answer;
}
