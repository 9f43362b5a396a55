-- Where the words aren't those of a run, one answer is right without threads and with them.
use Rattle.auditorium_core.proofs.Imports.{Answer, AnswersWords, Command, inl, inr, IsAny, IsStill, List, Means, Option}
use Rattle.auditorium_core.proofs.Imports.{run, ℕ}

module _ (words : List (List ℕ)) (no_run : (script prefix : List ℕ) → ¬ Means words (run script prefix))
    (OnFiles : List (List ℕ) → (List (Option (List ℕ)) → Type 0) → Type 0) (answer : Answer) where
  -- what the words mean is done without threads
  is_still : (command : Command) → Means words command → IsStill command
  is_still (run script prefix) means = absurd (no_run script prefix means)
  is_still command means = tt

  -- an answer that is right without threads is right with them
  pub any_of_still : AnswersWords IsStill words OnFiles answer → AnswersWords IsAny words OnFiles answer
  any_of_still (inl (command, still, means, is)) = inl (command, tt, means, is)
  any_of_still (inr (bad, e, on)) = inr (λ (command, _, means). bad (command, is_still command means, means), e, on)

  -- an answer that is right with threads is right without them, where the words aren't those of
  -- `run`
  pub still_of_any : AnswersWords IsAny words OnFiles answer → AnswersWords IsStill words OnFiles answer
  still_of_any (inl (command, any, means, is)) = inl (command, is_still command means, means, is)
  still_of_any (inr (bad, e, on)) = inr (λ (command, _, means). bad (command, tt, means), e, on)
