-- Words and files have at most one answer.
use Rattle.auditorium_core.proofs.Imports.{Answer, AnswersWords, command_parts, Files, inl, inr, IsStill, List, map}
use Rattle.auditorium_core.proofs.Imports.{OnExposed, Some, sym, ℕ, ◌∙◌, ◌≡◌}
use Rattle.auditorium_core.proofs.{CitedLaws.CitedLaws, Commands.have_one_answer, Commands.of_command}

-- without threads any words have one answer over files that are exposed
pub one_answer : CitedLaws → (words : List (List ℕ)) (files : Files) (a b : Answer) →
    AnswersWords IsStill words (OnExposed (Some files)) a → AnswersWords IsStill words (OnExposed (Some files)) b →
    a ≡ b
one_answer laws words files a b (inl (command, still, means, is)) right =
    have_one_answer laws command still (map files (command_parts command).files) a b is
    (of_command IsStill words (OnExposed (Some files)) command b still means right)
one_answer laws words files a b (inr (bad, e, on)) (inl (command, still, means, is)) =
    absurd (bad (command, still, means))
one_answer laws words files a b (inr (bad, e, on)) (inr (bad', f, on')) = e ∙ sym f
