-- Answers over the exposed files.
use Rattle.auditorium_core.proofs.Imports.{[], Answer, AnswersWords, Command, command_parts, Files, HasDone, inl, inr}
use Rattle.auditorium_core.proofs.Imports.{IsGivenBy, IsGivenSomehow, List, map, None, on_exposed, OnExposed, Option}
use Rattle.auditorium_core.proofs.Imports.{Outside, outside, SinkGhosts, Some, Status, StoreGhosts, ℕ, ⊤}
use Rattle.auditorium_core.proofs.DoneCases.{done_as, Giving}

-- what follows of all files follows of the exposed ones
pub exposed_weaker : (told : Option Files) (names : List (List ℕ)) (P Q : List (Option (List ℕ)) → Type 0) →
    ((files : List (Option (List ℕ))) → P files → Q files) → OnExposed told names P → OnExposed told names Q
exposed_weaker None names P Q step (files, many, is) = (files, many, step files is)
exposed_weaker (Some at) names P Q step is = step (map at names) is

-- an answer to words is right in another way where all that is said of files holds in that way
pub answers_weaker : (IsDone : Command → Type 0) (words : List (List ℕ)) (answer : Answer)
    (OnFiles Others : List (List ℕ) → (List (Option (List ℕ)) → Type 0) → Type 0) →
    ((names : List (List ℕ)) (P : List (Option (List ℕ)) → Type 0) → OnFiles names P → Others names P) →
    AnswersWords IsDone words OnFiles answer → AnswersWords IsDone words Others answer
answers_weaker IsDone words answer OnFiles Others step (inl (command, done, means, is)) =
    let parts = command_parts command in
    inl (command, done, means, step parts.files (λ files. parts.IsAnswer files answer) is)
answers_weaker IsDone words answer OnFiles Others step (inr (bad, e, on)) = inr (bad, e, step [] (λ files. ⊤) on)

-- what the program has done for files as they were read it has done over the exposed files
pub done_over_exposed : {S K : Type 0} (of_store : StoreGhosts S) (of_sink : SinkGhosts K) (IsDone : Command → Type 0)
    (words : List (List ℕ)) (store store_after : S) (out out_after : K) (how : Status) →
    HasDone IsDone words (IsGivenBy of_store of_sink store out store_after out_after)
    (outside of_store of_sink store out) how (outside of_store of_sink store_after out_after) →
    HasDone IsDone words (IsGivenSomehow (outside of_store of_sink store out)) (outside of_store of_sink store out) how
    (outside of_store of_sink store_after out_after)
done_over_exposed of_store of_sink IsDone words store store_after out out_after =
    let IsGiven : Giving = IsGivenBy of_store of_sink store out store_after out_after in
    let old : Outside = outside of_store of_sink store out in
    done_as IsDone IsDone words IsGiven (IsGivenSomehow old) old (outside of_store of_sink store_after out_after)
    (λ answer ok. answers_weaker IsDone words answer (IsGiven answer ok) (OnExposed old.files)
    (λ names P (read, on, files, faults, calls). on_exposed of_store names P store read on))
