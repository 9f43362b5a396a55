-- The command `prove`.
use Rattle.log_commands.proofs.Imports.{[], All-from_recursion, Answer, ap, arith, carried_out_as, contains_as, Err}
use Rattle.log_commands.proofs.Imports.{GivesMade, HasOneAnswer, HasStatuses, inl, inr, IsCompleted, IsOfCommands, List}
use Rattle.log_commands.proofs.Imports.{of_read, Ok, proof_answer, ProofMade, prove_parts, refl, same_or, Status}
use Rattle.log_commands.proofs.Imports.{status_is, sym, ℕ, ◌∙◌, ◌∷◌, ◌≡◌, ◌≢◌}
use Rattle.log_commands.proofs.{OneOrderAnswer.OrderOne, OneProof.one_made, OneProof.ProofOne}
use Rattle.command_line.specs.declared.status.Status.TheVariants as status

-- over files it has one answer
pub prove_one : OrderOne → ProofOne → (roster proof : List ℕ) (logs : List (List ℕ)) →
    HasOneAnswer (prove_parts roster proof logs)
prove_one order one roster proof logs files a b =
    same_or (λ (m n : ProofMade). m ≡ n) _ (λ made given. given ≡ proof_answer proof made) a b
    (one_made order one roster proof logs files)
    (λ f g gives same x y. x ∙ ap (proof_answer proof) same ∙ sym y)

-- `prove` is carried out over files that give a proof
pub prove_completed : OrderOne → ProofOne → (roster proof : List ℕ) (logs : List (List ℕ)) →
    IsCompleted (prove_parts roster proof logs)
prove_completed order one roster proof logs files answer (inl (refusal, gives, e)) (made, given) =
    absurd (one_made order one roster proof logs files (Err refusal) (Ok made) gives given)
prove_completed order one roster proof logs files answer (inr (other, gives, told)) (made, given) =
    carried_out_as answer (proof_answer proof other) told tt

-- its statuses
abbrev own_statuses : List Status
own_statuses = status.Done ∷ status.Refused ∷ status.Absent ∷ []

pub prove_has_statuses : (roster proof : List ℕ) (logs : List (List ℕ)) → HasStatuses (prove_parts roster proof logs)
prove_has_statuses roster proof logs = record {
  own = λ files answer is.
      of_read own_statuses (1, omega arith, refl) (2, omega arith, refl) (GivesMade roster proof logs files)
      (λ (made : ProofMade) (given : Answer). given ≡ proof_answer proof made) answer
      (λ made told. contains_as own_statuses answer _ told (0, omega arith, refl)) is;
  some = All-from_recursion IsOfCommands own_statuses (tt, (tt, (tt, tt)));
}

-- the status of an answer with a proof isn't that of an absent file
pub prove_is_there : (proof : List ℕ) (made : ProofMade) (answer : Answer) → answer ≡ proof_answer proof made →
    answer.status ≢ status.Absent
prove_is_there proof made answer told is =
    let no : status.Done ≡ status.Absent = sym (status_is answer (proof_answer proof made) told) ∙ is in cc
