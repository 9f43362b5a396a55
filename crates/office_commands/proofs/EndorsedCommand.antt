-- The command `endorsed`.
use Rattle.command_line.specs.declared.status.Status.TheVariants as status
use Rattle.command_line.proofs.CommandProofs.{carried_out_as, contains_as, HasOneAnswer, HasStatuses, IsCompleted}
use Rattle.command_line.proofs.{CommandProofs.IsOfCommands, CommandProofs.of_read, SameOr.one_or}
use Rattle.office_commands.proofs.FileSteps.{one_bytes, one_last, one_of_files, read_completed}
use Rattle.office_commands.proofs.Imports.{All-from_recursion, Answer, arith, AtLast, endorsed_parts, FileThen}
use Rattle.office_commands.proofs.Imports.{GivesBytes, GivesSigned, inl, inr, IsCarriedOut, IsEndorsedVerdict}
use Rattle.office_commands.proofs.Imports.{line_answer, List, max_signed, max_small, refl, Refusal, Result, Signed}
use Rattle.office_commands.proofs.Imports.{subst, sym, ℕ, ◌∙◌, ◌≡◌}
use Rattle.std.proofs.Common.{Option}
use Rattle.std.specs.{List.Contains, Prelude.codes}

-- what is printed of a signature
abbrev pub good : Answer
good = line_answer status.Done (codes "good")

abbrev pub bad : Answer
bad = line_answer status.Findings (codes "bad")

-- the files give one answer
pub one_signed : (key file signature : List ℕ) (files : List (Option (List ℕ))) (p q : Result Signed Refusal) →
    GivesSigned key file signature files p → GivesSigned key file signature files q → p ≡ q
one_signed key file signature =
    one_of_files (GivesBytes max_small key)
    (λ k. FileThen (GivesBytes max_signed file)
    (λ m. FileThen (GivesBytes max_small signature)
    (λ s. AtLast (record { key = k; bytes = m; signature = s })))) (one_bytes max_small key)
    (λ k. one_of_files (GivesBytes max_signed file)
    (λ m. FileThen (GivesBytes max_small signature) (λ s. AtLast (record { key = k; bytes = m; signature = s })))
    (one_bytes max_signed file)
    (λ m. one_of_files (GivesBytes max_small signature)
    (λ s. AtLast (record { key = k; bytes = m; signature = s })) (one_bytes max_small signature)
    (λ s. one_last (record { key = k; bytes = m; signature = s }))))

-- a signature is good or bad
one_verdict : (read : Signed) (a b : Answer) → IsEndorsedVerdict read a → IsEndorsedVerdict read b → a ≡ b
one_verdict read a b (inl (is, e)) (inl (also, f)) = e ∙ sym f
one_verdict read a b (inl (is, e)) (inr (none, f)) = absurd (none is)
one_verdict read a b (inr (none, e)) (inl (is, f)) = absurd (none is)
one_verdict read a b (inr (none, e)) (inr (also, f)) = e ∙ sym f

-- over files the command has one answer
pub endorsed_one : (key file signature : List ℕ) → HasOneAnswer (endorsed_parts key file signature)
endorsed_one key file signature files a b x y =
    one_or (GivesSigned key file signature files) IsEndorsedVerdict a b (one_signed key file signature files)
    (λ read gives. one_verdict read a b) x y

-- which is that of a command that was carried out
told_done : (read : Signed) (answer : Answer) → IsEndorsedVerdict read answer → IsCarriedOut answer.status
told_done read answer (inl (is, e)) = carried_out_as answer good e tt
told_done read answer (inr (none, e)) = carried_out_as answer bad e tt

pub endorsed_completed : (key file signature : List ℕ) → IsCompleted (endorsed_parts key file signature)
endorsed_completed key file signature files answer right (read, given) =
    read_completed (GivesSigned key file signature files) IsEndorsedVerdict answer read
    (one_signed key file signature files) given (λ found. told_done found answer) right

-- and has its statuses
of_verdict : (key file signature : List ℕ) (read : Signed) (answer : Answer) → IsEndorsedVerdict read answer →
    Contains (endorsed_parts key file signature).statuses answer.status
of_verdict key file signature read answer (inl (is, e)) =
    contains_as (endorsed_parts key file signature).statuses answer good e (0, omega arith, refl)
of_verdict key file signature read answer (inr (none, e)) =
    contains_as (endorsed_parts key file signature).statuses answer bad e (1, omega arith, refl)

pub endorsed_has_statuses : (key file signature : List ℕ) → HasStatuses (endorsed_parts key file signature)
endorsed_has_statuses key file signature = record {
  own = λ files answer is.
      of_read (endorsed_parts key file signature).statuses (2, omega arith, refl) (3, omega arith, refl)
      (GivesSigned key file signature files) IsEndorsedVerdict answer
      (λ read. of_verdict key file signature read answer) is;
  some = All-from_recursion IsOfCommands (endorsed_parts key file signature).statuses (tt, (tt, (tt, (tt, tt))));
}
