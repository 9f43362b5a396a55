-- A command whose inputs are all accepted is carried out.
use Rattle.auditorium_core.proofs.Imports.{Answer, Command, command_parts, HasDone, HasRisen, inl, inr, IsCarriedOut}
use Rattle.auditorium_core.proofs.Imports.{IsGivenBy, IsGivenSomehow, IsUnwritten, IsWritten, List, Means, on_weaker}
use Rattle.auditorium_core.proofs.Imports.{OnExposed, Option, Outside, outside, refl, SinkGhosts, Status, StoreGhosts}
use Rattle.auditorium_core.proofs.Imports.{subst, sym, true, ℕ, ◌≡◌, ◌⊎◌}
use Rattle.auditorium_core.specs.Complete.{HasNoFailure, IsAnsweredAsRead, IsAnsweredOver, IsComplete, IsCompleteAsRead}
use Rattle.auditorium_core.proofs.{CitedLaws.CitedLaws, Commands.are_completed, Commands.of_command}
use Rattle.auditorium_core.proofs.{DoneCases.done_cases, DoneCases.Giving, Exposed.exposed_weaker}
use Rattle.command_line.specs.declared.status.Status.TheVariants as status

-- where no count rose, no write failed
no_cut : (old new : Outside) → HasNoFailure old new →
    HasRisen old.write_faults new.write_faults ⊎ HasRisen old.output_faults new.output_faults → ⊥
no_cut old new fault (inl risen) = fault.writes risen
no_cut old new fault (inr risen) = fault.output risen

module _ (laws : CitedLaws) (IsDone : Command → Type 0) (words : List (List ℕ)) (IsGiven : Giving) (old new : Outside)
    (IsSo : Command → Status → Type 0) where
  -- what was done where no count of faults rose is complete where an answer that was given whole is,
  -- with which the command is carried out over files that are accepted
  done_completely :
      ((command : Command) (how : Status) (answer : Answer) → how ≡ answer.status → IsWritten answer old new →
      IsGiven answer true (command_parts command).files (λ files. (command_parts command).IsAnswer files answer) →
      ((files : List (Option (List ℕ))) → (command_parts command).IsAnswer files answer →
      (command_parts command).AreAccepted files → IsCarriedOut how) → IsSo command how) →
      (how : Status) → HasDone IsDone words IsGiven old how new → (command : Command) → IsDone command →
      Means words command → HasNoFailure old new → IsSo command how ⊎ ((how ≡ status.Memory) × IsUnwritten old new)
  done_completely so how was command done means fault =
      done_cases IsDone words IsGiven old new (λ how. IsSo command how ⊎ ((how ≡ status.Memory) × IsUnwritten old new))
      (λ (risen, unwritten). absurd (fault.reads risen))
      (λ (answer, gives, cut). absurd (no_cut old new fault cut.cause))
      (λ (unwritten, same). inr (refl, unwritten))
      (λ how some (answer, gives, told, written). inl (so command how answer told written
      (of_command IsDone words (IsGiven answer true) command answer done means gives.answers)
      (λ files right given. subst IsCarriedOut (sym told) (are_completed laws command files answer right given))))
      how was

-- what was done where no count of faults rose is complete
pub complete : CitedLaws → (IsDone : Command → Type 0)
    (words : List (List ℕ)) (old : Outside) (how : Status) (new : Outside) →
    HasDone IsDone words (IsGivenSomehow old) old how new → IsComplete IsDone words old how new
complete laws IsDone words old how new =
    done_completely laws IsDone words (IsGivenSomehow old) old new
    (λ command how. OnExposed old.files (command_parts command).files (λ files.
    IsAnsweredOver command files old how new))
    (λ command how answer told written on done. exposed_weaker old.files (command_parts command).files
    (λ files. (command_parts command).IsAnswer files answer) (λ files. IsAnsweredOver command files old how new)
    (λ files right. record {
      answer = answer;
      right = right;
      told = told;
      carried_out = done files right;
      written = written;
    }) on) how

-- what was done where no count of faults rose is complete over what was read
pub complete_as_read : CitedLaws → {S K : Type 0} (of_store : StoreGhosts S) (of_sink : SinkGhosts K)
    (IsDone : Command → Type 0) (words : List (List ℕ)) (store store_after : S) (out out_after : K) (how : Status) →
    HasDone IsDone words (IsGivenBy of_store of_sink store out store_after out_after)
    (outside of_store of_sink store out) how (outside of_store of_sink store_after out_after) →
    IsCompleteAsRead of_store of_sink IsDone words store out how store_after out_after
complete_as_read laws of_store of_sink IsDone words store store_after out out_after =
    done_completely laws IsDone words (IsGivenBy of_store of_sink store out store_after out_after)
    (outside of_store of_sink store out) (outside of_store of_sink store_after out_after)
    (λ command how. IsAnsweredAsRead of_store of_sink command store out how store_after out_after)
    (λ command how answer told written (read, on, files, faults, calls) done. record {
      answer = answer;
      told = told;
      read = read;
      right = on_weaker of_store _ _ _ store read (λ files many right. (right, done files right)) on;
      written = calls;
    })
