-- What was done, by the status with which the program ends.
use Rattle.auditorium_core.proofs.Imports.{Answer, AnswersWords, Bool, Command, false, HasDone, IsAnswerOf, IsOfAnswers}
use Rattle.auditorium_core.proofs.Imports.{IsWritten, List, Option, Outside, Status, true, ℕ, ◌≡◌}
use Rattle.command_line.specs.declared.status.Status.TheVariants as status

-- how it is said of an answer that all the calls that give it, or all but the last, did as they
-- were asked, and that something holds of the files of some names
abbrev pub Giving : Type 1
Giving = Answer → Bool → List (List ℕ) → (List (Option (List ℕ)) → Type 0) → Type 0

module _ (IsDone : Command → Type 0) (words : List (List ℕ)) (IsGiven : Giving) (old new : Outside) where
  -- an answer was given whole, which has the status
  abbrev pub WasGiven : Status → Type 0
  WasGiven how =
      (answer : Answer) × IsAnswerOf IsDone words (IsGiven answer true) old new answer × (how ≡ answer.status)
      × IsWritten answer old new

  -- so the program has done it
  pub is_done : (how : Status) → IsOfAnswers how → WasGiven how → HasDone IsDone words IsGiven old how new
  is_done status.ReadFault some was = absurd some
  is_done status.WriteFault some was = absurd some
  is_done status.Memory some was = absurd some
  is_done how some was = was

  -- what follows in each case follows of what was done
  pub done_cases : (R : Status → Type 0) →
      (HasDone IsDone words IsGiven old status.ReadFault new → R status.ReadFault) →
      (HasDone IsDone words IsGiven old status.WriteFault new → R status.WriteFault) →
      (HasDone IsDone words IsGiven old status.Memory new → R status.Memory) →
      ((how : Status) → IsOfAnswers how → WasGiven how → R how) →
      (how : Status) → HasDone IsDone words IsGiven old how new → R how
  done_cases R read write memory given status.ReadFault done = read done
  done_cases R read write memory given status.WriteFault done = write done
  done_cases R read write memory given status.Memory done = memory done
  done_cases R read write memory given how done = given how tt done

-- what was done is what these commands do, in this way, where an answer that is right is so for
-- them
pub done_as : (IsDone IsDone' : Command → Type 0) (words : List (List ℕ)) (IsGiven IsGiven' : Giving)
    (old new : Outside) →
    ((answer : Answer) (ok : Bool) → AnswersWords IsDone words (IsGiven answer ok) answer →
    AnswersWords IsDone' words (IsGiven' answer ok) answer) →
    (how : Status) → HasDone IsDone words IsGiven old how new → HasDone IsDone' words IsGiven' old how new
done_as IsDone IsDone' words IsGiven IsGiven' old new step =
    done_cases IsDone words IsGiven old new (λ how. HasDone IsDone' words IsGiven' old how new) (λ done. done)
    (λ (answer, gives, cut). (answer, record { answers = step answer false gives.answers; absent = gives.absent }, cut))
    (λ done. done)
    (λ how some (answer, gives, told, written). is_done IsDone' words IsGiven' old new how some
    (answer, record { answers = step answer true gives.answers; absent = gives.absent }, told, written))
