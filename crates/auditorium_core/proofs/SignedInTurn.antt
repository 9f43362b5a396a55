-- The number of an office is in place before a signature with it is begun.
use Rattle.auditorium_core.proofs.Imports
use Imports.{[], absent, Answer, AnswersWords, ap, arith, Bool, Command, drop-nil, endorse, endorse_answer, false}
use Imports.{Files, GivesUnsigned, HasDone, inl, inr, IsEndorsement, IsGivenBy, IsSignedInTurn, IsWrittenBy, List}
use Imports.{Means, None, office_file, Ok, on_exposed, OnExposed, Option, OrRefused, outside, PlacesInTurn, refl}
use Imports.{Refusal, refusal_answer, refused, SignsInTurn, SinkGhosts, Some, Status, StoreGhosts, subst, sym, take-nil}
use Imports.{true, Unsigned, ℕ, ◌∙◌, ◌∷◌, ◌≡◌, ◌≢◌, ◌⊎◌}
use Rattle.auditorium_core.proofs.DoneCases.{done_cases, Giving}
use Rattle.auditorium_core.proofs.{Commands.of_command, OfficeCallsLeave.refusal_writes_none}
use Rattle.command_line.specs.declared.status.Status.TheVariants as status

-- where an answer has no file the store is as it was
none_in_turn : {S : Type 0} (of : StoreGhosts S) (answer : Answer) (old new : S) (ok : Bool) → answer.files ≡ [] →
    PlacesInTurn of answer old ok new → new ≡ old
none_in_turn of answer old new ok none (inl (calls, failed)) = (rw (none, take-nil) at calls).0
none_in_turn of answer old new ok none (inr (mid, calls, same, others)) =
    (rw (none, drop-nil) at others).0 ∙ (rw (none, take-nil) at calls).0

-- a refusal isn't done
refusal_not_done : (refusal : Refusal) → (refusal_answer refusal).status ≢ status.Done
refusal_not_done (absent file) e = let no : status.Absent ≡ status.Done = e in cc
refusal_not_done (refused file place cause) e = let no : status.Refused ≡ status.Done = e in cc

-- the answer is a refusal's, or that of what was read in these files
abbrev IsRefusedOrRead : Option Files → List ℕ → List ℕ → Answer → Type 0
IsRefusedOrRead told name file answer =
    ((refusal : Refusal) × (answer ≡ refusal_answer refusal))
    ⊎ ((read : Unsigned) × OnExposed told (office_file name ∷ file ∷ [])
    (λ files. GivesUnsigned name file files (Ok read)) × (answer ≡ endorse_answer name file read))

-- an answer over exposed files, or over some, is so
refused_or_read : (told : Option Files) (name file : List ℕ) (answer : Answer) →
    OnExposed told (office_file name ∷ file ∷ [])
    (λ files. OrRefused (GivesUnsigned name file files) (IsEndorsement name file) answer) →
    IsRefusedOrRead told name file answer
refused_or_read None name file answer (files, many, inl (refusal, gives, e)) = inl (refusal, e)
refused_or_read None name file answer (files, many, inr (read, gives, is)) = inr (read, (files, many, gives), is.told)
refused_or_read (Some at) name file answer (inl (refusal, gives, e)) = inl (refusal, e)
refused_or_read (Some at) name file answer (inr (read, gives, is)) = inr (read, gives, is.told)

module _ {S K : Type 0} (of : StoreGhosts S) (of_sink : SinkGhosts K) (IsDone : Command → Type 0)
    (words : List (List ℕ)) (name file : List ℕ) (done : IsDone (endorse name file))
    (means : Means words (endorse name file)) (old new : S) (out out_after : K) where
  abbrev IsGiven : Giving
  IsGiven = IsGivenBy of of_sink old out new out_after

  -- the calls of the store, whether or not the output could be written
  placed : (answer : Answer) (mid : S) (ok : Bool) → IsWrittenBy of of_sink answer mid out ok new out_after →
      (way : Bool) × PlacesInTurn of answer mid way new × (ok ≡ true → way ≡ true)
  placed answer mid ok (inl (calls, same, failed)) = (false, calls, λ e. sym failed ∙ e)
  placed answer mid ok (inr (calls, written)) = (true, calls, λ e. refl)

  -- an answer that was given is a refusal, which no call of the store followed, or was placed in turn
  abbrev IsEither : Answer → Bool → Type 0
  IsEither answer ok =
      ((answer.status ≢ status.Done) × (of.write_faults new ≡ of.write_faults old))
      ⊎ ((way : Bool) × SignsInTurn of name file old way new × (ok ≡ true → way ≡ true))

  either : (answer : Answer) (ok : Bool) → AnswersWords IsDone words (IsGiven answer ok) answer → IsEither answer ok
  either answer ok is =
      let (mid, on, files, faults, calls) = of_command IsDone words (IsGiven answer ok) (endorse name file) answer done
      means is in
      let (way, made, whole) = placed answer mid ok calls in
      elim (refused_or_read (of.files old) name file answer
      (on_exposed of (office_file name ∷ file ∷ [])
      (λ files. OrRefused (GivesUnsigned name file files) (IsEndorsement name file) answer) old mid on)) [
        | inl (refusal, e) ↦ inl (
          rw e (refusal_not_done refusal),
          ap of.write_faults (none_in_turn of answer mid new way
              (ap (λ (a : Answer). a.files) e ∙ refusal_writes_none refusal) made) ∙ faults,
        )
        | inr (read, gives, e) ↦
            (let turn = subst (λ (a : Answer). PlacesInTurn of a mid way new) e made in
            inr (way, (read, gives, mid, files, turn), whole))
      ]

  -- what follows of the call
  abbrev Follows : Status → Type 0
  Follows how = IsSignedInTurn of name file old how new

  -- where no write failed and nothing was done
  nothing : (how : Status) → how ≢ status.Done → of.write_faults new ≡ of.write_faults old → Follows how
  nothing how other same = record { done = λ e. absurd (other e); failed = λ more. absurd (omega (arith, more, same)) }

  -- where an answer was given
  given : (how : Status) (answer : Answer) (ok : Bool) →
      (how ≡ status.Done → (answer.status ≡ status.Done) × (ok ≡ true)) →
      IsEither answer ok → Follows how
  given how answer ok whole (inl (other, same)) = nothing how (λ e. other (whole e).0) same
  given how answer ok whole (inr (way, signs, all)) = record {
    done = λ e. subst (λ (b : Bool). SignsInTurn of name file old b new) (all (whole e).1) signs;
    failed = λ more. (way, signs);
  }

  pub signed_in_turn : (how : Status) →
      HasDone IsDone words IsGiven (outside of of_sink old out) how (outside of of_sink new out_after) → Follows how
  signed_in_turn =
      done_cases IsDone words IsGiven (outside of of_sink old out) (outside of of_sink new out_after) Follows
      (λ (risen, unwritten). nothing status.ReadFault (λ e. cc) unwritten.write_faults)
      (λ (answer, gives, cut). given status.WriteFault answer false (λ e. cc) (either answer false gives.answers))
      (λ (unwritten, same). nothing status.Memory (λ e. cc) unwritten.write_faults)
      (λ how some (answer, gives, is, written). given how answer true (λ e. (sym is ∙ e, refl))
      (either answer true gives.answers))
