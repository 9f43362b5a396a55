-- The commands that go by a script.
use Rattle.evidence.specs.declared.fault.InputFault.TheVariants as audit
use Rattle.command_line.specs.declared.status.Status.TheVariants as status
use Rattle.place_commands.proofs.Imports.{[], All, All-from_recursion, Answer, arith, Contains, Err, Fault}
use Rattle.place_commands.proofs.Imports.{found_answered, GivesScript, IfErr, IfOk, inl, InputFault, inr}
use Rattle.place_commands.proofs.Imports.{IsAbsentAnswer, IsAnswered, IsAnswerOfFault, IsCarriedOut, IsOfCommands}
use Rattle.place_commands.proofs.Imports.{IsReadFromFile, IsRightAsRead, IsScriptFile, List, None, of_read, Ok, on_one}
use Rattle.place_commands.proofs.Imports.{one_or, OnOneFile, Option, OrRefused, play_statuses, ReadFault, refl, Refusal}
use Rattle.place_commands.proofs.Imports.{refusal_answer, refused_answered, Result, Script, Some, status_of_undone}
use Rattle.place_commands.proofs.Imports.{StoreGhosts, ℕ, ◌↔◌, ◌∷◌, ◌≡◌, ◌≢◌}
use Rattle.place_commands.proofs.{OnePlayAnswer.one_script, OnePlayAnswer.PlayOne, ScriptFiles.itself}

-- each status of lines on what is left is of a command that was carried out
undone_done : (lines : List ℕ) → IsCarriedOut (status_of_undone lines)
undone_done [] = tt
undone_done (byte ∷ bytes) = tt

-- and is one of those of machines that play
undone_status : (lines : List ℕ) → Contains play_statuses (status_of_undone lines)
undone_status [] = (0, omega arith, refl)
undone_status (byte ∷ bytes) = (1, omega arith, refl)

-- but isn't that of an absent file
not_absent : (lines : List ℕ) → status_of_undone lines ≢ status.Absent
not_absent [] e = cc
not_absent (byte ∷ lines) e = cc

-- the statuses of machines that play are ones that commands can have
pub play_statuses_some : All IsOfCommands play_statuses
play_statuses_some = All-from_recursion IsOfCommands play_statuses (tt, (tt, (tt, (tt, tt))))

-- each answer for a script has the status of lines on what is left
abbrev pub TellsUndone : (Script → Answer → Type 0) → Type 0
TellsUndone IsFor =
    (script : Script) (answer : Answer) → IsFor script answer →
    (lines : List ℕ) × (answer.status ≡ status_of_undone lines)

module _ (name : List ℕ) (IsFor : Script → Answer → Type 0) where
  -- what is done with the script in a list of one file
  abbrev pub IsDoneWith : List (Option (List ℕ)) → Answer → Type 0
  IsDoneWith files answer = OnOneFile (λ file. OrRefused (GivesScript name file) IsFor answer) files

  -- it has one answer, where a script has
  pub script_one : PlayOne → ((script : Script) (a b : Answer) → IsFor script a → IsFor script b → a ≡ b) →
      (files : List (Option (List ℕ))) (a b : Answer) → IsDoneWith files a → IsDoneWith files b → a ≡ b
  script_one one same (file ∷ []) a b x y =
      one_or (GivesScript name file) IsFor a b (one_script one name file) (λ script gives. same script a b) x y
  script_one one same [] a b x y = absurd x
  script_one one same (file ∷ other ∷ more) a b x y = absurd x

  module _ (tells : TellsUndone IsFor) where
    -- it is carried out over a script's file
    pub script_completed : PlayOne → (files : List (Option (List ℕ))) (answer : Answer) → IsDoneWith files answer →
        OnOneFile IsScriptFile files → IsCarriedOut answer.status
    script_completed one (file ∷ []) answer (inr (script, gives, is)) given =
        let (lines, how) = tells script answer is in rw how (undone_done lines)
    script_completed one (Some bytes ∷ []) answer (inl (refusal, gives, e)) (fits, (script, reads)) =
        let same : Err refusal ≡ Ok script = one_script one name (Some bytes) (Err refusal) (Ok script) gives
        (inr (inr (fits, (script, reads, refl)))) in
        absurd (let no : ⊥ = cc in no)
    script_completed one (None ∷ []) answer (inl refused) given = absurd given
    script_completed one [] answer right given = absurd right
    script_completed one (file ∷ other ∷ more) answer right given = absurd right

    -- it has the statuses of machines that play, as a refusal has
    pub script_status : (files : List (Option (List ℕ))) (answer : Answer) → IsDoneWith files answer →
        Contains play_statuses answer.status
    script_status (file ∷ []) answer right =
        of_read play_statuses (2, omega arith, refl) (3, omega arith, refl) (GivesScript name file) IsFor answer
        (λ script is. let (lines, how) = tells script answer is in rw how (undone_status lines)) right
    script_status [] answer right = absurd right
    script_status (file ∷ other ∷ more) answer right = absurd right

  module _ {S : Type 0} (of : StoreGhosts S) (old new : S) where
    -- what the script's file gives, in a list
    abbrev GivesOne : List (Option (List ℕ)) → Result Script Refusal → Type 0
    GivesOne files answer = OnOneFile (λ file. GivesScript name file answer) files

    -- the result is the answer to the command, or its fault
    abbrev IsAnsweredSo : Result Answer Fault → Type 0
    IsAnsweredSo result =
        IsAnswered of (IsRightAsRead of itself (name ∷ []) GivesOne IsDoneWith old new) IsAbsentAnswer old result new

    -- a script that is refused is answered so
    pub script_refused : (fault : InputFault) (result : Result Answer Fault)
        → IsReadFromFile of itself name (GivesScript name) old (Err fault) new → IfOk result (IsAnswerOfFault fault)
        → IfErr result (λ why. (why ≡ ReadFault) ↔ (fault ≡ audit.ReadFault)) → IsAnsweredSo result
    script_refused fault result given told why =
        refused_answered of itself (name ∷ []) GivesOne IsDoneWith old new fault result given told why
        (λ files refusal. on_one (λ file. GivesScript name file (Err refusal))
        (λ fs. IsDoneWith fs (refusal_answer refusal)) files (λ file gives. inl (refusal, gives, refl)))

    -- what is done with a script that was read is answered
    pub script_answered : TellsUndone IsFor → (script : Script) (answer : Answer)
        → IsReadFromFile of itself name (GivesScript name) old (Ok script) new → IsFor script answer
        → IsAnsweredSo (Ok answer)
    script_answered tells script answer given is =
        let (lines, how) = tells script answer is in
        found_answered of itself (name ∷ []) GivesOne IsDoneWith old new script (Ok answer) given
        (λ files. on_one (λ file. GivesScript name file (Ok script)) (λ fs. IsDoneWith fs answer) files
        (λ file gives. inr (script, gives, is))) (rw how (not_absent lines)) tt
