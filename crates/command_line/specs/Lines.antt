-- Answers that write no file.
use Rattle.std.specs.Prelude.{◌≡◌, ◌⊎◌, ℕ, List, [], ◌∷◌, ◌++◌, codes, Result, Ok, Err}
use Rattle.evidence.specs.Refusal.{Refusal, absent, refused}
use Rattle.log_files.specs.Lines.{line, refused_line}
use Rattle.command_line.specs.declared.status.Status.{Status}
use Rattle.command_line.specs.declared.status.Status.TheVariants as status

-- an answer: how the program ends, the files with their bytes in the order of writing, how many of
-- them are put in place before the others are begun, and the output
pub record Answer : Type 0 where
  pub status : Status
  pub files : List (List ℕ × List ℕ)
  pub ahead : ℕ
  pub output : List ℕ

-- an answer whose output is this one line
abbrev pub line_answer : Status → List ℕ → Answer
line_answer how text = record { status = how; files = []; ahead = 0; output = line text }

-- the answer to an invalid command line
abbrev pub usage_answer : Answer
usage_answer = line_answer status.Usage (codes "usage")

-- the named file isn't there
abbrev pub absent_answer : List ℕ → Answer
absent_answer name = line_answer status.Absent (codes "absent " ++ name)

-- the named file is refused
abbrev pub refused_answer : List ℕ → ℕ → List ℕ → Answer
refused_answer name place cause = line_answer status.Refused (refused_line name place cause)

-- what an audit goes on is refused
abbrev pub refusal_answer : Refusal → Answer
refusal_answer (absent file) = absent_answer file
refusal_answer (refused file place cause) = refused_answer file place cause

-- the answer where something is read: its refusal, or what holds of the answer for what is found
abbrev pub OrRefused : {T : Type 0} → (Result T Refusal → Type 0) → (T → Answer → Type 0) → Answer → Type 0
OrRefused {T} Gives IsFor answer =
    ((refusal : Refusal) × Gives (Err refusal) × (answer ≡ refusal_answer refusal))
    ⊎ ((found : T) × Gives (Ok found) × IsFor found answer)

-- findings, where there is any line
abbrev pub status_of : List ℕ → Status
status_of [] = status.Done
status_of (byte ∷ bytes) = status.Findings

-- an answer of these lines
abbrev pub findings_answer : List ℕ → Answer
findings_answer lines = record { status = status_of lines; files = []; ahead = 0; output = lines }

-- undone, where there is any line
abbrev pub status_of_undone : List ℕ → Status
status_of_undone [] = status.Done
status_of_undone (byte ∷ bytes) = status.Undone
