-- What reading a proof's text answers: the lines of the proof, or the first fault. It goes line by
-- line, and on a line word by word from the left.
use Rattle.std.specs.Prelude.{ℕ, ◌+◌, ◌&&◌, ◌||◌, ◌==◌, nat_lt, Bool, true, false, List, [], ◌∷◌, ◌++◌, length, codes}
use Rattle.std.specs.Prelude.{Result, Ok, Err, ok_or}
use Rattle.std.specs.List.{slice_split, before_first, after_first, list_all, list_any}
use Rattle.std.specs.Str.{bytes_eq}
use Rattle.hall_text.specs.Words.{number_in}
use Rattle.precedence.specs.Graph.{Graph}
use Rattle.audit_proof.specs.declared.step.ProofStep.{ProofStep}
use Rattle.audit_proof.specs.declared.fault.ProofFault.{ProofFault}
use Rattle.audit_proof.specs.declared.fault.ProofFault.TheVariants.{At}
use Rattle.input_causes.specs.declared.proof.ProofWhy.{ProofWhy}
use Rattle.input_causes.specs.declared.proof.ProofWhy.TheVariants.{Form, WrongCount, OutOfRange}
use Rattle.input_causes.specs.declared.proof.ProofWhy.TheVariants.{NotRising, NotFalling}
use Rattle.input_causes.specs.declared.proof.ProofWhy.TheVariants.{NotReached, NotParent, NotClosed}
use Rattle.audit_proof.specs.Lines.{Line, listed_in}

-- ---- a text's lines, and a line's words

-- a line's bytes without its newline, and whether it is ended by one
pub record TextLine : Type 0 where
  pub bytes : List ℕ
  pub is_ended : Bool

-- what comes after the last newline: a line that isn't ended, or none where it is nothing
abbrev pub last_line : List ℕ → List TextLine
last_line [] = []
last_line (byte ∷ bytes) = record { bytes = byte ∷ bytes; is_ended = false } ∷ []

-- the lines that the parts between newlines are
abbrev pub lines_between : List (List ℕ) → List TextLine
lines_between [] = []
lines_between (last ∷ []) = last_line last
lines_between (part ∷ next ∷ parts) =
    record { bytes = part; is_ended = true } ∷ lines_between (next ∷ parts)

-- the lines of a text
abbrev pub lines_in : List ℕ → List TextLine
lines_in text = lines_between (slice_split (λ byte. byte == 10) text)

-- the words of a line, which each space ends
abbrev pub words_on : List ℕ → List (List ℕ)
words_on bytes = slice_split (λ byte. byte == 32) bytes

-- ---- up to the first cause

-- what is read, or the first cause against it
abbrev pub ProofRead : Type 0 → Type 0
ProofRead A = Result A ProofWhy

infixl 10 ◌>>=◌
-- one reading after another, up to the first cause
abbrev pub ◌>>=◌ : {A B E : Type 0} → Result A E → (A → Result B E) → Result B E
Ok value >>= next = next value
Err cause >>= next = Err cause

-- this cause, unless the test holds
abbrev pub need : Bool → ProofWhy → ProofRead (Unit {0})
need true why = Ok tt
need false why = Err why

-- ---- words

-- the number that a word is: of 32 bits, in decimal without leading zeros
abbrev pub decimal_read : List ℕ → ProofRead ℕ
decimal_read word = ok_or (number_in word) Form

-- the step that a word is: two numbers, before and after its first colon
unfoldable pub step_of_word : List ℕ → ProofRead ProofStep
step_of_word word = do
  ancestor ← decimal_read (before_first (λ byte. byte == 58) word)
  via ← decimal_read (after_first (λ byte. byte == 58) word)
  Ok (record { ancestor = ancestor; via = via })

-- the number that comes after this first word, and the words after the number
abbrev pub number_after : List ℕ → List (List ℕ) → ProofRead (ℕ × List (List ℕ))
number_after first (word ∷ number ∷ more) = do
  it ← need (bytes_eq word first) Form
  value ← decimal_read number
  Ok (value, more)
number_after first words = Err Form

-- ---- the first two lines

-- `proof 1`
unfoldable pub form_read : TextLine → ProofRead (Unit {0})
form_read line = need (bytes_eq line.bytes (codes "proof 1") && line.is_ended) Form

-- `entries` and the number of survivors
unfoldable pub count_read : ℕ → TextLine → ProofRead (Unit {0})
count_read count line = do
  said ← number_after (codes "entries") (words_on line.bytes)
  right ← need (said.0 == count) WrongCount
  need (length said.1 == 0 && line.is_ended) Form

-- ---- the line of a survivor

-- whether the number is the line's entry or is listed on the line
abbrev pub is_on_line : Line → ℕ → Bool
is_on_line line x = x == line.entry || list_any (λ z. z == x) (listed_in line.steps)

-- whether a step goes on a line that begins with this one
unfoldable pub step_fits : Graph → Line → ProofStep → ProofRead (Unit {0})
step_fits graph line step = do
  survivors ← need (nat_lt step.ancestor graph.count && nat_lt step.via graph.count) OutOfRange
  falls ← need (list_all (λ earlier. nat_lt step.ancestor earlier.ancestor) line.steps) NotFalling
  reached ← need (is_on_line line step.via) NotReached
  need (list_any (λ parent. parent == step.ancestor) (graph.parents step.via)) NotParent

-- the line with one step more
abbrev pub with_step : Line → ProofStep → Line
with_step line step = record { entry = line.entry; steps = line.steps ++ step ∷ [] }

-- the line that begins with this one and goes on with these words
abbrev pub steps_read : Graph → Line → List (List ℕ) → ProofRead Line
steps_read graph line [] = Ok line
steps_read graph line (word ∷ words) = do
  step ← step_of_word word
  fits ← step_fits graph line step
  steps_read graph (with_step line step) words

-- whether the line lists each parent of a survivor
abbrev pub lists_parents : Graph → Line → ℕ → Bool
lists_parents graph line x =
    list_all (λ parent. list_any (λ z. z == parent) (listed_in line.steps)) (graph.parents x)

-- whether it lists the parents of its entry and of all that it lists
abbrev pub lacks_no_parent : Graph → Line → Bool
lacks_no_parent graph line =
    lists_parents graph line line.entry
    && list_all (lists_parents graph line) (listed_in line.steps)

-- the end of a line: nothing is missing
unfoldable pub end_read : Graph → Bool → Line → ProofRead Line
end_read graph is_ended line = do
  ended ← need is_ended Form
  closed ← need (lacks_no_parent graph line) NotClosed
  Ok line

-- the line of an entry, which has to rise, from the words after it
unfoldable pub line_of_entry : Graph → (ℕ → Bool) → Bool → ℕ × List (List ℕ) → ProofRead Line
line_of_entry graph rises is_ended (entry, words) = do
  survivor ← need (nat_lt entry graph.count) OutOfRange
  above ← need (rises entry) NotRising
  line ← steps_read graph (record { entry = entry; steps = [] }) words
  end_read graph is_ended line

-- `past`, an entry, and its steps
unfoldable pub past_read : Graph → (ℕ → Bool) → TextLine → ProofRead Line
past_read graph rises line =
    number_after (codes "past") (words_on line.bytes) >>= line_of_entry graph rises line.is_ended

-- ---- the text

-- what is read of the line of the number
abbrev pub at_number : {A : Type 0} → ℕ → ProofRead A → Result A ProofFault
at_number number (Ok value) = Ok value
at_number number (Err why) = Err (At number why)

-- the lines after the first, of which this is read
abbrev pub after_line : (TextLine → ProofRead (Unit {0})) → List TextLine
    → ProofRead (List TextLine)
after_line read [] = Err Form
after_line read (line ∷ lines) = read line >>= λ it. Ok lines

-- whether an entry is above those of all these lines
abbrev pub is_above : List Line → ℕ → Bool
is_above lines entry = list_all (λ line. nat_lt line.entry entry) lines

-- these lines of survivors, and those that follow them
abbrev pub lines_read : Graph → List Line → List TextLine → Result (List Line) ProofFault
lines_read graph lines [] = Ok lines
lines_read graph lines (next ∷ more) = do
  line ← at_number (length lines + 3) (past_read graph (is_above lines) next)
  lines_read graph (lines ++ line ∷ []) more

-- the proof that a text is of, or the text's first fault
unfoldable pub proof_of : Graph → List ℕ → Result (List Line) ProofFault
proof_of graph text = do
  second ← at_number 1 (after_line form_read (lines_in text))
  pasts ← at_number 2 (after_line (count_read graph.count) second)
  lines_read graph [] pasts
