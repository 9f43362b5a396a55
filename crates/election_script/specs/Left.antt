-- What is left to read of a script's text: lines that aren't passed over, each as its kind and the
-- words after its first.
use Rattle.std.specs.Prelude.{ℕ, ◌+◌, ◌==◌, nat_le, Bool, false, if◌then◌else◌, List, [], ◌∷◌, ◌++◌, length}
use Rattle.std.specs.Prelude.{Option, Some, None, Result, Ok, Err}
use Rattle.std.specs.List.{list_all, slice_split}
use Rattle.roster.specs.Machines.{max_machines}
use Rattle.input_causes.specs.declared.script.ScriptWhy.{ScriptWhy}
use Rattle.input_causes.specs.declared.script.ScriptWhy.TheVariants.{NotPlain, UnknownWord, OutOfOrder, OutOfRange}
use Rattle.election_script.specs.declared.faults.ScriptFault.{ScriptFault}
use Rattle.election_script.specs.declared.faults.ScriptFault.TheVariants.{At}
use Rattle.election_script.specs.declared.kinds.Kind.{Kind}
use Rattle.election_script.specs.declared.kinds.Kind.TheVariants as kind
use Rattle.election_script.specs.Grammar.{is_passed_over}
use Rattle.election_script.specs.Kinds.{line_kinds, rank}
use Rattle.election_script.specs.Lawful.{max_actions, max_loses, max_steps}
use Rattle.election_script.specs.Words.{LineRead, ◌>>=◌, is_between, in_table}

-- the words of a line, which each space ends: two spaces together, or one at an end, make an empty
-- word
abbrev pub words_of : List ℕ → List (List ℕ)
words_of line = slice_split (λ byte. byte == 32) line

-- a line's kind and the words after its first, or the first cause against these
abbrev pub Head : Type 0
Head = LineRead (Kind × List (List ℕ))

-- the kind that the first word names, and the other words
abbrev pub kind_and_words : List (List ℕ) → Head
kind_and_words [] = Err UnknownWord
kind_and_words (word ∷ words) = in_table line_kinds word >>= λ kind. Ok (kind, words)

-- a line's kind and the words after its first, where its bytes are from a space to `~`
abbrev pub head_of : List ℕ → Head
head_of line = if list_all (is_between 32 126) line then kind_and_words (words_of line) else Err NotPlain

-- the lines that are left, each after its number, and at the end the number after that of the last
pub data Left : Type 0 where
  End : (number : ℕ) → Left
  Next : (number : ℕ) → (head : Head) → (left : Left) → Left

-- lines that aren't passed over, of which the first has the number
abbrev pub left_from : ℕ → List (List ℕ) → Left
left_from number [] = End number
left_from number (line ∷ lines) =
    if is_passed_over line then left_from (number + 1) lines
    else Next number (head_of line) (left_from (number + 1) lines)

-- what is read of lines, or the first fault
abbrev pub LinesRead : Type 0 → Type 0
LinesRead A = Result A ScriptFault

-- what is read of the line of the number
abbrev pub at_line : {A : Type 0} → ℕ → LineRead A → LinesRead A
at_line number (Ok value) = Ok value
at_line number (Err why) = Err (At number why)

-- the fault where what is left isn't what must come: the next line's own, or else this one
abbrev pub fault_here : ScriptWhy → Left → ScriptFault
fault_here why (End number) = At number why
fault_here why (Next number (Ok head) left) = At number why
fault_here why (Next number (Err own) left) = At number own

-- whether the kinds are one
abbrev pub is_same_kind : Kind → Kind → Bool
is_same_kind kind other = rank kind == rank other

-- one line of the kind, and what is left after it
abbrev pub one : {A : Type 0} → Kind → (List (List ℕ) → LineRead A) → Left → LinesRead (A × Left)
one kind read (Next number (Ok (found, words)) left) =
    if is_same_kind kind found then (at_line number (read words) >>= λ value. Ok (value, left))
    else Err (At number OutOfOrder)
one kind read left = Err (fault_here OutOfOrder left)

-- how many lines there may be of a kind
abbrev pub most_lines : Kind → Option ℕ
most_lines kind.Machine = Some max_machines
most_lines kind.Do = Some max_actions
most_lines kind.Lose = Some max_loses
most_lines kind.Step = Some max_steps
most_lines kind = None

-- whether a count of lines is the greatest that there may be
abbrev pub is_most : Option ℕ → ℕ → Bool
is_most None count = false
is_most (Some most) count = nat_le most count

-- the value of a line after these of its kind, unless there are as many as there may be
abbrev pub unless_full : {A : Type 0} → Kind → List A → A → LineRead A
unless_full kind values value = if is_most (most_lines kind) (length values) then Err OutOfRange else Ok value

-- all lines of the kind that come next, each after the values of those before, and what is left
-- after them
abbrev pub many : {A : Type 0} → Kind → (List A → List (List ℕ) → LineRead A) → List A → Left →
    LinesRead (List A × Left)
many kind read values (Next number (Ok (found, words)) left) =
    if is_same_kind kind found
    then (at_line number (read values words >>= unless_full kind values) >>= λ value.
    many kind read (values ++ value ∷ []) left)
    else Ok (values, Next number (Ok (found, words)) left)
many kind read values left = Ok (values, left)

-- one line of the kind or more
abbrev pub some : {A : Type 0} → Kind → (List A → List (List ℕ) → LineRead A) → List A → Left →
    LinesRead (List A × Left)
some kind read values (Next number (Ok (found, words)) left) =
    if is_same_kind kind found then many kind read values (Next number (Ok (found, words)) left)
    else Err (At number OutOfOrder)
some kind read values left = Err (fault_here OutOfOrder left)
