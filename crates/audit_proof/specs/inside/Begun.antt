-- A line that is being read.
use Rattle.std.specs.Prelude.{◌≡◌, ℕ, ◌<◌, ◌≤◌, ◌&&◌, ◌==◌, nat_lt, Bool, false, List, [], ◌∷◌, length, drop, All}
use Rattle.std.specs.Prelude.{Result, Ok, Err, Option, Some, None, slice_index_or}
use Rattle.std.specs.List.{list_all, list_any}
use Rattle.precedence.specs.Graph.{Graph}
use Rattle.audit_proof.specs.declared.step.ProofStep.{ProofStep}
use Rattle.input_causes.specs.declared.proof.ProofWhy.TheVariants.{Form, OutOfRange, NotFalling}
use Rattle.input_causes.specs.declared.proof.ProofWhy.TheVariants.{NotReached, NotParent}
use Rattle.audit_proof.specs.declared.reading.Unread.{Unread}
use Rattle.audit_proof.specs.declared.reading.Unread.TheVariants.{Why, Memory}
use Rattle.audit_proof.specs.declared.reading.LineSteps.{LineSteps}
use Rattle.audit_proof.specs.declared.reading.Numbered.{Numbered}
use Rattle.audit_proof.specs.Lines.{Line, listed_in}
use Rattle.audit_proof.specs.Reading.{TextLine, ProofRead, ◌>>=◌, need, words_on, is_on_line, steps_read}

-- the line of an entry with these steps
abbrev pub line_with : ℕ → List ProofStep → Line
line_with entry steps = record { entry = entry; steps = steps }

-- a line of these bytes
abbrev pub text_line : List ℕ → Bool → TextLine
text_line bytes ended = record { bytes = bytes; is_ended = ended }

-- the words of bytes in which each word comes after a space
abbrev pub spaced : List ℕ → List (List ℕ)
spaced [] = []
spaced (space ∷ bytes) = words_on bytes

-- the number that was found on a line, and the words after its end
abbrev pub numbered : List ℕ → Option Numbered → ProofRead (ℕ × List (List ℕ))
numbered line None = Err Form
numbered line (Some found) = Ok (found.number, spaced (drop found.end line))

-- whether a step goes on a line, by a table of what is reached there and a bound below which
-- ancestors fall
unfoldable pub step_tests : Graph → List Bool → ℕ → ProofStep → ProofRead (Unit {0})
step_tests graph reached bound step = do
  survivors ← need (nat_lt step.ancestor graph.count && nat_lt step.via graph.count) OutOfRange
  falls ← need (nat_lt step.ancestor bound) NotFalling
  met ← need (slice_index_or reached step.via false) NotReached
  need (list_any (λ parent. parent == step.ancestor) (graph.parents step.via)) NotParent

-- the table shows what is listed
abbrev pub IsListedTable : List ProofStep → List Bool → Type 0
IsListedTable steps listed =
    (x : ℕ) → slice_index_or listed x false ≡ list_any (λ z. z == x) (listed_in steps)

-- of the words after a line's entry those before `at` were read: these steps, of which this is
-- reached
pub record IsReading (graph : Graph) (entry : ℕ) (words : List ℕ) (steps : List ProofStep)
    (reached : List Bool) (bound at : ℕ) : Type 0 where
  pub within : at ≤ length words
  pub goes_on : steps_read graph (line_with entry []) (spaced words)
      ≡ steps_read graph (line_with entry steps) (spaced (drop at words))
  pub each : length reached ≡ graph.count
  pub shows : (x : ℕ) → slice_index_or reached x false ≡ is_on_line (line_with entry steps) x
  pub bounded : (x : ℕ) → x < graph.count →
      list_all (λ earlier. nat_lt x earlier.ancestor) steps ≡ nat_lt x bound
  pub below : All (λ step. step.ancestor < entry) steps

-- the steps that the words are, and a table of them; or the first cause against the words
abbrev pub IsWordsAnswer : Graph → ℕ → List ℕ → Result LineSteps Unread → Type 0
IsWordsAnswer graph entry words (Ok read) =
    (steps_read graph (line_with entry []) (spaced words) ≡ Ok (line_with entry read.steps.items))
    × (length read.listed.items ≡ graph.count) × IsListedTable read.steps.items read.listed.items
IsWordsAnswer graph entry words (Err (Why why)) =
    steps_read graph (line_with entry []) (spaced words) ≡ Err why
IsWordsAnswer graph entry words (Err Memory) = Unit {0}

-- what is read, unless memory runs out
abbrev pub Told : {A : Type 0} → ProofRead A → Result A Unread → Type 0
Told read (Ok value) = read ≡ Ok value
Told read (Err (Why why)) = read ≡ Err why
Told read (Err Memory) = Unit {0}
