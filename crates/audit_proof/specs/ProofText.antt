-- The text of a proof: lines, each ended by a newline, of words with one space between them.
use Rattle.std.specs.Prelude.{ℕ, List, [], ◌∷◌, ◌++◌, codes}
use Rattle.std.specs.List.{flat_map}
use Rattle.std.specs.Fmt.{decimal}
use Rattle.audit_proof.specs.declared.step.ProofStep.{ProofStep}
use Rattle.audit_proof.specs.Lines.{Line}

-- an ancestor, a colon, and the entry via which it is reached, in decimal without leading zeros
abbrev pub step_word : ProofStep → List ℕ
step_word step = decimal step.ancestor ++ 58 ∷ decimal step.via

-- a space, and that word
abbrev pub step_text : ProofStep → List ℕ
step_text step = 32 ∷ step_word step

-- `past`, a space, the entry, and its ancestors, without the newline
abbrev pub line_words : Line → List ℕ
line_words line = codes "past " ++ decimal line.entry ++ flat_map step_text line.steps

-- the line, ended by a newline
abbrev pub line_text : Line → List ℕ
line_text line = line_words line ++ 10 ∷ []

-- the line of the form
abbrev pub form_line : List ℕ
form_line = codes "proof 1" ++ 10 ∷ []

-- the line of the number of survivors
abbrev pub survivors_line : ℕ → List ℕ
survivors_line count = codes "entries " ++ decimal count ++ 10 ∷ []

-- the line of the form and that of the number of survivors
abbrev pub head_text : ℕ → List ℕ
head_text count = form_line ++ survivors_line count

-- the proof's text, for this number of survivors
abbrev pub proof_text : ℕ → List Line → List ℕ
proof_text count lines = head_text count ++ flat_map line_text lines
