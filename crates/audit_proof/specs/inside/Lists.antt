-- The lines of a proof that is being read.
use Rattle.std.specs.Prelude.{◌≡◌, ℕ, ◌+◌, ◌≤◌, nat_le, nat_lt, List, [], length, drop}
use Rattle.std.specs.Prelude.{if◌then◌else◌}
use Rattle.precedence.specs.Graph.{Graph}
use Rattle.audit_proof.specs.declared.fault.ProofFault.{ProofFault}
use Rattle.audit_proof.specs.declared.fault.ProofFault.TheVariants.{At, Memory as OutOfMemory}
use Rattle.audit_proof.specs.declared.reading.Unread.{Unread}
use Rattle.audit_proof.specs.declared.reading.Unread.TheVariants.{Why, Memory}
use Rattle.audit_proof.specs.declared.whole_text.LineAt.{LineAt}
use Rattle.audit_proof.specs.Lines.{Line}
use Rattle.audit_proof.specs.Reading.{lines_in, is_above, lines_read}
use Rattle.audit_proof.specs.inside.Bytes.{first_from}

-- the fault of a text by why a line of it isn't read
abbrev pub fault_of : ℕ → Unread → ProofFault
fault_of line (Why why) = At line why
fault_of line Memory = OutOfMemory

-- the line that begins at a place ends at the next newline, or with the bytes
abbrev pub line_from : List ℕ → ℕ → LineAt
line_from bytes start =
    let end = first_from 10 start bytes in
    let is_ended = nat_lt end (length bytes) in
    record { end = end; is_ended = is_ended; next = if is_ended then end + 1 else end }

-- the lines before `at` were read, and the next entry has to be at least the least
pub record IsReadingLines (graph : Graph) (bytes : List ℕ) (start : ℕ) (lines : List Line)
    (least at : ℕ) : Type 0 where
  pub within : at ≤ length bytes
  pub goes_on : lines_read graph [] (lines_in (drop start bytes))
      ≡ lines_read graph lines (lines_in (drop at bytes))
  pub rises : (x : ℕ) → is_above lines x ≡ nat_le least x
