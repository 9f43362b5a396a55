-- What every answer promises of the store.
use Rattle.std.specs.Prelude.{◌≡◌, Result, IfOk, IsErrOf}
use Rattle.hall_outside.specs.Counts.{HasCause, ComesExactly}
use Rattle.hall_outside.specs.declared.stores.Store.{Ghosts as StoreGhosts}
use Rattle.command_line.specs.declared.answer.Fault.{Fault}
use Rattle.command_line.specs.declared.answer.Fault.TheVariants.{ReadFault}
use Rattle.evidence.specs.NamedFiles.{OnRead}
use Rattle.command_line.specs.CommandParts.{CommandParts}
use Rattle.command_line.specs.Lines.{Answer}

module _ {S : Type 0} (of : StoreGhosts S) where
  -- The answer is right for what was read between these states. It says that a file is absent
  -- exactly where the store said so in the call, a failed read comes only where a read failed in
  -- it, and no file changes.
  pub record IsAnswered (IsRight : S → Answer → S → Type 0) (is_of_absence : Answer → Type 0) (old : S)
      (result : Result Answer Fault) (new : S) : Type 0 where
    pub answer : IfOk result (λ answer. IsRight old answer new)
    pub absent : IfOk result
        (λ answer. ComesExactly (of.answered old).absences (of.answered new).absences (is_of_absence answer))
    pub read_fault : HasCause (of.read_faults old) (of.read_faults new) (IsErrOf result ReadFault)
    pub files : of.files new ≡ of.files old
    pub write_faults : of.write_faults new ≡ of.write_faults old

  -- what a command gives for its files as they were read
  abbrev pub IsAnswerAsRead : CommandParts → S → Answer → S → Type 0
  IsAnswerAsRead parts old answer new = OnRead of parts.files (λ files. parts.IsAnswer files answer) old new

  -- the result of a call is right for a command
  abbrev pub IsAnsweredBy : CommandParts → S → Result Answer Fault → S → Type 0
  IsAnsweredBy parts = IsAnswered (IsAnswerAsRead parts) (λ answer. answer.status ≡ parts.absence)
