-- What the program has done, by the status with which it ends.
use Rattle.std.specs.Prelude.{◌≡◌, ℕ, List, Option, Result, MatchOption}
use Rattle.hall_outside.specs.declared.sinks.Sink.{Ghosts as SinkGhosts}
use Rattle.hall_outside.specs.declared.stores.Store.{Ghosts as StoreGhosts}
use Rattle.evidence.specs.NamedFiles.{OnRead}
use Rattle.auditor.specs.Audits.{audit_files}
use Rattle.command_line.specs.declared.answer.Fault.{Fault}
use Rattle.command_line.specs.declared.status.Status.{Status}
use Rattle.command_line.specs.declared.status.Status.TheVariants as status
use Rattle.command_line.specs.Ending.{EndsWith}
use Rattle.command_line.specs.Lines.{Answer, usage_answer}
use Rattle.command_line.specs.Outside.{outside}
use Rattle.command_line.specs.Promise.{IsAnswered}
use Rattle.command_line.specs.Reports.{source_named}
use Rattle.command_line.specs.Written.{IsWrittenBy}
use Rattle.auditorium_view.specs.ViewWords.{ViewRequest, request_by}
use Rattle.auditorium_view.specs.View.{IsViewOf}

module _ {S : Type 0} (of : StoreGhosts S) (digests : List (Option (List ℕ))) where
  -- the answer to what is asked for is right for the files as they were read; where nothing is
  -- asked for, none is read
  abbrev pub IsViewFor : Option ViewRequest → S → Answer → S → Type 0
  IsViewFor request old answer new = MatchOption request ((answer ≡ usage_answer) × (new ≡ old))
      (λ asked. OnRead of (audit_files asked.roster (source_named asked.rules) asked.logs)
      (λ files. IsViewOf digests asked files answer) old new)

  -- the result of a call is right for what is asked for
  abbrev pub IsViewedBy : Option ViewRequest → S → Result Answer Fault → S → Type 0
  IsViewedBy request = IsAnswered of (IsViewFor request) (λ answer. answer.status ≡ status.Absent)

  -- the result of a call is right for the words of the command line
  abbrev pub IsViewed : List (List ℕ) → S → Result Answer Fault → S → Type 0
  IsViewed words = IsViewedBy (request_by words)

-- What was done for words: something was answered to them once files were read, and the program
-- ended with that.
abbrev pub HasShown : {S K : Type 0} → StoreGhosts S → SinkGhosts K → List (Option (List ℕ)) → List (List ℕ) → S → K →
    Status → S → K → Type 0
HasShown {S} of_store of_sink digests words store out how store_after out_after =
    (answer : Result Answer Fault) × (read : S) × IsViewed of_store digests words store answer read
    × EndsWith answer (λ told ok. IsWrittenBy of_store of_sink told read out ok store_after out_after)
    (outside of_store of_sink read out) how (outside of_store of_sink store_after out_after)
