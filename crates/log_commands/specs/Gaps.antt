-- The command `gaps`.
use Rattle.std.specs.Prelude.{◌≡◌, ℕ, List, [], ◌∷◌, ◌++◌, Option, ◌⊎◌, codes, ⊤}
use Rattle.entry_order.specs.Survivors.{gaps}
use Rattle.entry_format.specs.Nodes.{node_of}
use Rattle.log_files.specs.Logs.{PlainLog}
use Rattle.log_files.specs.declared.plain_log.LogFault.{LogFault}
use Rattle.log_files.specs.declared.plain_log.LogFault.TheVariants.{Absent, TooLong, Header, ReadFault, Memory}
use Rattle.log_files.specs.LogFile.{IsLogOf, IsLogRefused}
use Rattle.evidence.specs.NamedFiles.{OnOneFile}
use Rattle.command_line.specs.declared.status.Status.TheVariants as status
use Rattle.log_files.specs.Lines.{refused_lines, end_line, gap_lines}
use Rattle.command_line.specs.Lines.{Answer, absent_answer, findings_answer, refused_answer}
use Rattle.command_line.specs.CommandParts.{CommandParts}

-- all lines of a log: the gaps are the digests that its entries name and none of them has
-- (Auditorium, EVT 2007)
abbrev pub gaps_log_lines : List ℕ → PlainLog → List ℕ
gaps_log_lines name log =
    refused_lines name log.refused ++ end_line name log.end ++ gap_lines (gaps node_of log.kept)

-- the answer where the log is refused; a failed read and running out of memory have none
abbrev pub IsRefusal : List ℕ → LogFault → Answer → Type 0
IsRefusal name Absent answer = answer ≡ absent_answer name
IsRefusal name TooLong answer = answer ≡ refused_answer name 0 (codes "TooLong")
IsRefusal name Header answer = answer ≡ refused_answer name 0 (codes "Header")
IsRefusal name ReadFault answer = ⊥
IsRefusal name Memory answer = ⊥

-- the answer for the log's file, or where there is none (Auditorium, EVT 2007)
abbrev pub IsGapsAnswer : List ℕ → Option (List ℕ) → Answer → Type 0
IsGapsAnswer name file answer =
    ((log : PlainLog) × IsLogOf log file × (answer ≡ findings_answer (gaps_log_lines name log)))
    ⊎ ((fault : LogFault) × IsLogRefused fault file × IsRefusal name fault answer)

-- `gaps LOG`
abbrev pub gaps_parts : List ℕ → CommandParts
gaps_parts log = record {
  words = codes "gaps" ∷ log ∷ [];
  IsAllowed = ⊤;
  files = log ∷ [];
  IsAnswer = λ files answer. OnOneFile (λ file. IsGapsAnswer log file answer) files;
  AreAccepted = OnOneFile (λ file. (read : PlainLog) × IsLogOf read file);
  statuses = status.Done ∷ status.Findings ∷ status.Refused ∷ status.Absent ∷ [];
  absence = status.Absent;
}
