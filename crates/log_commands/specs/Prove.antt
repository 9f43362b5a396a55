-- The command `prove`.
use Rattle.std.specs.Prelude.{◌≡◌, ℕ, ◌<◌, ◌≤◌, List, [], ◌∷◌, ◌++◌, length, codes, Option}
use Rattle.std.specs.Prelude.{Result, Ok, Err}
use Rattle.std.specs.Fmt.{decimal}
use Rattle.precedence.specs.Graph.{Graph}
use Rattle.audit_proof.specs.Canonical.{IsCanonicalText}
use Rattle.evidence.specs.Refusal.{Refusal, too_long}
use Rattle.evidence.specs.RosterFile.{GivesRoster}
use Rattle.evidence.specs.Logs.{GivesLogs}
use Rattle.evidence.specs.Graphs.{entries_of, GivesGraph}
use Rattle.auditor.specs.Nodes.{nodes_of}
use Rattle.auditor.specs.Audits.{AndThen, FileThen}
use Rattle.log_files.specs.Lines.{line}
use Rattle.command_line.specs.declared.status.Status.TheVariants as status
use Rattle.command_line.specs.Lines.{Answer, OrRefused}
use Rattle.command_line.specs.WordForms.{AreLogs}
use Rattle.log_commands.specs.ProofFile.{max_proof}
use Rattle.command_line.specs.CommandParts.{CommandParts}

-- what is written of survivors: how many there are, and the text of their proof
pub record ProofMade : Type 0 where
  pub entries : ℕ
  pub text : List ℕ

-- what a graph gives: its canonical text, which is at most as long as a proof's file may be; or it
-- is longer
abbrev pub GivesText : List ℕ → Graph → Result ProofMade Refusal → Type 0
GivesText name graph (Ok made) =
    (made.entries ≡ graph.count) × IsCanonicalText graph made.text
    × (length made.text ≤ max_proof)
GivesText name graph (Err refusal) =
    (text : List ℕ) × IsCanonicalText graph text × (max_proof < length text)
    × (refusal ≡ too_long name)

-- what the files give: the roster, the logs, the graph of the entries that these keep, and its
-- text; or the first refusal
abbrev pub GivesMade : List ℕ → List ℕ → List (List ℕ) → List (Option (List ℕ)) →
    Result ProofMade Refusal → Type 0
GivesMade roster proof names =
    FileThen (GivesRoster roster) (λ read files.
    AndThen (GivesLogs read.roster.machines read.election names files) (λ logs.
    AndThen (GivesGraph (entries_of logs)) (λ graph. GivesText proof (nodes_of graph))))

-- the answer: the text goes into the file
abbrev pub proof_answer : List ℕ → ProofMade → Answer
proof_answer proof made = record {
  status = status.Done;
  files = (proof, made.text) ∷ [];
  ahead = 0;
  output = line (codes "proof " ++ proof ++ codes " entries " ++ decimal made.entries
      ++ codes " bytes " ++ decimal (length made.text));
}

-- the answer for these files, or the first refusal
abbrev pub IsProofOver : List ℕ → List ℕ → List (List ℕ) → List (Option (List ℕ)) → Answer → Type 0
IsProofOver roster proof logs files answer =
    OrRefused (GivesMade roster proof logs files)
    (λ (made : ProofMade) (given : Answer). given ≡ proof_answer proof made) answer

-- `prove ROSTER PROOF LOG..`
abbrev pub prove_parts : List ℕ → List ℕ → List (List ℕ) → CommandParts
prove_parts roster proof logs = record {
  words = codes "prove" ∷ roster ∷ proof ∷ logs;
  IsAllowed = AreLogs logs;
  files = roster ∷ logs;
  IsAnswer = IsProofOver roster proof logs;
  AreAccepted =
      λ files. (made : ProofMade) × GivesMade roster proof logs files (Ok made);
  statuses = status.Done ∷ status.Refused ∷ status.Absent ∷ [];
  absence = status.Absent;
}
