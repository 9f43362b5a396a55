-- The command `order`.
use Rattle.std.specs.Prelude.{ℕ, List, [], ◌∷◌, length, Option, ◌↔◌, Ok, codes}
use Rattle.std.specs.List.{Contains}
use Rattle.entry_order.specs.Precedes.{Precedes}
use Rattle.entry_order.specs.Settled.{IsWhole}
use Rattle.entry_order.specs.Completion.{Completion}
use Rattle.roster.specs.declared.post.Post.{Post}
use Rattle.entry_format.specs.SealedEntry.{SealedEntry}
use Rattle.entry_format.specs.Nodes.{node_of, node_of_sealed}
use Rattle.entry_format.specs.declared.plain.Plain.{Plain}
use Rattle.entry_format.specs.Plains.{plain_of, plains}
use Rattle.log_files.specs.Logs.{LogRead}
use Rattle.entry_graph.specs.EntryGraph.{EntryGraph}
use Rattle.evidence.specs.declared.roster_file.RosterRead.{RosterRead}
use Rattle.evidence.specs.RosterFile.{GivesRoster}
use Rattle.evidence.specs.Logs.{GivesLogs}
use Rattle.evidence.specs.Graphs.{entries_of, GivesGraph}
use Rattle.command_line.specs.declared.status.Status.TheVariants as status
use Rattle.command_line.specs.Lines.{Answer, OrRefused}
use Rattle.log_commands.specs.EntryWords.{IsEntryWord, MeansEntry}
use Rattle.log_commands.specs.Honest.{IsOrderOfPlaces}
use Rattle.log_commands.specs.TwoEntries.{IsBefore, IsOrderAmong}
use Rattle.command_line.specs.WordForms.{AreLogs}
use Rattle.command_line.specs.CommandParts.{CommandParts, OnFirstFile}

-- what e says comes before what f says, in entries of which nothing else is known than what they
-- say
abbrev pub ComesFirst : List Plain → SealedEntry → SealedEntry → Type 0
ComesFirst G e f = Precedes node_of G (plain_of e) (plain_of f)

-- P holds in each completion of S, that is, in all that the entries may have been of which S
-- survives
abbrev pub InEach : ℕ → List SealedEntry → (List Plain → Type 0) → Type 0
InEach machines S P = (G : List Plain) → Completion node_of machines (plains S) G → P G

-- the answer over given entries
abbrev pub IsOrderOver : List Post → List ℕ → List ℕ → List SealedEntry → Answer → Type 0
IsOrderOver machines x y given answer =
    OrRefused (GivesGraph given) (λ (graph : EntryGraph SealedEntry). IsOrderAmong machines graph.survivors x y) answer

-- the answer under a roster, for the logs' files
abbrev pub IsOrderOverLogs : RosterRead → List ℕ → List ℕ → List (List ℕ) → List (Option (List ℕ)) → Answer → Type 0
IsOrderOverLogs read x y logs files answer =
    OrRefused (GivesLogs read.roster.machines read.election logs files)
    (λ (found : List LogRead). IsOrderOver read.roster.machines x y (entries_of found)) answer

-- the logs in these files have this graph
abbrev pub IsGraphIn : RosterRead → List (List ℕ) → List (Option (List ℕ)) → EntryGraph SealedEntry → Type 0
IsGraphIn read logs files graph =
    (found : List LogRead) × GivesLogs read.roster.machines read.election logs files (Ok found)
    × GivesGraph (entries_of found) (Ok graph)

-- Some entries complete S. Of two survivors e is before f exactly where it is so in each
-- completion; and f is whole and e not before it exactly where it is so in none. So a word other
-- than unknown is printed wherever completions agree.
pub record IsExact (machines : ℕ) (S : List SealedEntry) : Type 0 where
  pub some : (G : List Plain) × Completion node_of machines (plains S) G
  pub before : (e f : SealedEntry) → Contains S e → Contains S f →
      IsBefore S e f ↔ InEach machines S (λ G. ComesFirst G e f)
  pub not_before : (e f : SealedEntry) → Contains S e → Contains S f →
      (IsWhole node_of_sealed S f × (¬ IsBefore S e f)) ↔ InEach machines S (λ G. ¬ ComesFirst G e f)

-- the answer of `order` under a roster
pub record IsOrderUnder (read : RosterRead) (x y : List ℕ) (logs : List (List ℕ)) (files : List (Option (List ℕ)))
    (answer : Answer) : Type 0 where
  pub right : IsOrderOverLogs read x y logs files answer
  pub exact : (graph : EntryGraph SealedEntry) → IsGraphIn read logs files graph →
      IsExact (length read.roster.machines) graph.survivors

-- the answer for the roster's file and the logs' files, each of which may be absent, and what it
-- says where they are left of an honest place
pub record IsOrderAnswer (roster x y : List ℕ) (logs : List (List ℕ)) (file : Option (List ℕ))
    (files : List (Option (List ℕ))) (answer : Answer) : Type 0 where
  pub right : OrRefused (GivesRoster roster file) (λ (read : RosterRead). IsOrderUnder read x y logs files) answer
  pub honest : IsOrderOfPlaces x y logs file files answer

-- two words for entries, and 1 to 16 logs
pub record AreOrderWords (x y : List ℕ) (logs : List (List ℕ)) : Type 0 where
  pub first : IsEntryWord x
  pub second : IsEntryWord y
  pub enough : AreLogs logs

-- the files are a roster's and logs, the logs' entries have a graph, and both words mean survivors
pub record GiveEntries (roster x y : List ℕ) (logs : List (List ℕ)) (file : Option (List ℕ))
    (files : List (Option (List ℕ))) : Type 0 where
  pub read : RosterRead
  pub found : List LogRead
  pub graph : EntryGraph SealedEntry
  pub e : SealedEntry
  pub f : SealedEntry
  pub of_roster : GivesRoster roster file (Ok read)
  pub of_logs : GivesLogs read.roster.machines read.election logs files (Ok found)
  pub of_entries : GivesGraph (entries_of found) (Ok graph)
  pub first : MeansEntry read.roster.machines graph.survivors x e
  pub second : MeansEntry read.roster.machines graph.survivors y f

-- `order ROSTER X Y LOG..`
abbrev pub order_parts : List ℕ → List ℕ → List ℕ → List (List ℕ) → CommandParts
order_parts roster x y logs = record {
  words = codes "order" ∷ roster ∷ x ∷ y ∷ logs;
  IsAllowed = AreOrderWords x y logs;
  files = roster ∷ logs;
  IsAnswer = λ files answer. OnFirstFile (λ file others. IsOrderAnswer roster x y logs file others answer) files;
  AreAccepted = OnFirstFile (GiveEntries roster x y logs);
  statuses = status.Done ∷ status.Refused ∷ status.Absent ∷ [];
  absence = status.Absent;
}
