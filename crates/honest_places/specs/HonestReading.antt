-- What an auditor has who reads what is left of an honest place's logs.
use Rattle.std.specs.Prelude.{ℕ, List, Option, Ok}
use Rattle.roster.specs.declared.post.Post.{Post}
use Rattle.entry_format.specs.SealedEntry.{SealedEntry}
use Rattle.entry_graph.specs.EntryGraph.{EntryGraph}
use Rattle.entry_order.specs.World.{World}
use Rattle.log_files.specs.Logs.{LogRead}
use Rattle.evidence.specs.Graphs.{GivesGraph, entries_of}
use Rattle.evidence.specs.Logs.{GivesLogs}
use Rattle.honest_places.specs.Agreement.{IsAllGiven, IsHonestGraph}
use Rattle.honest_places.specs.LeftFiles.{AreAllFilesOf, AreReadOf}

-- The files, of these names, give the logs, each the events that are complete in its file, with no
-- refused record and no break. Their entries give the graph, which accuses nobody and agrees with
-- w. Where the whole logs are among the files, all that was sent is given.
pub record IsHonestlyRead (machines : List Post) (election : List ℕ) (w : World SealedEntry) (names : List (List ℕ))
    (files : List (Option (List ℕ))) (logs : List LogRead) (graph : EntryGraph SealedEntry) : Type 0 where
  pub gives_logs : GivesLogs machines election names files (Ok logs)
  pub gives_graph : GivesGraph (entries_of logs) (Ok graph)
  pub each : AreReadOf w files logs
  pub all : AreAllFilesOf w files → IsAllGiven w (entries_of logs)
  pub honest : IsHonestGraph w (entries_of logs) graph
