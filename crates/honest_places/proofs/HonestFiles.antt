-- The graph of what is read of an honest world's logs, and what the files that are left of the logs
-- of a script's world give, under the roster and the election that were read.
use Rattle.honest_places.proofs.Imports
use Imports.{AreAllFilesOf, AreFilesOf, AreReadIn, Distinct, election_is, election_of, entries_of, EntryGraph, Err}
use Imports.{GivesGraph, GivesLogs, GivesRoster, HaveAll, inl, inr, IsHonestGraph, IsHonestlyRead, IsHonestWorld}
use Imports.{IsOfScript, List, LogRead, node_of_sealed, None, Ok, Option, Post, refl, Refusal, roster_tree, RosterRead}
use Imports.{SealedEntry, sent_in, sha256, Some, text_of, World, ℕ, ◌≡◌}
use Rattle.honest_places.proofs.Given.{all_given, left_agrees, shows_distinct}
use Rattle.honest_places.proofs.LeftFileFacts.{each_is_read, files_are_given, files_are_read, files_have_all}
use Rattle.honest_places.proofs.LogScripts.{scripts_are_honest}

-- ---- graphs

module _ (posts : List Post) (w : World SealedEntry) (honest : IsHonestWorld posts w) where
  module _ (apart : Distinct node_of_sealed (sent_in w)) (logs : List LogRead) (read : AreReadIn w logs) where
    -- the graph that the logs of an honest world give is an honest one
    pub graph_is_honest : (graph : EntryGraph SealedEntry) → GivesGraph (entries_of logs) (Ok graph) →
        IsHonestGraph w (entries_of logs) graph
    graph_is_honest graph gives = (left_agrees posts w honest apart logs read).graph graph gives.2

    -- the graph of an honest world's logs isn't refused
    pub graph_is_given : (refusal : Refusal) → ¬ GivesGraph (entries_of logs) (Err refusal)
    graph_is_given refusal (fault, is, told) =
        let memory = (left_agrees posts w honest apart logs read).not_refused fault is in
        let none : None ≡ Some refusal = rw memory at told in
        cc

  -- where all logs are there and a graph is given, what was sent has different digests
  pub graph_shows_distinct : (logs : List LogRead) → HaveAll w logs → (graph : EntryGraph SealedEntry) →
      GivesGraph (entries_of logs) (Ok graph) → Distinct node_of_sealed (sent_in w)
  graph_shows_distinct logs all graph gives =
      shows_distinct posts w honest (entries_of logs) (all_given w logs all) gives.0

-- ---- rosters

-- a roster that a file gives comes with the election of its own text
pub roster_election : (name : List ℕ) (file : Option (List ℕ)) (read : RosterRead) → GivesRoster name file (Ok read) →
    read.election ≡ election_of read.roster.machines
roster_election name None read gives = cc
roster_election name (Some bytes) read (inl (long, told)) = cc
roster_election name (Some bytes) read (inr (short, (Err fault, reads, told))) = cc
roster_election name (Some bytes) read (inr (short, (Ok roster, reads, told))) =
    let same : read ≡ record { roster = roster; election = sha256 bytes } = cc in
    rw same (election_is (sha256 bytes) bytes roster.machines roster.machines refl reads.0.spelt refl)

-- ---- the files of a script's world

module _ (machines : List Post) (election : List ℕ) (w : World SealedEntry) (is : IsOfScript machines election w) where
  -- worlds of a script whose roster was read are honest under that roster
  pub of_script_is_honest : IsHonestWorld machines w
  of_script_is_honest = rw is.roster (scripts_are_honest is.script is.lawful is.steps w is.comes)

  -- the election of a script's world is that of the roster that was read
  pub of_script_election : election ≡ election_of machines
  of_script_election = election_is election (text_of (roster_tree machines)) machines machines is.in_election refl refl

  -- logs and a graph that are given by what is left of a script's logs are read as what its
  -- machines did
  pub script_read : Distinct node_of_sealed (sent_in w) → (names : List (List ℕ)) (files : List (Option (List ℕ))) →
      AreFilesOf w files → (logs : List LogRead) → GivesLogs machines election names files (Ok logs) →
      (graph : EntryGraph SealedEntry) → GivesGraph (entries_of logs) (Ok graph) →
      IsHonestlyRead machines election w names files logs graph
  script_read apart names files left logs gives graph made =
      let here = rw of_script_election at gives in
      let honest = of_script_is_honest in
      record {
        gives_logs = gives;
        gives_graph = made;
        each = each_is_read machines w honest names files left logs here;
        all = λ whole. all_given w logs (files_have_all machines w honest names files whole logs here);
        honest = graph_is_honest machines w honest apart logs
            (files_are_read machines w honest names files left logs here) graph made;
      }

  -- files that are left of a script's logs are never refused
  pub script_given : (names : List (List ℕ)) (files : List (Option (List ℕ))) → AreFilesOf w files →
      (refusal : Refusal) → ¬ GivesLogs machines election names files (Err refusal)
  script_given names files left refusal gives =
      files_are_given machines w of_script_is_honest names files left refusal (rw of_script_election at gives)

  -- the graph of what they give isn't refused
  pub script_not_refused : Distinct node_of_sealed (sent_in w) → (names : List (List ℕ))
      (files : List (Option (List ℕ))) → AreFilesOf w files → (logs : List LogRead) →
      GivesLogs machines election names files (Ok logs) → (refusal : Refusal) →
      ¬ GivesGraph (entries_of logs) (Err refusal)
  script_not_refused apart names files left logs gives =
      graph_is_given machines w of_script_is_honest apart logs
      (files_are_read machines w of_script_is_honest names files left logs (rw of_script_election at gives))

  -- where all whole logs are there and give a graph, what was sent has different digests
  pub script_distinct : (names : List (List ℕ)) (files : List (Option (List ℕ))) → AreAllFilesOf w files →
      (logs : List LogRead) → GivesLogs machines election names files (Ok logs) → (graph : EntryGraph SealedEntry) →
      GivesGraph (entries_of logs) (Ok graph) → Distinct node_of_sealed (sent_in w)
  script_distinct names files whole logs gives =
      graph_shows_distinct machines w of_script_is_honest logs
      (files_have_all machines w of_script_is_honest names files whole logs (rw of_script_election at gives))
