-- What `check` reads, and what it makes of it.
use Rattle.log_commands.proofs.Imports
use Imports.{[], and_refused, and_then, AndThen, ap, Bool, bytes_eq, bytes_eq-Decides, Checked, ChecksFiles}
use Imports.{ChecksLines, ChecksLogs, ChecksProof, codes, cond, entries_of, EntryGraph, Err, false, GivesGraph}
use Imports.{GivesLogs, GivesProof, Graph, IfErr, IfOk, IfSome, in_file, inl, InputFault, inr, IsAbsent, IsFaultOf}
use Imports.{IsFileRefused, IsProofOf, IsReadFrom, IsReadFromFile, IsUnchecked, length, Line, List, LogRead, map}
use Imports.{max_proof, nodes_of, None, of_one, of_refusal, Ok, on_one, on_refusal, OnOneFile, Option, Post, read_ends}
use Imports.{read_then, refl, Refusal, refusal_of, refused, report_by, Result, RosterRead, row_of, RuleSource, RuleTree}
use Imports.{SealedEntry, Some, some_as_read, source_named, source_word, standard, StoreGhosts, sym, too_long, true}
use Imports.{Unchecked, ℕ, ◌++◌, ◌∙◌, ◌∷◌, ◌≡◌, ◌≢◌}
use Rattle.log_commands.proofs.{CheckSound.proof_of, ProveAnswers.graph_not_absent, ReadSteps.read_as}
use Rattle.log_commands.proofs.{ReadSteps.refused_unread}
use Rattle.evidence.specs.declared.fault.InputFault.TheVariants.{ReadFault}
use Rattle.log_commands.specs.declared.check.Unchecked.TheVariants.{TooWide}
use Rattle.hall_outside.specs.declared.reading.FileFault.TheVariants as file

-- a proof's file that is too long is refused as too long
pub long_proof : (name : List ℕ) (graph : Graph) (this : Option (List ℕ)) →
    IsFileRefused max_proof file.TooLong this → GivesProof name graph this (Err (too_long name))
long_proof name graph None is = absurd is
long_proof name graph (Some bytes) is = inl (is, refl)

-- rules are named in a refusal by the word that named them
pub names_itself : (word : List ℕ) → source_word (source_named word) ≡ word
names_itself word = by (bytes_eq word (codes "standard")) refl
  where
    -- by whether it is `standard`
    by : (b : Bool) → bytes_eq word (codes "standard") ≡ b → source_word (source_named word) ≡ word
    by true e =
        ap (λ (c : Bool). source_word (cond c standard (in_file word))) e
        ∙ sym ((bytes_eq-Decides word (codes "standard")).0 e)
    by false e = ap (λ (c : Bool). source_word (cond c standard (in_file word))) e

-- a check by a rule that is too wide is refused with the place of that rule
pub too_wide_checked : (machines : List Post) (word : List ℕ) (rules given : List RuleTree)
    (graph : EntryGraph SealedEntry) (lines : List Line) (unchecked : Unchecked) (place : ℕ) (fault : InputFault) →
    given ≡ rules → IsUnchecked (map (row_of machines) graph.survivors) given unchecked →
    unchecked ≡ TooWide place → IsFaultOf (refused word place (codes "TooWide")) fault →
    IfSome (refusal_of fault)
    (λ refusal. ChecksLines machines (source_named word) rules graph lines (Err refusal))
too_wide_checked machines word rules given graph lines unchecked place fault same is at of =
    let first = coe 0 1 (i. IsUnchecked (map (row_of machines) graph.survivors) (same i) (at i)) is in
    of_refusal (λ refusal. ChecksLines machines (source_named word) rules graph lines (Err refusal)) _ fault of
    (inr (_, (place, first, ap (λ (w : List ℕ). refused w place (codes "TooWide")) (sym (names_itself word))), refl))

-- what a list of one file gives before a step, its file gives
in_one : {A B : Type 0} (First : Option (List ℕ) → Result A Refusal → Type 0) (Next : A → Result B Refusal → Type 0)
    (files : List (Option (List ℕ))) (answer : Result B Refusal) →
    AndThen (λ found. OnOneFile (λ file. First file found) files) Next answer →
    OnOneFile (λ file. AndThen (First file) Next answer) files
in_one First Next (file ∷ []) answer is = is
in_one First Next files answer (inl (found, gives, is)) = absurd gives
in_one First Next files answer (inr (refusal, gives, is)) = absurd gives

module _ {S P : Type 0} (of : StoreGhosts S) (proof : List ℕ) (lines_of : P → List Line)
    (graph : EntryGraph SealedEntry) (old new : S) where
  -- what was read is a proof for the graph
  pub proof_read : (read : P) → IsReadFromFile of lines_of proof (GivesProof proof (nodes_of graph)) old (Ok read) new
      → IsProofOf (nodes_of graph) (lines_of read)
  proof_read read given =
      let (files, gives) = some_as_read of _ _ old new given.ok.0 in
      on_one (λ file. GivesProof proof (nodes_of graph) file (Ok (lines_of read)))
      (λ fs. IsProofOf (nodes_of graph) (lines_of read)) files
      (λ file gives. proof_of proof graph file (lines_of read) gives) gives

  module _ (machines : List Post) (source : RuleSource) (rules : List RuleTree) where
    -- the proof is read, and the rules are checked by it or refused
    pub proof_checked : (read : P) (result : Result Checked InputFault)
        → IsReadFromFile of lines_of proof (GivesProof proof (nodes_of graph)) old (Ok read) new
        → IfOk result (λ checked. ChecksLines machines source rules graph (lines_of read) (Ok (report_by checked)))
        → IfErr result (λ fault. IfSome (refusal_of fault)
        (λ refusal. ChecksLines machines source rules graph (lines_of read) (Err refusal)))
        → IfErr result (λ fault. (fault ≢ ReadFault) × (¬ IsAbsent fault))
        → IsReadFromFile of report_by proof (λ file. ChecksProof machines source rules proof file graph) old result new
    proof_checked read result given ok err only =
        read_as of report_by (proof ∷ []) _ _ old new result
        (and_then of lines_of (proof ∷ []) _ report_by (ChecksLines machines source rules graph) old new read result
        given ok err only)
        (in_one (GivesProof proof (nodes_of graph)) (ChecksLines machines source rules graph))

    -- a refusal of the proof's file is that of the check
    pub proof_refused : (fault : InputFault)
        → IsReadFromFile of lines_of proof (GivesProof proof (nodes_of graph)) old (Err fault) new
        → IsReadFromFile of report_by proof (λ file. ChecksProof machines source rules proof file graph) old (Err fault)
        new
    proof_refused fault given =
        read_as of report_by (proof ∷ []) _ _ old new (Err fault)
        (and_refused of lines_of (proof ∷ []) _ report_by (ChecksLines machines source rules graph) old new fault given)
        (in_one (GivesProof proof (nodes_of graph)) (ChecksLines machines source rules graph))

module _ {S : Type 0} (of : StoreGhosts S) (machines : List Post) (source : RuleSource) (rules : List RuleTree)
    (proof : List ℕ) (logs : List LogRead) where
  -- the logs have a graph
  pub graph_checked : (graph : EntryGraph SealedEntry) (old new : S) (result : Result Checked InputFault)
      → GivesGraph (entries_of logs) (Ok graph)
      → IsReadFromFile of report_by proof (λ file. ChecksProof machines source rules proof file graph) old result new
      → IsReadFromFile of report_by proof (λ file. ChecksLogs machines source rules proof file logs) old result new
  graph_checked graph old new result gives read =
      read_as of report_by (proof ∷ []) _ _ old new result read
      (λ files answer. on_one _ (λ fs. OnOneFile (λ file. ChecksLogs machines source rules proof file logs answer) fs)
      files (λ file is. inl (graph, gives, is)))

  -- a refusal of the graph is that of the check, whatever the proof's file is, which isn't read
  pub graph_refused : (now : S) (fault : InputFault)
      → IfSome (refusal_of fault) (λ refusal. GivesGraph (entries_of logs) (Err refusal)) → fault ≢ ReadFault
      → IsReadFromFile of report_by proof (λ file. ChecksLogs machines source rules proof file logs) now (Err fault) now
  graph_refused now fault err no_read =
      refused_unread of report_by (proof ∷ []) _ now fault
      (on_refusal (λ refusal. GivesGraph (entries_of logs) (Err refusal))
      (λ refusal. (files : List (Option (List ℕ))) → length files ≡ 1 →
      OnOneFile (λ file. ChecksLogs machines source rules proof file logs (Err refusal)) files)
      (refusal_of fault)
      (λ refusal gives files one. of_one
      (λ fs. OnOneFile (λ file. ChecksLogs machines source rules proof file logs (Err refusal)) fs) files one
      (λ file. inr (refusal, gives, refl))) err)
      no_read (graph_not_absent (entries_of logs) fault err)

module _ {S : Type 0} (of : StoreGhosts S) (read : RosterRead) (source : RuleSource) (rules : List RuleTree)
    (proof : List ℕ) (names : List (List ℕ)) {L : Type 0} (items : L → List LogRead) where
  -- the logs are read before the proof
  pub logs_then : (old mid new : S) (logs : L) (result : Result Checked InputFault)
      → IsReadFrom of items names (GivesLogs read.roster.machines read.election names) old (Ok logs) mid
      → IsReadFromFile of report_by proof
      (λ file. ChecksLogs read.roster.machines source rules proof file (items logs)) mid result new
      → IsReadFrom of report_by (names ++ proof ∷ []) (ChecksFiles read source rules proof names) old result new
  logs_then old mid new logs result first next =
      read_then of items names _ report_by (proof ∷ []) _ _ old mid new logs result first next
      (λ answer files rest long one gives. on_one _
      (λ last. ChecksFiles read source rules proof names (files ++ last) answer) rest
      (λ file is. (files, file, refl, inl (items logs, gives, is))))

  -- a refusal of the logs is that of the check, whatever the proof's file is, which isn't read
  pub logs_end : (old new : S) (fault : InputFault)
      → IsReadFrom of items names (GivesLogs read.roster.machines read.election names) old (Err fault) new
      → IsReadFrom of report_by (names ++ proof ∷ []) (ChecksFiles read source rules proof names) old (Err fault) new
  logs_end old new fault first =
      read_ends of items names _ report_by (proof ∷ []) _ old new fault first
      (λ refusal files rest long one gives. of_one
      (λ last. ChecksFiles read source rules proof names (files ++ last) (Err refusal)) rest one
      (λ file. (files, file, refl, inr (refusal, gives, refl))))
