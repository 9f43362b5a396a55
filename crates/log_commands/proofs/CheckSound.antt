-- What a check says holds, whoever made the proof.
use Rattle.log_commands.proofs.Imports.{AllZip-long, Answer, AreChecked, Broken, check_answer, CheckReport, ChecksFiles}
use Rattle.log_commands.proofs.Imports.{Completes, entries_of, EntryGraph, False, GivesCheck, GivesGraph, GivesProof}
use Rattle.log_commands.proofs.Imports.{HaveMakers, HoldsOf, inl, inr, IsCheckAnswer, IsCheckOf, IsLessKnown, IsProofOf}
use Rattle.log_commands.proofs.Imports.{length, length-map, Line, List, logs_have_makers, map, nodes_of, None, Ok}
use Rattle.log_commands.proofs.Imports.{Option, parents_of, Plain, plain_rules, ProofsSayNoMore, ragged_of, refl}
use Rattle.log_commands.proofs.Imports.{row_of, row_said, RuleSource, RuleTree, SealedEntry, Some, subst}
use Rattle.log_commands.proofs.Imports.{survivors_have_makers, sym, Three, True, Unknown, verdict_of, ℕ, ◌∙◌, ◌≡◌}
use Rattle.log_commands.proofs.{FilesBegun.found_then, FilesBegun.opened, FilesBegun.same_found}
use Rattle.log_commands.proofs.{PlainSurvivors.some_completion, Zips.zip_weaker}
use Rattle.audit_proof.specs.{declared.fault.Verdict.Verdict, declared.fault.Verdict.TheVariants.Kept}

-- what a verdict says of a value that is known, is known of one of which more is known
told : (x y : Three) → IsLessKnown x y → (verdict_of x ≡ Kept → y ≡ True) × (verdict_of x ≡ Broken → y ≡ False)
told True y (inl unknown) = cc
told True y (inr same) = (λ e. sym same, λ e. cc)
told Unknown y less = (λ e. cc, λ e. cc)
told False y (inl unknown) = cc
told False y (inr same) = (λ e. cc, λ e. sym same)

-- what is read is a proof
pub proof_of : (name : List ℕ) (graph : EntryGraph SealedEntry) (file : Option (List ℕ)) (lines : List Line) →
    GivesProof name (nodes_of graph) file (Ok lines) → IsProofOf (nodes_of graph) lines
proof_of name graph None lines gives = cc
proof_of name graph (Some bytes) lines gives = gives.1.1

-- what a report is of: entries with their graph, whose makers are in the roster, and a proof for it
-- by which the rules have their verdicts
pub record IsFound (report : CheckReport) : Type 0 where
  pub given : List SealedEntry
  pub graph : EntryGraph SealedEntry
  pub lines : List Line
  pub gives : GivesGraph given (Ok graph)
  pub makers : HaveMakers report.machines graph.survivors
  pub proof : IsProofOf (nodes_of graph) lines
  pub checked : AreChecked (map (row_of report.machines) graph.survivors) (nodes_of graph) lines report.rules
      report.verdicts
  pub survivors : graph.survivors ≡ report.survivors

module _ (report : CheckReport) where
  -- a report that files give is found by their roster, logs, proof and rules
  pub check_found : (roster : List ℕ) (source : RuleSource) (proof : List ℕ) (names : List (List ℕ))
      (files : List (Option (List ℕ))) → GivesCheck roster source proof names files (Ok report) → IsFound report
  check_found roster source proof names files gives =
      let o = opened (λ read rules rest. ChecksFiles read source rules proof names rest) roster source files report
      gives in
      let machines = o.begun.read.roster.machines in
      let (fs, last, cut, by_files) = o.next in
      let (logs, keep, by_logs) = found_then by_files in
      let (graph, graphed, by_graph) = found_then by_logs in
      let (lines, read, by_lines) = found_then by_graph in
      let (verdicts, checked, e) = found_then by_lines in
      subst IsFound (sym (same_found e)) (record {
        given = entries_of logs;
        graph = graph;
        lines = lines;
        gives = graphed;
        makers = survivors_have_makers machines (entries_of logs) graph
            (logs_have_makers machines o.begun.read.election names fs logs keep) graphed;
        proof = proof_of proof graph last lines read;
        checked = checked;
        survivors = refl;
      })

  -- a report that was found has a verdict for each rule
  pub a_verdict_each : IsFound report → length report.rules ≡ length report.verdicts
  a_verdict_each found = sym (AllZip-long _ report.rules report.verdicts found.checked)

  module _ (less : ProofsSayNoMore) (found : IsFound report) where
    -- entries that complete the survivors
    abbrev CompletesHere : List Plain → Type 0
    CompletesHere G = Completes report.machines found.graph.survivors G

    -- the rule holds of the survivors if these were all
    abbrev HoldsHere : List Plain → RuleTree → Type 0
    HoldsHere G rule = HoldsOf report.machines found.graph.survivors G rule

    -- a proof says no more than the graph, so what a verdict by it says holds
    sound : (rule : RuleTree) (v : Verdict) → IsCheckAnswer (map (row_of report.machines) found.graph.survivors)
        (ragged_of found.graph.links) found.lines rule.body (Ok v) →
        (v ≡ Kept → (G : List Plain) → CompletesHere G → HoldsHere G rule)
        × (v ≡ Broken → (G : List Plain) → CompletesHere G → ¬ HoldsHere G rule)
    sound rule v checked =
        let kept = found.gives.2.kept in
        let says = told _ _ (less _ (nodes_of found.graph) found.lines
        (length-map found.graph.survivors (row_of report.machines)) kept.linked.arrows.descends found.proof rule.body) in
        let means = plain_rules (row_said report.machines) (length report.machines) found.graph.survivors
        (parents_of found.graph.links) (ragged_of found.graph.links) kept.numbered kept.linked.arrows in (
          λ e G whole. (means G whole rule.body).0 (says.0 (sym checked.1 ∙ e)),
          λ e G whole. (means G whole rule.body).1 (says.1 (sym checked.1 ∙ e)),
        )

    -- so the answer says of the rules what holds
    pub check_right : (answer : Answer) → answer ≡ check_answer report.rules report.verdicts → IsCheckOf report answer
    check_right answer answered = record {
      kept = rw (← found.survivors)
          (zip_weaker _ _ (λ rule v checked. (sound rule v checked).0) report.rules report.verdicts found.checked);
      broken = rw (← found.survivors)
          (zip_weaker _ _ (λ rule v checked. (sound rule v checked).1) report.rules report.verdicts found.checked);
      some = rw (← found.survivors)
          (some_completion report.machines found.given found.graph found.makers found.gives);
      told = answered;
    }
