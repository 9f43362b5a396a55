-- The law of reports.
use Rattle.rule_engine.specs.declared.verdict.Verdict.TheVariants as verdict
use Rattle.auditor.proofs.Lower.{no_double}
use Rattle.auditor.specs.{Nodes.nodes_of, Report.AuditReport, Report.IsReport}
use Rattle.entry_format.specs.{EntryText.IsDigest, Nodes.node_of, Nodes.node_of_sealed, Plains.plain_of, Plains.plains}
use Rattle.entry_format.specs.{SealedEntry.SealedEntry, declared.entry.Entry.Entry, declared.plain.Plain.Plain}
use Rattle.entry_graph.specs.EntryGraph.{EntryGraph, parents_of, ragged_of}
use Rattle.entry_order.proofs.{Images.same_graph, Lists.Contains-head, Lists.Contains-map_cases, Lists.Contains-none}
use Rattle.entry_order.specs.{Exact.AreSurvivors, Node.Node, Precedes.IsAcyclic}
use Rattle.evidence.proofs.Survivors.{survivors_distinct}
use Rattle.report_exactness.proofs.{Given.given, Given.IsGiven, Given.IsOf, Said.made, Said.made_digest}
use Rattle.report_exactness.proofs.Said.{made_election, made_rising, made_said, plain_can_say, sealed_lawful}
use Rattle.report_exactness.specs.ReportExact.{MayBe, MayBeEither, ReportsAreExact, rows_of, UnsettledIsExact}
use Rattle.roster.specs.declared.post.Post.{Post}
use Rattle.rule_engine.specs.{Judged.AreJudged, Verdicts.IsJudged, declared.verdict.Verdict.Verdict}
use Rattle.rule_exactness.proofs.{AllRules.standard_rules_are_exact, TwoSided.two_sided_rules_are_exact}
use Rattle.rule_exactness.specs.Exact.{AreWellFormed, IsMade, IsOpen, IsWellFormed, MayComplete}
use Rattle.rule_language.specs.{Trees.RuleTree, Trees.Trees, declared.row.Row.Row}
use Rattle.rule_meaning.specs.Values.{three_in}
use Rattle.std.proofs.Common.{[], ap, arith, inl, inr, length, List, map, Ok, refl, subst, sym, ℕ, ◌<◌, ◌∙◌, ◌∷◌, ◌≡◌}
use Rattle.std.proofs.lemmas.List.{length-map, length-replicate, Elements.All-contains}
use Rattle.std.specs.{List.AllZip, List.Contains, Prelude.replicate}
use Rattle.survivor_rows.specs.Rows.{row_of, row_said}

same_rows : (row : Entry → Row) (S : List SealedEntry) →
    map (λ (plain : Plain). row plain.entry) (plains S) ≡ map (λ (sealed : SealedEntry). row sealed.entry) S
same_rows row [] = refl
same_rows row (e ∷ S) = ap (λ rows. row e.entry ∷ rows) (same_rows row S)

-- an open rule is open by entries of which more holds
module _ {T : Type 0} (node : T → Node) (row : T → Row) (A B : T → Type 0) (more : (e : T) → A e → B e)
    (Allowed : List T → Type 0) (machines : ℕ) (S : List T) (rule : Trees) where
  again : (G : List T) → MayComplete node row A Allowed machines S G → MayComplete node row B Allowed machines S G
  again G c = record {
    whole = c.whole;
    each = λ e there. elim (c.each e there) [ inl old ↦ inl old | inr new ↦ inr (more e new) ];
    allowed = c.allowed;
  }

  open_more : IsOpen node row A Allowed machines S rule → IsOpen node row B Allowed machines S rule
  open_more is =
      let (G, kept, holds) = is.kept in
      let (F, broken, fails) = is.broken in
      record { kept = (G, again G kept, holds); broken = (F, again F broken, fails) }

module _ (report : AuditReport) (here : IsGiven report) where
  abbrev machines : List Post
  machines = report.machines

  abbrev graph : EntryGraph SealedEntry
  graph = report.graph

  abbrev is : IsReport report
  is = here.is

  -- the survivors' makers are in the roster, and no two have one digest
  are_survivors : AreSurvivors node_of (length machines) (plains graph.survivors)
  are_survivors = record {
    in_roster = λ v there.
        let (x, in_x, to_v) = Contains-map_cases plain_of graph.survivors v there in
        subst (λ (u : Plain). u.entry.maker < length machines) to_v
        (All-contains (λ (sealed : SealedEntry). sealed.entry.maker < length machines) graph.survivors x is.makers in_x);
    distinct = λ v u in_v in_u same.
        let apart = survivors_distinct _ graph is.graphed in
        let (x, in_x, to_v) = Contains-map_cases plain_of graph.survivors v in_v in
        let (z, in_z, to_u) = Contains-map_cases plain_of graph.survivors u in_u in
        let digests : x.digest ≡ z.digest =
        ap (λ (w : Plain). w.digest) to_v ∙ same ∙ ap (λ (w : Plain). w.digest) (sym to_u) in
        sym to_v ∙ ap plain_of (apart x z in_x in_z digests) ∙ to_u;
  }

  -- they are few, and lawful
  are_lawful : AreWellFormed node_of (rows_of report) (length machines) (plains graph.survivors)
  are_lawful = record {
    survivors = are_survivors;
    few = let kept = is.graphed.2.kept.few in let same = length-map graph.survivors plain_of in omega arith;
    formed = λ v there.
        let (x, in_x, to_v) = Contains-map_cases plain_of graph.survivors v there in
        subst (IsWellFormed node_of (rows_of report)) to_v (sealed_lawful machines x (here.each x in_x).kept);
  }

  -- an election, which is that of the survivors
  some_election : (survivors : List SealedEntry) →
      ((e : SealedEntry) → Contains survivors e → IsOf here.election e) →
      (election : List ℕ) × IsDigest election
      × ((e : SealedEntry) → Contains survivors e → election ≡ e.entry.election)
  some_election [] each = (replicate 32 0, length-replicate {A = ℕ} 32 0, λ e there. absurd (Contains-none e there))
  some_election (first ∷ rest) each =
      let this = each first (Contains-head first rest) in (
        here.election,
        subst IsDigest this.one this.kept.spelt.lawful.election,
        λ e there. sym (each e there).one,
      )

  abbrev election : List ℕ
  election = (some_election graph.survivors here.each).0

  -- what is made of what is sayable may be
  may_be : (plain : Plain) → IsMade (made election) plain → MayBe report plain
  may_be plain m =
      let right = (some_election graph.survivors here.each).1 in record {
        said = made_said election right plain m;
        rising = made_rising election right plain m;
        digest = made_digest election right plain m;
        election = λ e there.
            made_election election right plain m ∙ (some_election graph.survivors here.each).2 e there;
      }

  -- one rule with its verdict
  one : (rule : RuleTree) (v : Verdict) → IsJudged (map (row_of machines) graph.survivors) (nodes_of graph) rule.body (Ok v) →
      v ≡ verdict.Unsettled → MayBeEither report rule
  one rule v judged unsettled =
      let at = subst (λ u. IsJudged (map (row_of machines) graph.survivors) (nodes_of graph) rule.body (Ok u)) unsettled
      judged in
      let kept = is.graphed.2.kept in
      let single = no_double graph.survivors kept.numbered in
      let arrows =
      same_graph node_of plain_of graph.survivors (parents_of graph.links) (ragged_of graph.links) kept.linked.arrows in
      let exact =
      standard_rules_are_exact node_of (rows_of report) (made election) (plain_can_say machines election)
      (length machines) (plains graph.survivors) (parents_of graph.links) (ragged_of graph.links) single are_lawful
      arrows in
      let own =
      two_sided_rules_are_exact node_of (rows_of report) (made election) (plain_can_say machines election)
      (length machines) (plains graph.survivors) (parents_of graph.links) (ragged_of graph.links) single are_lawful
      arrows in
      let unknown =
      ap (λ rows. three_in rows (parents_of graph.links) (ragged_of graph.links) rule.body)
      (same_rows (row_said machines) graph.survivors) ∙ at.1 in
      let opened = λ (Allowed : List Plain → Type 0).
      open_more node_of (rows_of report) (IsMade (made election)) (MayBe report) may_be Allowed (length machines)
      (plains graph.survivors) rule.body in
      record {
        standard = λ there other. opened (IsAcyclic node_of) (((exact rule there).all other).unsettled.0 unknown);
        own = λ sided. opened (IsAcyclic node_of) ((own rule.body sided).unsettled.0 unknown);
        ends = λ there is early. opened (λ G. Unit {0}) (((exact rule there).ends is early).unsettled.0 unknown);
      }

  each : (rules : List RuleTree) (vs : List Verdict) →
      AreJudged (map (row_of machines) graph.survivors) (nodes_of graph) rules vs →
      AllZip (λ rule v. v ≡ verdict.Unsettled → MayBeEither report rule) rules vs
  each [] [] judged = tt
  each [] (v ∷ vs) judged = absurd judged
  each (r ∷ rules) [] judged = absurd judged
  each (r ∷ rules) (v ∷ vs) judged = (one r v judged.0, each rules vs judged.1)

-- of each report whose survivors are sealed and of one election
pub given_is_exact : (report : AuditReport) → IsGiven report → UnsettledIsExact report
given_is_exact report here = each report here report.rules report.verdicts here.is.judged

-- the law
pub reports_are_exact : ReportsAreExact
reports_are_exact roster source names files report gives =
    given_is_exact report (given roster names report source files gives)
