-- What `watch` has in common with an audit.
use Rattle.log_commands.proofs.Imports
use Imports.{[], After, AgreesWithAudit, Answer, ap, arith, entries_of, EntriesGiveOneGraph, Err, Evidence}
use Imports.{FilesGiveOneReport, GivesEvidence, GivesReport, inl, inr, IsAuditOver, IsOfReport, IsWatchOver, last_at}
use Imports.{length, length-append, List, nil_from_length, Ok, Option, PrintsLast, refl, refusal_answer, report_answer}
use Imports.{RuleSource, slice_get, Some, source_named, status_is, subst, summary_of, sym, take_all, watch_line}
use Imports.{watch_lines, WatchesAgreeWithAudits, ℕ, ◌++◌, ◌+◌, ◌∙◌, ◌∷◌, ◌≡◌, ◌≢◌}
use Rattle.log_commands.proofs.{AuditCommand.same_told, FilesBegun.found_then, HonestAudits.no_report}
use Rattle.log_commands.proofs.{OneWatch.report_by, SoundReports.given_is_sound, Summaries.lines_more}
use Rattle.log_commands.proofs.{Summaries.one_line, WatchCommand.IsToldOf, WatchCommand.report_in, WatchCommand.told_of}

-- what an answer without a refusal is made of
pub record IsMadeOf (roster : List ℕ) (source : RuleSource) (names : List (List ℕ)) (files : List (Option (List ℕ)))
    (answer : Answer) : Type 0 where
  pub found : Evidence
  pub gives : GivesEvidence roster source names files (Ok found)
  pub of : IsToldOf names found answer

pub made_of : (roster rules : List ℕ) (names : List (List ℕ)) (files : List (Option (List ℕ))) (answer : Answer) →
    IsWatchOver roster rules names files answer → IsOfReport answer.status →
    IsMadeOf roster (source_named rules) names files answer
made_of roster rules names files answer (inl (refusal, gives, e)) is =
    absurd (no_report refusal (subst IsOfReport (status_is answer (refusal_answer refusal) e) is))
made_of roster rules names files answer (inr (told, gives, e)) is =
    let (found, read, watches) = found_then gives in
    let of = subst (IsToldOf names found) (sym e) (told_of (source_named rules) names found told watches) in
    record { found = found; gives = read; of = of }

-- the files give an audit its report
pub report_made : (roster : List ℕ) (source : RuleSource) (names : List (List ℕ)) (files : List (Option (List ℕ)))
    (answer : Answer) (made : IsMadeOf roster source names files answer) →
    GivesReport roster source names files (Ok (report_in made.of))
report_made roster source names files answer made =
    report_by names roster source files made.found _ made.gives
    (inl (made.of.graph, made.of.graphed, inl (made.of.verdicts, made.of.judged, refl)))

-- a list has a last member, or none
last_of : {X : Type 0} (xs : List X) → xs ≢ [] → (front : List X) × (x : X) × (xs ≡ front ++ x ∷ [])
last_of [] some = absurd (some refl)
last_of (x ∷ []) some = ([], x, refl)
last_of (x ∷ y ∷ xs) some =
    let (front, last, is) = last_of (y ∷ xs) (λ e. cc) in (x ∷ front, last, ap (λ ys. x ∷ ys) is)

-- the last line is that of the report
pub last_line : EntriesGiveOneGraph → (names : List (List ℕ)) (evidence : Evidence) (told : Answer)
    (of : IsToldOf names evidence told) → entries_of evidence.logs ≢ [] →
    PrintsLast (length (entries_of evidence.logs)) (summary_of (report_in of)) told
last_line graphs names evidence told of some =
    let es = entries_of evidence.logs in
    let (front, s, is) = last_of of.summaries
    (λ none. some (nil_from_length es (sym of.said.one_each ∙ ap length none))) in
    let long : length front + 1 ≡ length es =
    omega (arith, ap length is, of.said.one_each, length-append front (s ∷ [])) in
    let at = subst (λ ss. slice_get ss (length front) ≡ Some s) (sym is) (last_at front s) in
    let a : After evidence.machines evidence.rules es s =
    subst (λ gs. After evidence.machines evidence.rules gs s) (take_all (length front + 1) es (omega (arith, long)))
    (of.said.each (length front) s at) in
    let summed : After evidence.machines evidence.rules es (summary_of (report_in of)) = record {
      graph = of.graph;
      graphed = of.graphed;
      survivors = refl;
      gaps = refl;
      strays = refl;
      forks = refl;
      judged = of.judged;
    } in
    let number : 1 + length front ≡ length es = omega (arith, long) in (
      front,
      long,
      ap (λ (t : Answer). t.output) of.is ∙ ap (watch_lines 1) is ∙ lines_more 1 front s
          ∙ ap (λ n. watch_lines 1 front ++ watch_line n s) number
          ∙ ap (λ l. watch_lines 1 front ++ l)
          (one_line graphs evidence.machines evidence.rules es s (summary_of (report_in of)) a summed (length es)),
    )

-- `watch` agrees with the audit of the same files
pub watches_agree : EntriesGiveOneGraph → FilesGiveOneReport → WatchesAgreeWithAudits
watches_agree graphs reports roster rules logs files watched audited watch is audit = by audit
  where
    -- what is printed
    made : IsMadeOf roster (source_named rules) logs files watched
    made = made_of roster rules logs files watched watch is

    -- so the files give the report
    given : GivesReport roster (source_named rules) logs files (Ok (report_in made.of))
    given = report_made roster (source_named rules) logs files watched made

    -- by the audit's answer, which is none of a refusal
    by : IsAuditOver roster rules logs files audited → AgreesWithAudit roster rules logs files watched audited
    by (inl (refusal, refuses, _)) = absurd (reports roster (source_named rules) logs files (Err refusal)
        (Ok (report_in made.of)) refuses given)
    by (inr (other, also, right)) =
        let answer : audited ≡ report_answer (report_in made.of) =
        right.told ∙ sym (same_told (report_in made.of) other
        (reports roster (source_named rules) logs files (Ok (report_in made.of)) (Ok other) given also)) in
        record {
          report = report_in made.of;
          given = given;
          audit = record { sound = given_is_sound roster (source_named rules) logs files (report_in made.of) given; told = answer };
          status = status_is watched _ made.of.is ∙ sym (status_is audited _ answer);
          last = λ some.
              let (front, _, line) = last_line graphs logs made.found watched made.of some in
              (watch_lines 1 front, line);
        }
