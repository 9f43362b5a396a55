-- What `audit` answers over what is left of an honest place's logs.
use Rattle.log_commands.proofs.Imports
use Imports.{absent, Answer, ap, AreAllFilesOf, AuditReport, audits_are_refused_only_so, Distinct, Err, files_read}
use Imports.{GivesReport, HasLeft, inl, inr, IsAuditAnswer, IsAuditOfPlace, IsAuditOfPlaces, IsAuditOver}
use Imports.{IsHonestRefusal, IsOfReport, List, node_of_sealed, Ok, Option, Outcome, refl, Refusal, refusal_answer}
use Imports.{refused, report_answer, reports_accuse_nobody, reports_leave_rules_open, reports_say_none_broken, Result}
use Imports.{RuleSource, SaysAllKept, Script, SealedEntry, sent_in, source_named, standard, status_by, subst}
use Imports.{whole_reports_say_all_kept, whole_reports_show_distinct, World, ℕ, ◌∙◌, ◌∷◌, ◌≡◌}
use Rattle.auditor.specs.declared.outcome.Outcome.TheVariants as outcome
use Rattle.command_line.specs.declared.status.Status.TheVariants as status

-- no refusal has the status of a report
pub no_report : (refusal : Refusal) → IsOfReport (refusal_answer refusal).status → ⊥
no_report (absent file) how = absurd how
no_report (refused file place cause) how = absurd how

-- the status is Broken only where the report comes to that
pub only_broken : (came : Outcome) → status_by came ≡ status.Broken → came ≡ outcome.Broken
only_broken outcome.Broken e = refl
only_broken outcome.Kept e = let no : status.Done ≡ status.Broken = e in cc
only_broken outcome.Findings e = let no : status.Findings ≡ status.Broken = e in cc
only_broken outcome.Unsettled e = let no : status.Unsettled ≡ status.Broken = e in cc

module _ (script : Script) (w : World SealedEntry) (roster : Option (List ℕ)) (files : List (Option (List ℕ)))
    (place : HasLeft script w roster files) (rules : Option (List ℕ)) (name : List ℕ) (source : RuleSource)
    (names : List (List ℕ)) (answer : Answer) where
  -- what these files give
  abbrev Gives : Result AuditReport Refusal → Type 0
  Gives = GivesReport name source names (files_read roster source rules files)

  -- a refusal is right of the place
  of_refusal : (refusal : Refusal) → Gives (Err refusal) → answer ≡ refusal_answer refusal →
      IsAuditOfPlace script w source rules names files answer
  of_refusal refusal gives told =
      let so = λ (apart : Distinct node_of_sealed (sent_in w)).
      audits_are_refused_only_so script w roster files place apart name source rules names refusal gives in
      record {
        honest = λ apart. inr (refusal, so apart, told);
        done = λ apart plain all whole.
            absurd (subst (λ (s : RuleSource). IsHonestRefusal s rules refusal) plain (so apart));
        shown = λ all how.
            absurd (no_report refusal (subst IsOfReport (ap (λ (a : Answer). a.status) told) how));
      }

  module _ (report : AuditReport) (gives : Gives (Ok report)) (told : answer ≡ report_answer report) where
    -- by the standard rules the files are that of the roster and those of the logs
    gives_plainly : source ≡ standard → GivesReport name standard names (roster ∷ files) (Ok report)
    gives_plainly plain =
        subst (λ (s : RuleSource). GivesReport name s names (files_read roster s rules files) (Ok report)) plain gives

    -- over the whole logs of all machines the report says of each standard rule that it is kept
    all_are_kept : source ≡ standard → AreAllFilesOf w files → SaysAllKept w files report
    all_are_kept plain all =
        whole_reports_say_all_kept script w roster files place all name names report (gives_plainly plain)

    -- an answer that is the report's is right of the place
    of_report : IsAuditOfPlace script w source rules names files answer
    of_report = record {
      honest = λ apart.
          inl (record {
            report = report;
            told = told;
            honest = reports_accuse_nobody script w roster files place apart name source rules names report gives;
            none_broken = λ plain.
                reports_say_none_broken script w roster files place apart name names report (gives_plainly plain);
            all_kept = all_are_kept;
            unsettled = reports_leave_rules_open script w roster files place apart name source rules names report gives;
          });
      done = λ apart plain all whole.
          let says = all_are_kept plain all in
          ap (λ (a : Answer). a.status) told ∙ ap status_by (says.nothing (says.clean whole));
      shown = λ all how.
          whole_reports_show_distinct script w roster place.roster files all name source rules names report gives;
    }

-- an answer that is right is right of each honest place, be it a refusal or a report
pub audit_right : (roster rules : List ℕ) (names : List (List ℕ)) (files : List (Option (List ℕ))) (answer : Answer) →
    IsAuditOver roster rules names files answer → IsAuditAnswer roster rules names files answer
audit_right roster rules names files answer right = record { right = right; honest = honest right }
  where
    honest : IsAuditOver roster rules names files answer → IsAuditOfPlaces (source_named rules) names files answer
    honest (inl (refusal, gives, told)) roster_file rules_file logs same script w place =
        of_refusal script w roster_file logs place rules_file roster (source_named rules) names answer refusal
        (subst (λ fs. GivesReport roster (source_named rules) names fs (Err refusal)) same gives) told
    honest (inr (report, gives, of)) roster_file rules_file logs same script w place =
        of_report script w roster_file logs place rules_file roster (source_named rules) names answer report
        (subst (λ fs. GivesReport roster (source_named rules) names fs (Ok report)) same gives) of.told
