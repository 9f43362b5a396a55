use Rattle.demonstration.proofs.Imports.{rules, ◌≡◌, ℕ, List, [], ◌∷◌, map, subst, string_bytes, Ok, Err, IfOk, IfErr}
use Rattle.demonstration.proofs.Imports.{IfSome, LogRead, standard_rules, refusal_of, WithLogs, report_of, standard}
use Rattle.demonstration.proofs.Imports.{log_name}
use Rattle.demonstration.proofs.shown.audit_log.Goals as goal

pub returns-clause-ok : goal.returns-clause-ok
returns-clause-ok c =
    let names : map string_bytes c.as_slice.result.now ≡ log_name ∷ [] = search rules in
    let logs : c.push-2.new.self.items ≡ c.args.log ∷ [] = search rules in
    let P : List (List ℕ) → List LogRead → Type 0 = λ ns ls. IfOk c.audit_logs.result (λ report.
    WithLogs c.args.roster.machines standard standard_rules ns ls (Ok (report_of report))) in
    subst (λ ns. P ns (c.args.log ∷ [])) names
    (subst (λ ls. P (map string_bytes c.as_slice.result.now) ls) logs c.audit_logs.ensures.ok)

pub returns-clause-err : goal.returns-clause-err
returns-clause-err c =
    let names : map string_bytes c.as_slice.result.now ≡ log_name ∷ [] = search rules in
    let logs : c.push-2.new.self.items ≡ c.args.log ∷ [] = search rules in
    let P : List (List ℕ) → List LogRead → Type 0 = λ ns ls. IfErr c.audit_logs.result (λ fault.
    IfSome (refusal_of fault) (λ refusal.
    WithLogs c.args.roster.machines standard standard_rules ns ls (Err refusal))) in
    subst (λ ns. P ns (c.args.log ∷ [])) names
    (subst (λ ls. P (map string_bytes c.as_slice.result.now) ls) logs c.audit_logs.ensures.err)
