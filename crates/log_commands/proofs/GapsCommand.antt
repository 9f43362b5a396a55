-- The command `gaps`.
use Rattle.log_commands.proofs.Imports.{[], absent_answer, All-from_recursion, Answer, ap, arith, carried_out_as, codes}
use Rattle.log_commands.proofs.Imports.{Contains, contains_as, findings_answer, gaps_log_lines, gaps_parts, HasHeader}
use Rattle.log_commands.proofs.Imports.{HasOneAnswer, HasStatuses, Header, inl, inr, IsAnswerAsRead, IsCarriedOut}
use Rattle.log_commands.proofs.Imports.{IsCompleted, IsGapsAnswer, IsLogOf, IsLogRefused, IsOfCommands, IsRefusal}
use Rattle.log_commands.proofs.Imports.{length, List, LogFault, max_bytes, None, one_read, OnReadFile, Option, PlainLog}
use Rattle.log_commands.proofs.Imports.{read_weaker, refl, refused_answer, Says, Some, Status, status_of, StoreGhosts}
use Rattle.log_commands.proofs.Imports.{subst, sym, TooLong, ℕ, ◌<◌, ◌∙◌, ◌∷◌, ◌≡◌, ◌≢◌, ◌≤◌, ◌⊎◌}
use Rattle.log_files.specs.declared.plain_log.LogFault.TheVariants.{Absent, Memory, ReadFault}

-- bytes say at most one log, and only where they have a header
pub record SayOne : Type 0 where
  -- two logs said by the same bytes are one
  pub one : (bytes : List ℕ) (log other : PlainLog) → Says bytes log → Says bytes other → log ≡ other
  -- bytes that say a log have a header
  pub header : (bytes : List ℕ) (log : PlainLog) → Says bytes log → HasHeader bytes

-- what an answer of `gaps` over a file is, or where there is none
abbrev pub Cases : List ℕ → Option (List ℕ) → Answer → Type 0
Cases name None answer = answer ≡ absent_answer name
Cases name (Some bytes) answer =
    ((max_bytes < length bytes) × (answer ≡ refused_answer name 0 (codes "TooLong")))
    ⊎ ((length bytes ≤ max_bytes) × (((HasHeader bytes → ⊥) × (answer ≡ refused_answer name 0 (codes "Header")))
    ⊎ ((log : PlainLog) × Says bytes log × (answer ≡ findings_answer (gaps_log_lines name log)))))

-- every answer of `gaps` is one of these
cases : (name : List ℕ) (file : Option (List ℕ)) (answer : Answer) → IsGapsAnswer name file answer →
    Cases name file answer
cases name None answer (inl (log, is, e)) = absurd is
cases name (Some bytes) answer (inl (log, is, e)) = inr (is.0, inr (log, is.1, e))
cases name None answer (inr (Absent, is, e)) = e
cases name (Some bytes) answer (inr (Absent, is, e)) = cc
cases name None answer (inr (TooLong, is, e)) = absurd is
cases name (Some bytes) answer (inr (TooLong, is, e)) = inl (is, e)
cases name None answer (inr (Header, is, e)) = absurd is
cases name (Some bytes) answer (inr (Header, is, e)) = inr (is.0, inl (is.1, e))
cases name file answer (inr (ReadFault, is, e)) = absurd e
cases name file answer (inr (Memory, is, e)) = absurd e

-- one answer is right
same_case : SayOne → (name : List ℕ) (file : Option (List ℕ)) (a b : Answer) → Cases name file a → Cases name file b
    → a ≡ b
same_case one name None a b e f = e ∙ sym f
same_case one name (Some bytes) a b (inl (long, e)) (inl (_, f)) = e ∙ sym f
same_case one name (Some bytes) a b (inl (long, e)) (inr (fits, _)) = absurd (omega arith)
same_case one name (Some bytes) a b (inr (fits, _)) (inl (long, f)) = absurd (omega arith)
same_case one name (Some bytes) a b (inr (_, inl (none, e))) (inr (_, inl (_, f))) = e ∙ sym f
same_case one name (Some bytes) a b (inr (_, inl (none, e))) (inr (_, inr (log, says, f))) = absurd
    (none (one.header bytes log says))
same_case one name (Some bytes) a b (inr (_, inr (log, says, e))) (inr (_, inl (none, f))) = absurd
    (none (one.header bytes log says))
same_case one name (Some bytes) a b (inr (_, inr (log, says, e))) (inr (_, inr (other, also, f))) =
    e ∙ ap (λ (read : PlainLog). findings_answer (gaps_log_lines name read)) (one.one bytes log other says also) ∙ sym f

-- `gaps` has one answer over a given file
pub gaps_one : SayOne → (log : List ℕ) → HasOneAnswer (gaps_parts log)
gaps_one one log (file ∷ []) a b x y = same_case one log file a b (cases log file a x) (cases log file b y)
gaps_one one log files a b x y = absurd x

-- each status of lines is of a command that was carried out
lines_done : (lines : List ℕ) → IsCarriedOut (status_of lines)
lines_done [] = tt
lines_done (byte ∷ bytes) = tt

-- `gaps` is carried out over a log, which isn't over the limit, and has a header
log_done : SayOne → (name : List ℕ) (file : Option (List ℕ)) (answer : Answer) (read : PlainLog) → IsLogOf read file →
    Cases name file answer → IsCarriedOut answer.status
log_done one name None answer read is e = absurd is
log_done one name (Some bytes) answer read is (inl (long, e)) = absurd (omega (arith, long, is.0))
log_done one name (Some bytes) answer read is (inr (_, inl (none, e))) = absurd (none (one.header bytes read is.1))
log_done one name (Some bytes) answer read is (inr (_, inr (log, says, e))) =
    carried_out_as answer (findings_answer (gaps_log_lines name log)) e (lines_done (gaps_log_lines name log))

-- `gaps` is carried out over a file that says a log
pub gaps_completed : SayOne → (log : List ℕ) → IsCompleted (gaps_parts log)
gaps_completed one log (file ∷ []) answer right (read, is) =
    log_done one log file answer read is (cases log file answer right)
gaps_completed one log files answer right given = absurd right

-- the command has the status
abbrev Has : List ℕ → Status → Type 0
Has log how = Contains (gaps_parts log).statuses how

-- that of lines
of_lines : (log lines : List ℕ) → Has log (status_of lines)
of_lines log [] = (0, omega arith, refl)
of_lines log (byte ∷ bytes) = (1, omega arith, refl)

-- so those of the command
of_case : (log : List ℕ) (file : Option (List ℕ)) (answer : Answer) → Cases log file answer → Has log answer.status
of_case log None answer e = contains_as (gaps_parts log).statuses answer _ e (3, omega arith, refl)
of_case log (Some bytes) answer (inl (long, e)) = contains_as (gaps_parts log).statuses answer _ e (2, omega arith, refl)
of_case log (Some bytes) answer (inr (_, inl (none, e))) =
    contains_as (gaps_parts log).statuses answer _ e (2, omega arith, refl)
of_case log (Some bytes) answer (inr (_, inr (read, says, e))) =
    contains_as (gaps_parts log).statuses answer _ e (of_lines log (gaps_log_lines log read))

of_files : (log : List ℕ) (files : List (Option (List ℕ))) (answer : Answer) →
    (gaps_parts log).IsAnswer files answer → Has log answer.status
of_files log (file ∷ []) answer is = of_case log file answer (cases log file answer is)
of_files log files answer is = absurd is

pub gaps_has_statuses : (log : List ℕ) → HasStatuses (gaps_parts log)
gaps_has_statuses log = record {
  own = of_files log;
  some = All-from_recursion IsOfCommands (gaps_parts log).statuses (tt, (tt, (tt, (tt, tt))));
}

module _ {S : Type 0} (of : StoreGhosts S) (log : List ℕ) (old new : S) where
  -- what is right for each file that is so, is an answer of `gaps`
  right_for : (IsSo : Option (List ℕ) → Type 0) (answer : Answer) →
      ((file : Option (List ℕ)) → IsSo file → IsGapsAnswer log file answer) →
      OnReadFile of log max_bytes IsSo old new → IsAnswerAsRead of (gaps_parts log) old answer new
  right_for IsSo answer right said =
      (one_read of log max_bytes (λ file. IsGapsAnswer log file answer) old new
      (read_weaker of log max_bytes IsSo (λ file. IsGapsAnswer log file answer) old new right said)).0

  -- the lines on a log that was read are an answer of `gaps`
  pub gaps_findings : (plain : PlainLog) (answer : Answer) → answer ≡ findings_answer (gaps_log_lines log plain)
      → OnReadFile of log max_bytes (IsLogOf plain) old new → IsAnswerAsRead of (gaps_parts log) old answer new
  gaps_findings plain answer e said = right_for (IsLogOf plain) answer (λ file is. inl (plain, is, e)) said

  -- the refusal of a log is an answer of `gaps`
  pub gaps_refusal : (fault given : LogFault) (answer : Answer) → given ≡ fault → fault ≢ Memory
      → IsRefusal log fault answer
      → (given ≢ Memory → OnReadFile of log max_bytes (IsLogRefused given) old new)
      → IsAnswerAsRead of (gaps_parts log) old answer new
  gaps_refusal fault given answer same known is said =
      right_for (IsLogRefused fault) answer (λ file refused. inr (fault, refused, is))
      (subst (λ f. OnReadFile of log max_bytes (IsLogRefused f) old new) same (said (λ e. known (sym same ∙ e))))
