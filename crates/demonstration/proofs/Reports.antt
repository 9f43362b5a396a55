-- What an audit gives of a roster and one log.
use Rattle.demonstration.proofs.Imports.{ℕ, ◌≤◌, inl, inr, List, [], ◌∷◌, length, refl, Some, Result, Ok, Err, codes}
use Rattle.demonstration.proofs.Imports.{sha256, text_of, Post, HaveText, roster_tree, roster_fits, standard_rules}
use Rattle.demonstration.proofs.Imports.{LogRead, IsSealedLogOf, RosterRead, IsLogRefusal, Refusal, GivesRoster}
use Rattle.demonstration.proofs.Imports.{max_roster, WithLogs, AuditReport, standard, GivesAudit, log_name}

module _ (posts : List Post) (have : HaveText posts) (short : length (text_of (roster_tree posts)) ≤ max_roster)
    (bytes : List ℕ) where
  -- what is in the roster's file
  abbrev text : List ℕ
  text = text_of (roster_tree posts)

  -- and what it is read as: the machines, and the text's digest for the election
  abbrev read : RosterRead
  read = record { roster = record { machines = posts }; election = sha256 text }

  -- the roster's file gives the roster
  given : GivesRoster (codes "roster") (Some text) (Ok read)
  given = inr (
    short,
    (
      Ok (record { machines = posts }),
      (record { keys = have.keys; within = roster_fits posts have; spelt = refl }, have.roster),
      refl,
    ),
  )

  -- what the log is read as gives what the audit gives
  pub of_log : (log : LogRead) (answer : Result AuditReport Refusal) →
      IsSealedLogOf posts (sha256 text) log (Some bytes) →
      WithLogs posts standard standard_rules (log_name ∷ []) (log ∷ []) answer → GivesAudit posts bytes answer
  of_log log answer is gives = inl (read, given, inl (log ∷ [], (is, tt), gives))

  -- a log that is refused refuses the audit
  pub of_refusal : (refusal : Refusal) → IsLogRefusal log_name (Some bytes) refusal →
      GivesAudit posts bytes (Err refusal)
  of_refusal refusal is = inl (read, given, inr (refusal, inl is, refl))
