-- What holds of each play of a lawful script.
use Rattle.demonstration.proofs.Imports.{◌≡◌, ℕ, ◌+◌, ◌<◌, ◌≤◌, inl, inr, List, [], length, refl, sym, subst, arith}
use Rattle.demonstration.proofs.Imports.{length-append, Ok, Err, flat_map, cases_lt, text_of, roster_tree, Script}
use Rattle.demonstration.proofs.Imports.{IsLawful, SealedEntry, history, sent_in, Event, HasHeader, header_tree}
use Rattle.demonstration.proofs.Imports.{record_text, roster_of, MachineState, IsPlayed, world_of, Refusal, too_long}
use Rattle.demonstration.proofs.Imports.{max_roster, IsLeftOf, end_of, left_has_header, whole_is_left}
use Rattle.demonstration.proofs.Imports.{script_roster_is_read, AuditReport, Demonstration, IsKeptOf, GivesAudit}
use Rattle.demonstration.proofs.Imports.{IsCounted, IsDemonstrationOf, IsRefusedSo, take}

module _ (script : Script) (lawful : IsLawful script) (machines : List MachineState) (played : IsPlayed script machines)
  where
    -- there is a first machine, whose log is kept
    pub some_machine : 0 < length machines
    some_machine = omega (arith, played.are_of.count, lawful.machines.few.0)

    -- the roster's text is within the limit of its file
    pub roster_short : length (text_of (roster_tree (roster_of script))) ≤ max_roster
    roster_short = elim (cases_lt max_roster (length (text_of (roster_tree (roster_of script))))) [
      | inl long ↦ absurd (script_roster_is_read script lawful script.steps (world_of machines) played.played []
          (Err (too_long [])) (inl (long, refl)))
      | inr within ↦ within
    ]

-- what is kept of a log is what is left of it: its header and more
pub kept_is_left : (session owner : ℕ) (events : List (Event SealedEntry)) (bytes : List ℕ) →
    IsKeptOf session owner events bytes → IsLeftOf owner events bytes
kept_is_left session owner events bytes (inl (place, is, same)) = record {
  place = end_of owner events (place + 1) + 1;
  after_header = omega (
    arith,
    length-append (text_of (header_tree owner)) (flat_map record_text (take (place + 1) events)),
  );
  cut = same;
}
kept_is_left session owner events bytes (inr (none, same)) =
    subst (IsLeftOf owner events) (sym same) (whole_is_left owner events)

-- what is kept of a log begins with its header, since no cut is inside it
pub kept_has_header : (session : ℕ) (events : List (Event SealedEntry)) (bytes : List ℕ) →
    IsKeptOf session 0 events bytes → HasHeader bytes
kept_has_header session events bytes is =
    left_has_header 0 (omega arith) events bytes (kept_is_left session 0 events bytes is)

-- what was played, kept, audited and counted is a demonstration
pub demonstrated : (script : Script) (machines : List MachineState) (session sent : ℕ) (bytes : List ℕ)
    (report : AuditReport) (shown : Demonstration) → IsPlayed script machines →
    IsKeptOf session 0 (history (world_of machines) 0) bytes → GivesAudit (roster_of script) bytes (Ok report) →
    sent ≡ length (sent_in (world_of machines)) → IsCounted sent report shown → IsDemonstrationOf script session shown
demonstrated script machines session sent bytes report shown played kept gives same counted = record {
  machines = machines;
  report = report;
  audited = record { bytes = bytes; played = played; kept = kept; gives = gives };
  counted = rw same at counted;
}

-- the refusal of the kept log's audit is that of the demonstration
pub refused_so : (script : Script) (machines : List MachineState) (session : ℕ) (bytes : List ℕ) (refusal : Refusal) →
    IsPlayed script machines → IsKeptOf session 0 (history (world_of machines) 0) bytes →
    GivesAudit (roster_of script) bytes (Err refusal) → IsRefusedSo script session refusal
refused_so script machines session bytes refusal played kept gives =
    (machines, record { bytes = bytes; played = played; kept = kept; gives = gives })
