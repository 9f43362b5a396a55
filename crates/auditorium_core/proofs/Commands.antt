-- What is shown of each command, by its own file. The tables are in the order of the words.
use Rattle.auditorium_core.proofs.Imports
use Imports.{[], Answer, AnswersWords, ap, AreSessions, arith, audit, check, Command, command_parts, decimal}
use Imports.{decimal_injective, decode_of, decode_of-encode_lower, demonstrate, encode_lower, endorse, endorsed}
use Imports.{endorsed_one, gaps, generate, get_or, HasOneAnswer, HasStatuses, inl, inr, IsCompleted, IsOfficeSeed}
use Imports.{IsStill, List, Means, office, Ok, Option, order, play, prove, repair, run, sym, watch, ℕ, ◌∙◌, ◌≡◌}
use Rattle.auditorium_core.proofs.CitedLaws.{CitedLaws}
use Rattle.auditorium_core.proofs.DemonstrationCommand.{demonstration_completed, demonstration_has_statuses}
use Rattle.auditorium_core.proofs.DemonstrationCommand.{demonstration_one}
use Rattle.log_commands.proofs.AuditCommand.{audit_completed, audit_has_statuses, audit_one}
use Rattle.log_commands.proofs.CheckCommand.{check_completed, check_has_statuses, check_one}
use Rattle.log_commands.proofs.GapsCommand.{gaps_completed, gaps_has_statuses, gaps_one}
use Rattle.log_commands.proofs.OrderCommand.{order_completed, order_has_statuses, order_one}
use Rattle.log_commands.proofs.ProveCommand.{prove_completed, prove_has_statuses, prove_one}
use Rattle.log_commands.proofs.WatchCommand.{watch_completed, watch_has_statuses, watch_one}
use Rattle.office_commands.proofs.EndorseCommand.{endorse_completed, endorse_has_statuses, endorse_one}
use Rattle.office_commands.proofs.EndorsedCommand.{endorsed_completed, endorsed_has_statuses}
use Rattle.office_commands.proofs.OfficeCommand.{office_completed, office_has_statuses, office_one}
use Rattle.place_commands.proofs.MakeCommand.{make_completed, make_has_statuses, make_one}
use Rattle.place_commands.proofs.PlayCommand.{play_completed, play_has_statuses, play_one}
use Rattle.place_commands.proofs.RepairCommand.{repair_completed, repair_has_statuses, repair_one}
use Rattle.place_commands.proofs.RunCommand.{run_completed, run_has_statuses}

-- that each command but `watch` has its statuses
ruleset of_logs = (audit_has_statuses, check_has_statuses, gaps_has_statuses, order_has_statuses, prove_has_statuses)

ruleset of_places = (make_has_statuses, play_has_statuses, repair_has_statuses, run_has_statuses)

ruleset of_offices = (demonstration_has_statuses, endorse_has_statuses, endorsed_has_statuses, office_has_statuses)

ruleset all_statuses = (of_logs, of_places, of_offices)

-- each command has its statuses
pub have_statuses : (command : Command) → HasStatuses (command_parts command)
have_statuses (watch roster rules logs) = watch_has_statuses roster rules logs
have_statuses command = search all_statuses

-- that each but `watch` is carried out where its files are accepted
ruleset done_on_logs = (audit_completed, check_completed, gaps_completed, order_completed, prove_completed)

ruleset done_in_places = (make_completed, play_completed, repair_completed, run_completed)

ruleset done_by_offices = (demonstration_completed, endorse_completed, endorsed_completed, office_completed)

ruleset all_done = (done_on_logs, done_in_places, done_by_offices)

-- is carried out where its files are accepted
pub are_completed : CitedLaws → (command : Command) → IsCompleted (command_parts command)
are_completed laws (watch roster rules logs) =
    watch_completed laws.orders laws.proofs.rules laws.reports roster rules logs
are_completed laws command = search all_done

-- that each but `watch` has one answer without threads
ruleset one_on_logs = (audit_one, check_one, gaps_one, order_one, prove_one)

ruleset one_of_others = (demonstration_one, endorse_one, endorsed_one, make_one, office_one, play_one, repair_one)

ruleset all_one = (one_on_logs, one_of_others)

-- each command without threads has one answer over given files
pub have_one_answer : CitedLaws → (command : Command) → IsStill command → HasOneAnswer (command_parts command)
have_one_answer laws (run script prefix) still = absurd still
have_one_answer laws (watch roster rules logs) still =
    watch_one laws.orders laws.proofs.rules laws.reports roster rules logs
have_one_answer laws command still = search all_one

-- a byte of the first word
abbrev name_byte : ℕ → List (List ℕ) → ℕ
name_byte at words = get_or (get_or words 0 []) at 0

-- a word that says a number of sessions says no other
same_sessions : (n l : ℕ) → AreSessions n → AreSessions l → decimal n ≡ decimal l → n ≡ l
same_sessions n l some also word =
    decimal_injective n l (omega (arith, some.at_most)) (omega (arith, also.at_most)) word

-- one that says a seed says no other
same_seed : (s t : List ℕ) → IsOfficeSeed s → IsOfficeSeed t → encode_lower s ≡ encode_lower t → s ≡ t
same_seed s t some also word =
    let whole : Ok s ≡ Ok t =
    sym (decode_of-encode_lower s some.bytes) ∙ ap decode_of word ∙ decode_of-encode_lower t also.bytes in
    cc

-- Words mean one command: the names of two differ in one of these bytes.
pub same_command : (words : List (List ℕ)) (a b : Command) → Means words a → Means words b → a ≡ b
same_command words (audit r u logs) (audit s w others) m n = cc
same_command words (check r u p logs) (check s w q others) m n = cc
same_command words (demonstrate s) (demonstrate t) m n =
    ap demonstrate (same_sessions s t m.allowed n.allowed (let word : decimal s ≡ decimal t = cc in word))
same_command words (endorse x y) (endorse z w) m n = cc
same_command words (endorsed r u v) (endorsed s w z) m n = cc
same_command words (gaps x) (gaps y) m n = cc
same_command words (generate s) (generate t) m n =
    ap generate (same_sessions s t m.allowed n.allowed (let word : decimal s ≡ decimal t = cc in word))
same_command words (office x s) (office y t) m n =
    let name : x ≡ y = cc in
    let seed : s ≡ t = same_seed s t m.allowed n.allowed (cc) in
    cc
same_command words (order r u v logs) (order s w z others) m n = cc
same_command words (play x y) (play z w) m n = cc
same_command words (prove r p logs) (prove s q others) m n = cc
same_command words (repair x y) (repair z w) m n = cc
same_command words (run x y) (run z w) m n = cc
same_command words (watch r u logs) (watch s w others) m n = cc
same_command words a b m n =
    let e : (command_parts a).words ≡ (command_parts b).words = sym m.spelt ∙ n.spelt in
    let first : name_byte 0 (command_parts a).words ≡ name_byte 0 (command_parts b).words = ap (name_byte 0) e in
    let second : name_byte 1 (command_parts a).words ≡ name_byte 1 (command_parts b).words = ap (name_byte 1) e in
    let eighth : name_byte 7 (command_parts a).words ≡ name_byte 7 (command_parts b).words = ap (name_byte 7) e in
    absurd (omega (arith, first, second, eighth))

-- an answer that is right for words is that of the command that they mean
pub of_command : (IsDone : Command → Type 0) (words : List (List ℕ))
    (OnFiles : List (List ℕ) → (List (Option (List ℕ)) → Type 0) → Type 0) (command : Command) (answer : Answer) →
    IsDone command → Means words command → AnswersWords IsDone words OnFiles answer →
    OnFiles (command_parts command).files (λ files. (command_parts command).IsAnswer files answer)
of_command IsDone words OnFiles command answer done means (inl (other, done', means', is)) =
    rw (same_command words other command means' means) at is
of_command IsDone words OnFiles command answer done means (inr (bad, e, on)) = absurd (bad (command, done, means))
