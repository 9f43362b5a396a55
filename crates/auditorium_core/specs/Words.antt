-- The commands, and which words of the command line are good. The tables are in the order of the
-- words.
use Rattle.std.specs.Prelude.{◌≡◌, ℕ, List, IsTrue, ⊤}
use Rattle.command_line.specs.WordForms.{have_form}
use Rattle.command_line.specs.CommandParts.{CommandParts}
use Rattle.log_commands.specs.Audit.{audit_parts}
use Rattle.log_commands.specs.Check.{check_parts}
use Rattle.auditorium_core.specs.Demonstrated.{demonstration_parts}
use Rattle.office_commands.specs.Endorse.{endorse_parts}
use Rattle.office_commands.specs.Endorsed.{endorsed_parts}
use Rattle.log_commands.specs.Gaps.{gaps_parts}
use Rattle.place_commands.specs.Made.{make_parts}
use Rattle.office_commands.specs.Office.{office_parts}
use Rattle.log_commands.specs.Order.{order_parts}
use Rattle.place_commands.specs.Play.{play_parts}
use Rattle.log_commands.specs.Prove.{prove_parts}
use Rattle.place_commands.specs.Repair.{repair_parts}
use Rattle.place_commands.specs.Run.{run_parts}
use Rattle.log_commands.specs.Watch.{watch_parts}

-- what a valid command line asks for
pub data Command : Type 0 where
  -- `audit`: the report by a roster, rules and logs
  audit : (roster rules : List ℕ) (logs : List (List ℕ)) → Command
  -- `check`: what the rules come to, by a roster, the proof in a file, and logs
  check : (roster rules proof : List ℕ) (logs : List (List ℕ)) → Command
  -- `demo`: what an audit shows of a day of this many sessions, of which the log of one machine is
  -- left, cut
  demonstrate : (sessions : ℕ) → Command
  -- `endorse`: a file signed with the key of the office of this name
  endorse : (name file : List ℕ) → Command
  -- `endorsed`: whether a signature is one of a file under a public key
  endorsed : (key file signature : List ℕ) → Command
  -- `gaps`: the gaps of one log
  gaps : (log : List ℕ) → Command
  -- `make`: the script of such a day
  generate : (sessions : ℕ) → Command
  -- `office`: the files of an office of this name, whose key is made of this seed
  office : (name seed : List ℕ) → Command
  -- `order`: which of two entries came first, by a roster and logs
  order : (roster x y : List ℕ) (logs : List (List ℕ)) → Command
  -- `play`: a script played on one thread, and what the names of its files begin with
  play : (script prefix : List ℕ) → Command
  -- `prove`: the proof of the order of the entries, by a roster and logs, into a file
  prove : (roster proof : List ℕ) (logs : List (List ℕ)) → Command
  -- `repair`: a script played on one thread, with logs that are mended, and what the names of its
  -- files begin with
  repair : (script prefix : List ℕ) → Command
  -- `run`: a script played in threads, and what the names of its files begin with
  run : (script prefix : List ℕ) → Command
  -- `watch`: what an audit says after each entry that the logs keep, by a roster, rules and logs
  watch : (roster rules : List ℕ) (logs : List (List ℕ)) → Command

-- what each command is
abbrev pub command_parts : Command → CommandParts
command_parts (audit roster rules logs) = audit_parts roster rules logs
command_parts (check roster rules proof logs) = check_parts roster rules proof logs
command_parts (demonstrate sessions) = demonstration_parts sessions
command_parts (endorse name file) = endorse_parts name file
command_parts (endorsed key file signature) = endorsed_parts key file signature
command_parts (gaps log) = gaps_parts log
command_parts (generate sessions) = make_parts sessions
command_parts (office name seed) = office_parts name seed
command_parts (order roster x y logs) = order_parts roster x y logs
command_parts (play script prefix) = play_parts script prefix
command_parts (prove roster proof logs) = prove_parts roster proof logs
command_parts (repair script prefix) = repair_parts script prefix
command_parts (run script prefix) = run_parts script prefix
command_parts (watch roster rules logs) = watch_parts roster rules logs

-- the words are this command's, and each has the form of a word
pub record Means (words : List (List ℕ)) (command : Command) : Type 0 where
  pub form : IsTrue (have_form words)
  pub spelt : words ≡ (command_parts command).words
  pub allowed : (command_parts command).IsAllowed

-- the program does every command
abbrev pub IsAny : Command → Type 0
IsAny command = ⊤

-- without threads it does every command but `run`
abbrev pub IsStill : Command → Type 0
IsStill (run script prefix) = ⊥
IsStill other = ⊤

-- the words are good: they are those of one of these commands
abbrev pub AreGood : (Command → Type 0) → List (List ℕ) → Type 0
AreGood IsDone words = (command : Command) × IsDone command × Means words command
