-- What is left to read of a script, where its lines have been read up to a kind.
use Rattle.std.specs.Prelude.{ℕ, ◌+◌, ◌==◌, not, nat_le, nat_lt, Bool, if◌then◌else◌, List, [], length}
use Rattle.std.specs.Prelude.{Option, Some, None, unwrap_or, Result, Ok, Err}
use Rattle.entry_format.specs.declared.deed.Deed.{Deed}
use Rattle.lms_ots.specs.declared.kind.OtsKind.TheVariants.{W1}
use Rattle.input_causes.specs.declared.script.ScriptWhy.TheVariants.{OutOfOrder, NotOneSupervisor, OutOfRange}
use Rattle.input_causes.specs.declared.script.ScriptWhy.TheVariants.{UnknownWord}
use Rattle.election_script.specs.declared.kinds.Kind.{Kind}
use Rattle.election_script.specs.declared.kinds.Kind.TheVariants as kind
use Rattle.election_script.specs.declared.draft.Line.{Line}
use Rattle.election_script.specs.declared.draft.LineFault.{LineFault}
use Rattle.election_script.specs.declared.draft.LineFault.TheVariants.{Why, Memory}
use Rattle.election_script.specs.declared.script.Cast0.{Cast0}
use Rattle.election_script.specs.declared.script.Script.{Script}
use Rattle.election_script.specs.declared.sheet.Sheet.{Sheet}
use Rattle.election_script.specs.Kinds.{rank}
use Rattle.election_script.specs.Lawful.{max_events, max_link}
use Rattle.election_script.specs.Words.{LineRead, ◌>>=◌}
use Rattle.election_script.specs.Lines.{one_number, seed_read, key_read, lose_read, stop_read, step_read, read_line}
use Rattle.election_script.specs.Deeds.{do_read}
use Rattle.election_script.specs.Left.{Left, LinesRead, Head, one, some, many, most_lines, is_most}
use Rattle.election_script.specs.Reading.{version_read, cast_read, one_supervisor, none_left}
use Rattle.election_script.specs.inside.Words.{roles_of, stopped_of}
use Rattle.election_script.specs.inside.Lines.{reached_by}
use Rattle.election_script.specs.inside.Sheets.{with_deeds, version_in, put, script_in, is_supervised}

-- deeds in the order of their lines, each after its machine's place
abbrev pub Deeds : Type 0
Deeds = List (ℕ × Deed)

-- the rest of a script, after a part of it and deeds: nothing
abbrev pub to_end : Script → Deeds → Left → LinesRead Script
to_end part deeds left = do
  ended ← none_left left
  Ok (record part { machines = with_deeds 0 deeds part.machines })

-- steps
abbrev pub to_steps : Script → Deeds → Left → LinesRead Script
to_steps part deeds left = do
  steps ← many kind.Step (λ steps. step_read (roles_of part.machines)) part.steps left
  to_end (record part { steps = steps.0 }) deeds steps.1

-- stops
abbrev pub to_stops : Script → Deeds → Left → LinesRead Script
to_stops part deeds left = do
  stops ← many kind.Stop (λ stops. stop_read (roles_of part.machines) (stopped_of part.machines stops)) part.stops left
  to_steps (record part { stops = stops.0 }) deeds stops.1

-- lost entries
abbrev pub to_loses : Script → Deeds → Left → LinesRead Script
to_loses part deeds left = do
  loses ← many kind.Lose (λ loses. lose_read (roles_of part.machines)) part.loses left
  to_stops (record part { loses = loses.0 }) deeds loses.1

-- deeds
abbrev pub to_deeds : Script → Deeds → Left → LinesRead Script
to_deeds part deeds left = do
  more ← many kind.Do (λ deeds. do_read part.version (roles_of part.machines)) deeds left
  to_loses part more.0 more.1

-- deeds, where there is one supervisor
abbrev pub to_supervisor : Script → Deeds → Left → LinesRead Script
to_supervisor part deeds left = do
  supervised ← one_supervisor part.machines left
  to_deeds part deeds left

-- more machines
abbrev pub to_machines : Script → Deeds → Left → LinesRead Script
to_machines part deeds left = do
  machines ← many kind.Machine cast_read part.machines left
  to_supervisor (record part { machines = machines.0 }) deeds machines.1

-- one machine or more
abbrev pub to_machine : Script → Deeds → Left → LinesRead Script
to_machine part deeds left = do
  machines ← some kind.Machine cast_read part.machines left
  to_supervisor (record part { machines = machines.0 }) deeds machines.1

-- the link's line
abbrev pub to_link : Script → Deeds → Left → LinesRead Script
to_link part deeds left = do
  link ← one kind.Link (one_number 1 max_link) left
  to_machine (record part { link = link.0 }) deeds link.1

-- the log's line
abbrev pub to_log : Script → Deeds → Left → LinesRead Script
to_log part deeds left = do
  log ← one kind.Log (one_number 1 max_events) left
  to_link (record part { log = log.0 }) deeds log.1

-- the key's line
abbrev pub to_key : Script → Deeds → Left → LinesRead Script
to_key part deeds left = do
  key ← one kind.Key key_read left
  to_log (record part { kind = key.0.0; height = key.0.1 }) deeds key.1

-- the seed's line
abbrev pub to_seed : Script → Deeds → Left → LinesRead Script
to_seed part deeds left = do
  seed ← one kind.Seed seed_read left
  to_key (record part { seed = seed.0 }) deeds seed.1

-- the version's line
abbrev pub to_version : Script → Deeds → Left → LinesRead Script
to_version part deeds left = do
  version ← version_read part.version left
  to_seed (record part { version = version.0 }) deeds version.1

-- what follows the last kind
abbrev pub after_kind : Option Kind → Script → Deeds → Left → LinesRead Script
after_kind None = to_version
after_kind (Some kind.Version) = to_seed
after_kind (Some kind.Seed) = to_key
after_kind (Some kind.Key) = to_log
after_kind (Some kind.Log) = to_link
after_kind (Some kind.Link) = to_machine
after_kind (Some kind.Machine) = to_machines
after_kind (Some kind.Do) = to_deeds
after_kind (Some kind.Lose) = to_loses
after_kind (Some kind.Stop) = to_stops
after_kind (Some kind.Step) = to_steps

-- the script of a sheet, as far as it has been read, with nothing to do yet
abbrev pub part_of : Sheet → Script
part_of sheet = record {
  version = version_in sheet;
  seed = unwrap_or sheet.seed [];
  kind = (unwrap_or sheet.key (W1, 0)).0;
  height = (unwrap_or sheet.key (W1, 0)).1;
  log = unwrap_or sheet.log 0;
  link = unwrap_or sheet.link 0;
  machines = sheet.machines;
  loses = sheet.loses;
  stops = sheet.stops;
  steps = sheet.steps;
}

-- the script of a sheet and the lines that are left
abbrev pub resume : Sheet → Left → LinesRead Script
resume sheet left = after_kind sheet.last (part_of sheet) sheet.deeds left

-- ---- one line

-- whether a line of the kind may follow lines that have reached so far
abbrev pub follows : ℕ → Kind → Bool
follows reached kind =
    if reached == 0 then nat_le (rank kind) 1
    else if nat_lt reached 6 then rank kind == reached
    else nat_le reached (rank kind + 1)

-- how many lines of the kind the sheet holds, of kinds that have a limit
abbrev pub count_in : Sheet → Kind → ℕ
count_in sheet kind.Machine = length sheet.machines
count_in sheet kind.Do = length sheet.deeds
count_in sheet kind.Lose = length sheet.loses
count_in sheet kind.Step = length sheet.steps
count_in sheet kind = 0

-- the sheet with a line more, unless there are as many of its kind as there may be
abbrev pub with_room : Sheet → Kind → Line → LineRead Sheet
with_room sheet kind line =
    if is_most (most_lines kind) (count_in sheet kind) then Err OutOfRange else Ok (put sheet line)

-- the sheet after the words of a line
abbrev pub after_words : Sheet → Kind → List (List ℕ) → LineRead Sheet
after_words sheet kind words =
    read_line (version_in sheet) (roles_of sheet.machines) (stopped_of sheet.machines sheet.stops) kind words
    >>= with_room sheet kind

-- one of the machines is a supervisor
abbrev pub supervisor_read : List Cast0 → LineRead (Unit {0})
supervisor_read machines = if is_supervised machines then Ok tt else Err NotOneSupervisor

-- the place of a line of the kind is right
abbrev pub place_read : Sheet → Kind → LineRead (Unit {0})
place_read sheet kind =
    if not (follows (reached_by sheet.last) kind) then Err OutOfOrder
    else if nat_le (rank kind) 5 then Ok tt
    else supervisor_read sheet.machines

-- the sheet after a line of the kind
abbrev pub after_line : Sheet → Kind → List (List ℕ) → LineRead Sheet
after_line sheet kind words = do
  placed ← place_read sheet kind
  after_words sheet kind words

-- the sheet after a line
abbrev pub after : Sheet → Head → LineRead Sheet
after sheet (Err why) = Err why
after sheet (Ok (kind, words)) = after_line sheet kind words

-- nothing is lacking after the lines of the sheet
abbrev pub ending_read : Sheet → LineRead (Unit {0})
ending_read sheet =
    if nat_lt (reached_by sheet.last) 6 then Err OutOfOrder else supervisor_read sheet.machines

-- the script of a sheet after which no line comes
abbrev pub ended : Sheet → LineRead Script
ended sheet = do
  whole ← ending_read sheet
  Ok (script_in sheet)

-- what a reader that changes the sheet answers, with the sheet
abbrev pub seen : Result (Unit {0}) LineFault → Sheet → LineRead Sheet
seen (Ok done) sheet = Ok sheet
seen (Err (Why why)) sheet = Err why
seen (Err Memory) sheet = Err UnknownWord
