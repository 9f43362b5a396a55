-- Machines by their names.
use Rattle.std.specs.Prelude.{ℕ, Bool, false, not, if◌then◌else◌, List, map, slice_get}
use Rattle.std.specs.Prelude.{Option, Some, None, Ok, Err, ok_or}
use Rattle.std.specs.List.{position_from}
use Rattle.std.specs.Str.{bytes_eq}
use Rattle.roster.specs.declared.post.Role.{Role}
use Rattle.roster.specs.Machines.{is_supervisor}
use Rattle.input_causes.specs.declared.script.ScriptWhy.TheVariants.{BadName, UnknownName, WrongRole}
use Rattle.election_script.specs.declared.script.Cast0.{Cast0}
use Rattle.election_script.specs.declared.script.StopAt.{StopAt}
use Rattle.election_script.specs.Grammar.{name_at}
use Rattle.election_script.specs.Words.{LineRead, ◌>>=◌, is_name_word}

-- machines, each by its name and its role
abbrev pub Machines : Type 0
Machines = List (List ℕ × Role)

-- the name and the role of each machine
abbrev pub roles_of : List Cast0 → Machines
roles_of machines = map (λ (cast : Cast0). (cast.name, cast.role)) machines

-- the names of the machines that stop
abbrev pub stopped_of : List Cast0 → List StopAt → List (List ℕ)
stopped_of machines stops = map (λ (stop : StopAt). name_at machines stop.machine) stops

-- the place of the machine of the name
abbrev pub place_of : Machines → List ℕ → Option ℕ
place_of machines name = position_from (λ (machine : List ℕ × Role). bytes_eq machine.0 name) 0 machines

-- the machine that the word names, by its place
abbrev pub machine_named : Machines → List ℕ → LineRead ℕ
machine_named machines name = if is_name_word name then ok_or (place_of machines name) UnknownName else Err BadName

-- whether the second role is the first
abbrev pub is_same_role : Role → Role → Bool
is_same_role role other = if is_supervisor role then is_supervisor other else not (is_supervisor other)

-- whether it is a machine of the role
abbrev pub is_of_role : Role → Option (List ℕ × Role) → Bool
is_of_role role None = false
is_of_role role (Some machine) = is_same_role role machine.1

-- the machine of the role that the word names
abbrev pub machine_of_role : Machines → Role → List ℕ → LineRead ℕ
machine_of_role machines role name = do
  place ← machine_named machines name
  if is_of_role role (slice_get machines place) then Ok place else Err WrongRole
