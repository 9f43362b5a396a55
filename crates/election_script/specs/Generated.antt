-- The script of a day: the polling place opens, sessions are held one after another, and it closes.
use Rattle.std.specs.Prelude.{ℕ, ◌+◌, ◌-◌, ◌%◌, ◌==◌, not, if◌then◌else◌, List, [], ◌∷◌, ◌++◌, length}
use Rattle.std.specs.Prelude.{map, filter, reverse, replicate, codes}
use Rattle.std.specs.List.{flat_map, concat, range_with_len}
use Rattle.entry_format.specs.declared.deed.Deed.{Deed}
use Rattle.entry_format.specs.declared.deed.Deed.TheVariants.{Opened, Authorise, Closed, Activate, Commit, Cast, Cancel}
use Rattle.entry_order.specs.declared.step.Step.{Step}
use Rattle.entry_order.specs.declared.step.Step.TheVariants.{Act, Hear}
use Rattle.lms_ots.specs.Ots.{u32str}
use Rattle.lms_ots.specs.declared.kind.OtsKind.TheVariants.{W4}
use Rattle.roster.specs.declared.post.Role.TheVariants.{Supervisor, Booth}
use Rattle.election_script.specs.declared.script.Cast0.{Cast0}
use Rattle.election_script.specs.declared.script.Script.{Script}

-- the day's sessions, from 1 to n
abbrev pub sessions : ℕ → List ℕ
sessions n = range_with_len 1 n

-- the place of the supervisor among the machines, which are a supervisor and three booths
abbrev pub supervisor : ℕ
supervisor = 0

-- the places of the three booths
abbrev pub booths : List ℕ
booths = 1 ∷ 2 ∷ 3 ∷ []

-- the booth of a session: the booths take turns
abbrev pub session_booth : ℕ → ℕ
session_booth i = 1 + (i - 1) % 3

-- the ballot of a session: its number in four octets, eight times
abbrev pub session_ballot : ℕ → List ℕ
session_ballot i = concat (replicate 8 (u32str i))

-- what its booth does in a session: each tenth is cancelled, and in the others a ballot is cast
unfoldable pub deeds_of : ℕ → List Deed
deeds_of i = if i % 10 == 0
    then Activate i ∷ Cancel i ∷ []
    else Activate i ∷ Commit i (session_ballot i) ∷ Cast i (session_ballot i) ∷ []

-- the deed that authorises session i at its booth
abbrev pub authorise_of : ℕ → Deed
authorise_of i = Authorise (session_booth i) i

-- what the supervisor does on a day of n sessions
abbrev pub supervisor_actions : ℕ → List Deed
supervisor_actions n = Opened ∷ map authorise_of (sessions n) ++ Closed ∷ []

-- what a booth does on a day of n sessions: the deeds of its own, session by session
unfoldable pub actions_of : ℕ → ℕ → List Deed
actions_of booth n = flat_map deeds_of (filter (λ i. session_booth i == booth) (sessions n))

-- how many entries the booth of a session has made in the sessions before, so its next entry's
-- number
abbrev pub first_number : ℕ → ℕ
first_number i = length (actions_of (session_booth i) (i - 1))

-- the numbers of the entries that its booth makes in a session
abbrev pub numbers_of : ℕ → List ℕ
numbers_of i = range_with_len (first_number i) (length (deeds_of i))

-- the machine at a place hears a machine's entries of these numbers, in their order
abbrev pub hears : ℕ → ℕ → List ℕ → List Step
hears at from numbers = map (λ number. Hear at from number) numbers

-- the supervisor makes its entry of this number, and the booths hear it
abbrev pub supervisor_steps : ℕ → List Step
supervisor_steps number = Act supervisor ∷ map (λ booth. Hear booth supervisor number) booths

-- the booths other than one
abbrev pub others : ℕ → List ℕ
others booth = filter (λ other. not (other == booth)) booths

-- a session is authorised; its booth acts once for each of its deeds; the supervisor hears these
-- entries, the last first; and then each other booth hears them, the first first
unfoldable pub session_steps : ℕ → List Step
session_steps i =
    supervisor_steps i
    ++ replicate (length (deeds_of i)) (Act (session_booth i))
    ++ hears supervisor (session_booth i) (reverse (numbers_of i))
    ++ flat_map (λ other. hears other (session_booth i) (numbers_of i)) (others (session_booth i))

-- the opening, the sessions and the closing
abbrev pub day_steps : ℕ → List Step
day_steps n = supervisor_steps 0 ++ flat_map session_steps (sessions n) ++ supervisor_steps (n + 1)

-- the machines with what they do on a day of n sessions
abbrev pub machines_of : ℕ → List Cast0
machines_of n =
    record { name = codes "sv"; role = Supervisor; actions = supervisor_actions n }
    ∷ record { name = codes "b1"; role = Booth; actions = actions_of 1 n }
    ∷ record { name = codes "b2"; role = Booth; actions = actions_of 2 n }
    ∷ record { name = codes "b3"; role = Booth; actions = actions_of 3 n } ∷ []

-- how much the machines do in all
abbrev pub count_actions : List Cast0 → ℕ
count_actions machines = length (flat_map (λ (cast : Cast0). cast.actions) machines)

-- the script of a day of n sessions, in which nothing is lost and no machine stops
abbrev pub generated : ℕ → Script
generated n = record {
  version = 1;
  seed = codes "auditorium";
  kind = W4;
  height = 10;
  log = count_actions (machines_of n);
  link = n + 2;
  machines = machines_of n;
  loses = [];
  stops = [];
  steps = day_steps n;
}
