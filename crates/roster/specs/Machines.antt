-- Which machines make a roster.
use Rattle.std.specs.Prelude.{◌≡◌, ◌≢◌, ◌⊎◌, ℕ, ◌<◌, ◌≤◌, Bool, true, false, List, length, All, AllPairs, count_by}
use Rattle.roster.specs.declared.post.Role.{Role}
use Rattle.roster.specs.declared.post.Role.TheVariants.{Supervisor, Booth}
use Rattle.roster.specs.declared.post.Post.{Post}
use Rattle.roster.specs.RosterText.{HasKey}

-- a character from `a` to `z` or from `0` to `9`
abbrev pub IsNameByte : ℕ → Type 0
IsNameByte byte = ((97 ≤ byte) × (byte ≤ 122)) ⊎ ((48 ≤ byte) × (byte ≤ 57))

-- the most characters of a name
abbrev pub max_name : ℕ
max_name = 16

-- the most machines of a roster
abbrev pub max_machines : ℕ
max_machines = 16

-- a name: at least one such character, and at most 16
pub record IsName (name : List ℕ) : Type 0 where
  pub some : 0 < length name
  pub at_most : length name ≤ max_name
  pub bytes : All IsNameByte name

-- whether the role is that of a supervisor
abbrev pub is_supervisor : Role → Bool
is_supervisor Supervisor = true
is_supervisor Booth = false

-- there are at most 16 machines
abbrev pub AreFew : List Post → Type 0
AreFew machines = length machines ≤ max_machines

-- each has the form of a name
abbrev pub AreNamed : List Post → Type 0
AreNamed machines = All (λ (post : Post). IsName post.name) machines

-- no two have one name
abbrev pub AreDistinct : List Post → Type 0
AreDistinct machines = AllPairs (λ (post other : Post). post.name ≢ other.name) machines

-- exactly one is the supervisor
abbrev pub HaveOneSupervisor : List Post → Type 0
HaveOneSupervisor machines = count_by (λ (post : Post). is_supervisor post.role) machines ≡ 1

-- the machines make a roster
pub record AreRoster (machines : List Post) : Type 0 where
  pub few : AreFew machines
  pub named : AreNamed machines
  pub distinct : AreDistinct machines
  pub supervisor : HaveOneSupervisor machines

-- the machines make a roster that has a text: each key has 56 octets (RFC 8554, 5.3)
pub record HaveText (machines : List Post) : Type 0 where
  pub roster : AreRoster machines
  pub keys : All HasKey machines
