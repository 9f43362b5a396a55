-- What a machine is made of, which no call changes.
use Rattle.std.specs.Prelude.{◌≡◌, ℕ, List, map, slice_get, Some}
use Rattle.std.specs.List.{enumerate_from}
use Rattle.entry_format.specs.declared.deed.Deed.{Deed}
use Rattle.lms_sign.specs.Secret.{Secret}
use Rattle.roster.specs.declared.post.Post.{Post}
use Rattle.roster.specs.declared.post.Role.{Role}
use Rattle.election_script.specs.declared.script.Cast0.{Cast0}
use Rattle.election_script.specs.declared.script.Script.{Script}
use Rattle.polling_world.specs.Keys.{key_of, roster_of}

-- the version in which it makes its entries, its place in the roster, its name and role, what it is
-- to do in order, its key before it signed anything, the roster, and how many events its log may
-- have
pub record Config : Type 0 where
  pub version : ℕ
  pub number : ℕ
  pub name : List ℕ
  pub role : Role
  pub actions : List Deed
  pub key : Secret
  pub roster : List Post
  pub log : ℕ

-- what the script gives this machine at this place
abbrev pub config_of : Script → ℕ → Cast0 → Config
config_of script number cast = record {
  version = script.version;
  number = number;
  name = cast.name;
  role = cast.role;
  actions = cast.actions;
  key = key_of script cast;
  roster = roster_of script;
  log = script.log;
}

-- the configurations of a script's machines, in its order
abbrev pub script_configs : Script → List Config
script_configs script = map (λ at. config_of script at.0 at.1) (enumerate_from 0 script.machines)

-- the configuration is the one that the script gives the machine at its place
abbrev pub IsOf : Script → Config → Type 0
IsOf script config =
    (cast : Cast0) × (slice_get script.machines config.number ≡ Some cast)
    × (config ≡ config_of script config.number cast)
