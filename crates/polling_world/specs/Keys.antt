-- The keys of a script's machines, which are made of the script's seed and the machine's name, and
-- its roster.
use Rattle.std.specs.Prelude.{◌≡◌, ℕ, List, ◌++◌, map, take, codes, slice_get, Some}
use Rattle.sha2.specs.Sha256.{sha256}
use Rattle.lms_sign.specs.Secret.{Secret, public_of}
use Rattle.roster.specs.declared.post.Post.{Post}
use Rattle.election_script.specs.declared.script.Cast0.{Cast0}
use Rattle.election_script.specs.declared.script.Script.{Script}

-- the seed of a machine's key
unfoldable pub machine_seed : List ℕ → List ℕ → List ℕ
machine_seed seed name = sha256 (codes "auditorium seed" ++ seed ++ name)

-- the identifier of a machine's key (RFC 8554, 5.3: 16 octets)
unfoldable pub machine_id : List ℕ → List ℕ → List ℕ
machine_id seed name = take 16 (sha256 (codes "auditorium id" ++ seed ++ name))

-- the key of a machine of the script, which has signed nothing
abbrev pub key_of : Script → Cast0 → Secret
key_of script cast = record {
  kind = script.kind;
  height = script.height;
  id = machine_id script.seed cast.name;
  seed = machine_seed script.seed cast.name;
  next = 0;
}

-- the key is that of the script's machine at this place
abbrev pub IsKeyOf : Script → ℕ → Secret → Type 0
IsKeyOf script at key =
    (cast : Cast0) × (slice_get script.machines at ≡ Some cast) × (key ≡ key_of script cast)

-- the machine in the roster
abbrev pub post_of : Script → Cast0 → Post
post_of script cast = record { name = cast.name; role = cast.role; key = public_of (key_of script cast) }

-- the roster of the script: its machines in their order
abbrev pub roster_of : Script → List Post
roster_of script = map (post_of script) script.machines
