-- The roster of a script makes a roster that has a text, and each machine's key is at its place.
use Rattle.polling_world.proofs.Imports.{◌≡◌, ℕ, ◌+◌, ◌<◌, List, [], ◌∷◌, ◌++◌, length, map, get_or, refl, sym, ap}
use Rattle.polling_world.proofs.Imports.{◌∙◌, arith, length-append, codes, slice_get, count_by, if◌then◌else◌, fold}
use Rattle.polling_world.proofs.Imports.{length-map, length-take-le, All-map, slice_get_within, get_or_from_slice_get}
use Rattle.polling_world.proofs.Imports.{sha256, length-sha256, parameters, u32str, length-u32str, lms_typecode}
use Rattle.polling_world.proofs.Imports.{Secret, public_of, lms_public, node, Post, AreDistinct, HaveText, IsName}
use Rattle.polling_world.proofs.Imports.{is_supervisor, HasKey, roster_tree, text_of, key_at, key_is, Cast0, Script}
use Rattle.polling_world.proofs.Imports.{IsLawful, machine_id, key_of, post_of, roster_of, election_of, length-node}
use Rattle.std.specs.Prelude.{Some}
use Rattle.std.proofs.lemmas.List.{get_or-map}

-- a public key has 56 octets
length-public : (s : Secret) → length s.id ≡ 16 → length (public_of s) ≡ 56
unfolding lms_public
length-public s sixteen =
    let a = u32str (lms_typecode s.height) in
    let b = u32str (parameters s.kind).typecode in
    let t = node s.kind s.height s.id s.seed s.height 1 in
    omega (
      arith,
      length-append (a ++ b ++ s.id) t,
      length-append (a ++ b) s.id,
      length-append a b,
      length-u32str (lms_typecode s.height),
      length-u32str (parameters s.kind).typecode,
      sixteen,
      length-node s.kind s.height s.id s.seed s.height 1,
    )

-- a machine's identifier has 16 octets
pub length-id : (seed name : List ℕ) → length (machine_id seed name) ≡ 16
unfolding machine_id
length-id seed name =
    let hash = sha256 (codes "auditorium id" ++ seed ++ name) in
    length-take-le 16 hash (omega (arith, length-sha256 (codes "auditorium id" ++ seed ++ name)))

-- each machine of the roster has a key
has_key : (script : Script) (cast : Cast0) → HasKey (post_of script cast)
has_key script cast = length-public (key_of script cast) (length-id script.seed cast.name)

-- the machine at a place of the script
some_of : (casts : List Cast0) (k : ℕ) → k < length casts → Cast0
some_of [] k within = absurd (omega arith)
some_of (cast ∷ casts) k within = cast

-- no two machines of the roster have one name
distinct_posts : (script : Script) → IsLawful script → AreDistinct (roster_of script)
distinct_posts script lawful i j d before within same =
    let casts = script.machines in
    let long : j < length casts = omega (arith, within, length-map casts (post_of script)) in
    let cast = some_of casts j long in
    let earlier : i < length casts = omega (arith, before, long) in
    lawful.machines.distinct i j cast before long
    (rw (get_or-map (post_of script) casts i cast d earlier, get_or-map (post_of script) casts j cast d long) at same)

-- as many supervisors are counted in the roster as in the script
sums : (script : Script) (casts : List Cast0) (n : ℕ) →
    fold (λ n (post : Post). n + (if is_supervisor post.role then 1 else 0)) n (map (post_of script) casts)
    ≡ fold (λ n (cast : Cast0). n + (if is_supervisor cast.role then 1 else 0)) n casts
sums script [] n = refl
sums script (cast ∷ casts) n = sums script casts (n + (if is_supervisor cast.role then 1 else 0))

-- so the roster has as many supervisors as the script
supervisors : (script : Script) → count_by (λ (post : Post). is_supervisor post.role) (roster_of script)
    ≡ count_by (λ (cast : Cast0). is_supervisor cast.role) script.machines
supervisors script = sums script script.machines 0

-- the roster of a lawful script has a text
pub roster_has_text : (script : Script) → IsLawful script → HaveText (roster_of script)
roster_has_text script lawful = record {
  roster = record {
    few = omega (arith, lawful.machines.few.1, length-map script.machines (post_of script));
    named = All-map (λ (post : Post). IsName post.name) (post_of script) script.machines lawful.machines.named;
    distinct = distinct_posts script lawful;
    supervisor = supervisors script ∙ lawful.machines.supervisor;
  };
  keys = All-map HasKey (post_of script) script.machines (λ k d within. has_key script (get_or script.machines k d));
}

-- a machine that is there has its key in the roster
pub key_in_roster : (script : Script) (at : ℕ) (cast : Cast0) → slice_get script.machines at ≡ Some cast →
    public_of (key_of script cast) ≡ key_at (roster_of script) at
key_in_roster script at cast is =
    let casts = script.machines in
    let within : at < length casts = slice_get_within casts at cast is in
    let there : get_or (roster_of script) at (post_of script cast) ≡ post_of script cast =
    get_or-map (post_of script) casts at cast (post_of script cast) within
    ∙ ap (post_of script) (get_or_from_slice_get casts at cast cast is) in
    sym (ap (λ (post : Post). post.key) there)
    ∙ key_is (roster_of script) at (post_of script cast) (omega (arith, within, length-map casts (post_of script)))

-- the election of a roster is SHA-256 of its text
pub election_is : (hash text : List ℕ) (machines posts : List Post) → hash ≡ sha256 text →
    text ≡ text_of (roster_tree machines) → machines ≡ posts → hash ≡ election_of posts
unfolding election_of
election_is hash text machines posts hashed spelt same =
    hashed ∙ ap sha256 spelt ∙ ap (λ (m : List Post). sha256 (text_of (roster_tree m))) same
