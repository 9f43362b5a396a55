-- The machines of a script before anything happened are a world.
use Rattle.polling_world.proofs.Imports.{◌≡◌, ◌∙◌, ℕ, zero, suc, ◌+◌, ◌<◌, ◌≤◌, ◌⊎◌, inl, inr, List, [], ◌∷◌, ◌++◌}
use Rattle.polling_world.proofs.Imports.{length, map, false, refl, sym, ap, subst, arith, drop, get_or, replicate}
use Rattle.polling_world.proofs.Imports.{slice_get, length-append, length-map, add-one, same_lists, slice_get_within}
use Rattle.polling_world.proofs.Imports.{slice_get_cases, get_or_from_slice_get, enumerate_from, get_or-map}
use Rattle.polling_world.proofs.Imports.{get_or-enumerate_from, length-enumerate_from, node_of_sealed, start}
use Rattle.polling_world.proofs.Imports.{IsOrderly, IsOrderly-start, stamps_are_few, Cast0, Script, IsLawful, Secret}
use Rattle.polling_world.proofs.Imports.{Config, config_of, script_configs, key_of, IsKeyOf, roster_of, MachineState}
use Rattle.polling_world.proofs.Imports.{IsFresh, machine_of, world_of, configs_of, AreFresh, IsWorld}
use Rattle.std.proofs.Common.{Some, None}

-- what is first in the rest of a list that was mapped
pub rest_step : {X Y : Type 0} (f : X → Y) (xs : List X) (n : ℕ) (y : Y) (ys : List Y) →
    map f (drop n xs) ≡ y ∷ ys →
    (x : X) × (slice_get xs n ≡ Some x) × (y ≡ f x) × (map f (drop (suc n) xs) ≡ ys)
rest_step f [] zero y ys e = cc
rest_step f [] (suc n) y ys e = cc
rest_step f (x ∷ xs) zero y ys e = (x, refl, cc, cc)
rest_step f (x ∷ xs) (suc n) y ys e = rest_step f xs n y ys e

-- where nothing is left of the mapped list, the list is at its end
pub rest_none : {X Y : Type 0} (f : X → Y) (xs : List X) (n : ℕ) → map f (drop n xs) ≡ [] → length xs ≤ n
rest_none f [] n e = omega arith
rest_none f (x ∷ xs) zero e = cc
rest_none f (x ∷ xs) (suc n) e = let rest = rest_none f xs n e in omega (arith, rest)

-- what is in a list with one more at its end
pub push_cases : {X : Type 0} (xs : List X) (x y : X) (n : ℕ) → slice_get (xs ++ x ∷ []) n ≡ Some y →
    (slice_get xs n ≡ Some y) ⊎ ((n ≡ length xs) × (y ≡ x))
push_cases [] x y zero e = inr (refl, cc)
push_cases [] x y (suc n) e = cc
push_cases (z ∷ xs) x y zero e = inl e
push_cases (z ∷ xs) x y (suc n) e = elim (push_cases xs x y n e) [ inl s ↦ inl s | inr r ↦ inr (ap suc r.0, r.1) ]

-- what a function makes one value of is that value again and again
all_alike : {X Y : Type 0} (f : X → Y) (y : Y) (xs : List X) →
    ((k : ℕ) (x : X) → slice_get xs k ≡ Some x → f x ≡ y) → map f xs ≡ replicate (length xs) y
all_alike f y [] each = refl
all_alike f y (x ∷ xs) each = λ i. each zero x refl i ∷ all_alike f y xs (λ k z at. each (suc k) z at) i

module _ (script : Script) (ms : List MachineState)
    (each : (place : ℕ) (m : MachineState) → slice_get ms place ≡ Some m → IsFresh script place None m) where
  -- fresh machines are a world at its start
  pub at_start : world_of ms ≡ start (length ms)
  at_start =
      all_alike machine_of (record { history = []; stopped = false }) ms (λ k m at. ap machine_of (each k m at).2)

  -- the machines made for a lawful script are a world under the script's roster
  pub fresh_world : IsLawful script → length ms ≤ length script.machines → IsWorld (roster_of script) ms
  fresh_world lawful count =
      let orderly : IsOrderly node_of_sealed (world_of ms) =
      rw at_start (IsOrderly-start node_of_sealed (length ms)) in
      record {
        log = script.log;
        small = lawful.log.1;
        few = omega (arith, lawful.machines.few.1, count);
        placed = λ place m is. let fresh = each place m is in rw (fresh.2) (record {
          number = refl;
          of_world = refl;
          of_size = refl;
          no_stop = refl;
          within = omega arith;
        });
        orderly = orderly;
        stamps = stamps_are_few node_of_sealed (world_of ms) orderly;
      }

-- the first machines of the script, and the keys of those that are left
pub record AreFirst (script : Script) (ms : List MachineState) (left : List Secret) : Type 0 where
  -- there are no more of them than the script has
  pub within : length ms ≤ length script.machines
  -- the keys that are left are those of the further machines
  pub rest : map (key_of script) (drop (length ms) script.machines) ≡ left
  -- each is the script's machine at its place
  pub each : (place : ℕ) (m : MachineState) → slice_get ms place ≡ Some m → IsFresh script place None m

module _ (script : Script) (ms : List MachineState) (left more : List Secret) (key : Secret) (at : ℕ)
    (first : AreFirst script ms left) (next : left ≡ key ∷ more) (here : at ≡ length ms) where
  -- the next key is that of the next machine
  pub next_key : IsKeyOf script at key
  next_key =
      let (cast, read, keyed, _) = rest_step (key_of script) script.machines (length ms) key more (first.rest ∙ next) in
      (cast, ap (slice_get script.machines) here ∙ read, keyed)

  -- with the next machine they are the first ones
  pub one_more : (m : MachineState) (new : List MachineState) → IsFresh script at None m → new ≡ ms ++ m ∷ [] →
      AreFirst script new more
  one_more m new fresh is =
      let (cast, read, _, rest) = rest_step (key_of script) script.machines (length ms) key more (first.rest ∙ next) in
      let count : length new ≡ suc (length ms) = ap length is ∙ length-append ms (m ∷ []) ∙ add-one (length ms) in
      record {
        within = let inside = slice_get_within script.machines (length ms) cast read in omega (arith, inside, count);
        rest = ap (λ (n : ℕ). map (key_of script) (drop n script.machines)) count ∙ rest;
        each = λ place u stands. elim (push_cases ms m u place
            (ap (λ (us : List MachineState). slice_get us place) (sym is) ∙ stands)) [
              | inl s ↦ first.each place u s
              | inr s ↦ subst (λ (v : MachineState). IsFresh script place None v) (sym s.1)
                  (subst (λ (n : ℕ). IsFresh script n None m) (here ∙ sym s.0) fresh)
            ];
      }

-- once no key is left they are all
pub all_fresh : (script : Script) (ms : List MachineState) (left : List Secret) → AreFirst script ms left →
    length left ≡ 0 → AreFresh script ms
all_fresh script ms (key ∷ left) first none = absurd (omega arith)
all_fresh script ms [] first none = record {
  count = let past = rest_none (key_of script) script.machines (length ms) first.rest in
      let within = first.within in omega (arith, past, within);
  each = first.each;
}

-- they are made of what the script says
pub fresh_configs : (script : Script) (ms : List MachineState) → AreFresh script ms →
    configs_of ms ≡ script_configs script
fresh_configs script ms fresh =
    let casts = script.machines in
    let count : length (enumerate_from 0 casts) ≡ length ms = length-enumerate_from 0 casts ∙ sym fresh.count in
    let long : length (configs_of ms) ≡ length (script_configs script) =
    length-map ms (λ (m : MachineState). m.config) ∙ sym count
    ∙ sym (length-map (enumerate_from 0 casts) (λ at. config_of script at.0 at.1)) in
    same_lists (configs_of ms) (script_configs script) long (λ k d within. at k d
    (omega (arith, within, length-map ms (λ (m : MachineState). m.config))))
  where
    -- the same at each place
    at : (k : ℕ) (d : Config) → k < length ms → get_or (configs_of ms) k d ≡ get_or (script_configs script) k d
    at k d within =
        elim (slice_get_cases ms k).1 [
          | inl (m, _, stands, read) ↦
              let (cast, listed, is) = fresh.each k m stands in
              let inside : k < length script.machines = slice_get_within script.machines k cast listed in
              let first : get_or (configs_of ms) k d ≡ config_of script k cast =
              get_or-map (λ (u : MachineState). u.config) ms k m d within
              ∙ ap (λ (u : MachineState). u.config) (read ∙ is) in
              let number : 0 + k ≡ k = omega arith in
              let one : get_or (enumerate_from 0 script.machines) k (0, cast) ≡ (k, cast) =
              get_or-enumerate_from 0 script.machines k (0, cast) inside
              ∙ (λ i. (number i, get_or_from_slice_get script.machines k cast cast listed i)) in
              first
              ∙ sym (get_or-map (λ at. config_of script at.0 at.1) (enumerate_from 0 script.machines) k (0, cast) d
              (omega (arith, inside, length-enumerate_from 0 script.machines))
              ∙ ap (λ (at : ℕ × Cast0). config_of script at.0 at.1) one)
          | inr (past, _) ↦ absurd (omega arith)
        ]
