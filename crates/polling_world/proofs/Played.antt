-- A script's machines take its steps one after another.
use Rattle.polling_world.proofs.Imports.{Act, ap, AreFresh, AreOf, arith, Cast0, Config, config_of, configs_of, drop}
use Rattle.polling_world.proofs.Imports.{drop_all, drop_more, Event, get_or, happens, HaveLog, Hear, IsLawful, IsPlayed}
use Rattle.polling_world.proofs.Imports.{IsStep, IsStepOf, length, length-map, List, MachineState, map, node_of_sealed}
use Rattle.polling_world.proofs.Imports.{play, refl, Script, script_configs, SealedEntry, slice_get, slice_get-get_or}
use Rattle.polling_world.proofs.Imports.{Step, Stop, stops_of, sym, TellsNext, world_of, ℕ, ◌+◌, ◌<◌, ◌∙◌, ◌≡◌, ◌≤◌}
use Rattle.polling_world.proofs.{NextTold.next_of, NextTold.tells_next, Placing.get-map, Placing.get-map_from}
use Rattle.polling_world.proofs.WorldMaking.{at_start, fresh_configs}
use Rattle.std.proofs.Common.{Option, Some}

-- the same at a place of two lists that are mapped to one
same_at : {X Y : Type 0} (f : X → Y) (xs ys : List X) (k : ℕ) (x : X) → map f xs ≡ map f ys → slice_get xs k ≡ Some x
    → (y : X) × (slice_get ys k ≡ Some y) × (f y ≡ f x)
same_at f xs ys k x same at = get-map_from f ys k (f x) (rw same at (get-map f xs k x at))

-- what steps leave of what the machines are made of
pub record Stays (script : Script) (first now : List MachineState) : Type 0 where
  -- the first machines are the script's, before anything happened
  pub fresh : AreFresh script first
  -- they are made of what the first ones were
  pub configs : configs_of now ≡ configs_of first
  -- they stop where the first ones would
  pub stops : stops_of now ≡ stops_of first

-- how many there are
pub count_stays : (script : Script) (first now : List MachineState) → Stays script first now
    → length now ≡ length script.machines
count_stays script first now stays =
    sym (length-map now (λ (m : MachineState). m.config)) ∙ ap length stays.configs
    ∙ length-map first (λ (m : MachineState). m.config) ∙ stays.fresh.count

-- a machine is made of what the script says
made_at : (script : Script) (first now : List MachineState) (k : ℕ) (m : MachineState) → Stays script first now
    → slice_get now k ≡ Some m
    → (cast : Cast0) × (slice_get script.machines k ≡ Some cast) × (m.config ≡ config_of script k cast)
made_at script first now k m stays at =
    let (u, stood, same) = same_at (λ (u : MachineState). u.config) now first k m stays.configs at in
    let (cast, listed, fresh) = stays.fresh.each k u stood in
    (cast, listed, sym same ∙ ap (λ (f : MachineState). f.config) fresh)

-- the machines are the script's, each at its place
pub are_of : (script : Script) (first now : List MachineState) → Stays script first now → AreOf script now
are_of script first now stays = record {
  count = count_stays script first now stays;
  number = λ k m at.
      let (cast, _, made) = made_at script first now k m stays at in ap (λ (c : Config). c.number) made;
  config = λ k m at. let (cast, listed, made) = made_at script first now k m stays at in rw made (cast, listed, refl);
  no_stop = λ k m at.
      let (u, stood, same) = same_at (λ (u : MachineState). u.stop) now first k m stays.stops at in
      let fresh = stays.fresh.each k u stood in
      sym same ∙ ap (λ (f : MachineState). f.stop) fresh.2;
}

-- each has a log of the script's size
pub have_log : (script : Script) (first now : List MachineState) → Stays script first now → HaveLog script.log now
have_log script first now stays = λ k d within.
    let at = slice_get-get_or now k d within in
    let (cast, _, made) = made_at script first now k (get_or now k d) stays at in
    ap (λ (c : Config). c.log) made

-- a step of the script is one of the machines
step_in : (machines : List Cast0) (count : ℕ) (step : Step) → count ≡ length machines → IsStep machines step
    → IsStepOf count step
step_in machines count (Act machine) same is = omega arith
step_in machines count (Hear at from number) same is = (omega arith, omega arith)
step_in machines count (Stop machine) same is = omega arith

-- each step of a lawful script is one of the machines
pub step_of : (script : Script) (first now : List MachineState) (steps : List Step) (i : ℕ) (d : Step)
    → IsLawful script → Stays script first now → steps ≡ script.steps → i < length steps
    → IsStepOf (length now) (get_or steps i d)
step_of script first now steps i d lawful stays same within =
    let steps_are = rw (← same) at (lawful.steps) in
    step_in script.machines (length now) (get_or steps i d) (count_stays script first now stays)
    (steps_are i d within)

-- what is left of the steps leads where all of them lead
abbrev pub Leads : Script → List MachineState → List MachineState → List Step → Type 0
Leads script first now steps =
    (next : ℕ → List (Event SealedEntry) → Option SealedEntry) → TellsNext (configs_of first) next →
    play node_of_sealed next script.log (world_of now) steps
    ≡ play node_of_sealed next script.log (world_of first) script.steps

-- before the first step all steps are left
pub leads_first : (script : Script) (first : List MachineState) (steps : List Step) → steps ≡ script.steps
    → Leads script first first steps
leads_first script first steps same next tells =
    ap (λ (ss : List Step). play node_of_sealed next script.log (world_of first) ss) same

-- a step that is the world's leads on to where the others lead
pub leads_more : (script : Script) (first now new : List MachineState) (steps : List Step) (i : ℕ) (d : Step)
    → i < length steps → Stays script first now
    → ((next : ℕ → List (Event SealedEntry) → Option SealedEntry) (log : ℕ) → TellsNext (configs_of now) next
    → HaveLog log now → world_of new ≡ happens node_of_sealed next log (world_of now) (get_or steps i d))
    → Leads script first now (drop i steps) → Leads script first new (drop (i + 1) steps)
leads_more script first now new steps i d within stays happened leads next tells =
    let same =
    happened next script.log (rw (stays.configs) tells) (have_log script first now stays) in
    rw same (rw (drop_more steps i d within) at (leads next tells))

-- once no step is left the machines have played the script
pub played_whole : (script : Script) (first now : List MachineState) (steps : List Step) (i : ℕ)
    → length steps ≤ i → Stays script first now → Leads script first now (drop i steps) → IsPlayed script now
played_whole script first now steps i past stays leads =
    let next : ℕ → List (Event SealedEntry) → Option SealedEntry = next_of (script_configs script) in
    let tells : TellsNext (script_configs script) next = tells_next (script_configs script) in
    record {
      are_of = are_of script first now stays;
      played = (
        next,
        tells,
        rw (drop_all i steps past, at_start script first stays.fresh.each, stays.fresh.count)
            at (leads next (rw (fresh_configs script first stays.fresh) tells)),
      );
    }
