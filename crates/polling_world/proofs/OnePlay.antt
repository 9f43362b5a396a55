-- The machines of a script play it in one way.
use Rattle.polling_world.proofs.Imports.{ap, AreOf, arith, Config, Event, fun_ext, get_or, IsOf, IsPlayed, length, List}
use Rattle.polling_world.proofs.Imports.{Machine, machine_of, MachineState, node_of_sealed, play, same_lists, Script}
use Rattle.polling_world.proofs.Imports.{script_configs, SealedEntry, slice_get, slice_get-get_or, start, sym, World}
use Rattle.polling_world.proofs.Imports.{world_of, ℕ, ◌∙◌, ◌≡◌}
use Rattle.polling_world.proofs.{NextTold.tells_same, Placing.stopped_by_mark}
use Rattle.std.proofs.{Common.None, Common.Some, lemmas.List.get_or-map}

-- a script gives each machine one configuration
same_config : (script : Script) (a b : Config) → a.number ≡ b.number → IsOf script a → IsOf script b → a ≡ b
same_config script a b number (own, at, made) (other, there, remade) =
    let cast : own ≡ other = cc (number, at, there) in
    made ∙ rw (number, cast) (sym remade)

-- a machine is determined by what it is made of and what is seen of it
same_machine : (m n : MachineState) → m.config ≡ n.config → m.stop ≡ None → n.stop ≡ None →
    machine_of m ≡ machine_of n → m ≡ n
same_machine m n config stop stop' same =
    let events : m.events ≡ n.events = ap (λ (a : Machine SealedEntry). a.history) same in
    let marked : m.marked ≡ n.marked =
    sym (stopped_by_mark m stop) ∙ ap (λ (a : Machine SealedEntry). a.stopped) same ∙ stopped_by_mark n stop' in
    λ i. record { config = config i; stop = (stop ∙ sym stop') i; marked = marked i; events = events i }

-- so are machines
same_machines : (script : Script) (ms ns : List MachineState) → AreOf script ms → AreOf script ns
    → world_of ms ≡ world_of ns → ms ≡ ns
same_machines script ms ns p q worlds =
    let long : length ms ≡ length ns = p.count ∙ sym q.count in
    same_lists ms ns long (λ k d within.
    let m : MachineState = get_or ms k d in
    let n : MachineState = get_or ns k d in
    let at : slice_get ms k ≡ Some m = slice_get-get_or ms k d within in
    let there : slice_get ns k ≡ Some n = slice_get-get_or ns k d (omega arith) in
    let config : m.config ≡ n.config = same_config script m.config n.config
    (p.number k m at ∙ sym (q.number k n there)) (p.config k m at) (q.config k n there) in
    let same : machine_of m ≡ machine_of n = sym (get_or-map machine_of ms k d (machine_of d) within)
    ∙ ap (λ (w : World SealedEntry). get_or w k (machine_of d)) worlds
    ∙ get_or-map machine_of ns k d (machine_of d) (omega arith) in
    same_machine m n config (p.no_stop k m at) (q.no_stop k n there) same)

-- machines that have played one script are the same machines
pub one_play : (script : Script) (ms ns : List MachineState) → IsPlayed script ms → IsPlayed script ns → ms ≡ ns
one_play script ms ns p q =
    let (next, tells, played) = p.played in
    let (other, also, again) = q.played in
    let same : next ≡ other = fun_ext (λ (m : ℕ). fun_ext (λ (h : List (Event SealedEntry)).
    tells_same (script_configs script) next other tells also m h)) in
    same_machines script ms ns p.are_of q.are_of
    (played
    ∙ ap (λ f. play node_of_sealed f script.log (start (length script.machines)) script.steps) same ∙ sym again)
