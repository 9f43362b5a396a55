-- A script whose machines play, are mended and finish.
use Rattle.place_commands.proofs.Imports.{get-map, length, Some, play, fun_ext, ◌≡◌, ◌∙◌, ℕ, List, [], ◌∷◌, ◌++◌, map}
use Rattle.place_commands.proofs.Imports.{get_or, None, refl, sym, ap, slice_get, length-map, slice_get-get_or}
use Rattle.place_commands.proofs.Imports.{node_of_sealed, SealedEntry, Event, Step, happens, start, Cast0, Script}
use Rattle.place_commands.proofs.Imports.{Config, config_of, script_configs, post_of, roster_of, MachineState, AreOf}
use Rattle.place_commands.proofs.Imports.{IsPlayed, WorldState, HaveLog, TellsNext, configs_of, machine_of, stops_of}
use Rattle.place_commands.proofs.Imports.{world_of, tells_same, get-map_from, fresh_configs, Finishes, Repairs, LeadsTo}
use Rattle.place_commands.proofs.Imports.{repairs_are_of, same_log, finishes_is_one, repairs_is_one, finishes_is_a_play}
use Rattle.place_commands.proofs.Imports.{play-append, repairs_is_a_play, Answer, AreMendedBy, IsRepairOf, with_steps}
use Rattle.place_commands.proofs.Imports.{ComesByRepair}
use Rattle.std.proofs.Common.{false}
use Rattle.place_commands.proofs.OnePlayAnswer.{PlayOne, same_undone}

-- ---- what the script's machines are made of

-- a machine as it was made
abbrev made : MachineState → MachineState
made m = record { config = m.config; stop = None; marked = false; events = [] }

-- as they were made, machines are made of the same
configs_made : (ms : List MachineState) → configs_of (map made ms) ≡ configs_of ms
configs_made [] = refl
configs_made (m ∷ ms) = rw (configs_made ms)

-- of two lists that a function makes one, what is at one place is seen as one
same_at : {X Y : Type 0} (f : X → Y) (xs ys : List X) (k : ℕ) (x : X) → map f xs ≡ map f ys → slice_get xs k ≡ Some x →
    (y : X) × (slice_get ys k ≡ Some y) × (f y ≡ f x)
same_at f xs ys k x same at = get-map_from f ys k (f x) (rw (← same) (get-map f xs k x at))

module _ (script : Script) (ms : List MachineState) (are_of : AreOf script ms) where
  -- the machine at a place is made of what the script says there
  config_at : (place : ℕ) (m : MachineState) → slice_get ms place ≡ Some m →
      (cast : Cast0) × (slice_get script.machines place ≡ Some cast) × (m.config ≡ config_of script place cast)
  config_at place m at =
      let (cast, named, is) = are_of.config place m at in
      let number = are_of.number place m at in (
        cast,
        ap (λ (n : ℕ). slice_get script.machines n) (sym number) ∙ named,
        is ∙ ap (λ (n : ℕ). config_of script n cast) number,
      )

  configs_are : configs_of ms ≡ script_configs script
  configs_are =
      sym (configs_made ms)
      ∙ fresh_configs script (map made ms) (record {
        count = length-map ms made ∙ are_of.count;
        each = λ place m is.
            let (u, there, same) = get-map_from made ms place m is in
            let (cast, cast_is, made_of) = config_at place u there in (
              cast,
              cast_is,
              sym same ∙ ap (λ (c : Config).
                  record { config = c; stop = None; marked = false; events = [] }) made_of,
            );
      })

  -- each has a log of the script's size
  have_log : HaveLog script.log ms
  have_log k d within =
      let (cast, named, is) = config_at k (get_or ms k d) (slice_get-get_or ms k d within) in
      ap (λ (c : Config). c.log) is

  -- machines that are made of the same and stop at the same number are the script's too
  still_of : (new : List MachineState) (more : List Step) → configs_of new ≡ configs_of ms →
      stops_of new ≡ stops_of ms → AreOf (with_steps more script) new
  still_of new more configs stops = record {
    count = sym (length-map new (λ (m : MachineState). m.config)) ∙ ap length configs
        ∙ length-map ms (λ (m : MachineState). m.config) ∙ are_of.count;
    number = λ place m at.
        let (u, stood, same) = same_at (λ (v : MachineState). v.config) new ms place m configs at in
        rw same at (are_of.number place u stood);
    config = λ place m at.
        let (u, stood, same) = same_at (λ (v : MachineState). v.config) new ms place m configs at in
        rw same at (are_of.config place u stood);
    no_stop = λ place m at.
        let (u, stood, same) = same_at (λ (v : MachineState). v.stop) new ms place m stops at in
        sym same ∙ are_of.no_stop place u stood;
  }

-- ---- one list of steps

-- a script's machines are mended by one list of steps, and finish by one
one_mending : (script : Script) (mended finished others more : List Step) → AreMendedBy script mended finished →
    AreMendedBy script others more → (others ≡ mended) × (more ≡ finished)
one_mending script mended finished others more a b =
    let same : b.next ≡ a.next = fun_ext (λ (m : ℕ). fun_ext (λ (h : List (Event SealedEntry)).
    tells_same (script_configs script) b.next a.next b.tells a.tells m h)) in
    let after = happens node_of_sealed a.next script.log in
    let played = play node_of_sealed a.next script.log (start (length script.machines)) script.steps in
    let (mend, whole) = repairs_is_one node_of_sealed after played a.whole mended a.repairs b.whole others
    (rw same at b.repairs) in
    let (finish, _) = finishes_is_one node_of_sealed after a.whole a.end finished a.finishes b.end more
    (rw (same, whole) at b.finishes) in
    (mend, finish)

-- so there is one answer
pub same_repair_of : PlayOne → (prefix : List ℕ) (script : Script) (a b : Answer) → IsRepairOf prefix script a →
    IsRepairOf prefix script b → a ≡ b
same_repair_of one prefix script a b p q =
    let (mend, finish) = one_mending script p.mended p.finished q.mended q.finished p.steps q.steps in
    let same : p.machines ≡ q.machines =
    one.played (with_steps (p.mended ++ p.finished) script) p.machines q.machines p.played
    (rw (mend, finish) at q.played) in
    let lines : p.undone ≡ q.undone = same_undone one q.machines p.undone q.undone (rw same at p.left) q.left in
    cc (p.told, q.told, mend)

-- ---- what the machines come to

-- a script's machines that have played, were mended and have finished
pub comes_by_repair : (script : Script) (played repaired finished : WorldState) (mended more : List Step) →
    IsPlayed script played.machines → played.roster ≡ roster_of script →
    LeadsTo (Repairs node_of_sealed) played.machines mended repaired.machines →
    LeadsTo (Finishes node_of_sealed) repaired.machines more finished.machines →
    repaired.roster ≡ played.roster → configs_of repaired.machines ≡ configs_of played.machines →
    stops_of repaired.machines ≡ stops_of played.machines →
    finished.roster ≡ repaired.roster → configs_of finished.machines ≡ configs_of repaired.machines →
    stops_of finished.machines ≡ stops_of repaired.machines → ComesByRepair script finished mended
comes_by_repair script played repaired finished mended more plays posts repairs finishes roster configs stops roster'
    configs' stops' =
    let (next, tells, comes) = plays.played in
    let of = configs_are script played.machines plays.are_of in
    let many : length (world_of played.machines) ≡ length finished.roster =
    length-map played.machines machine_of ∙ plays.are_of.count ∙ sym (length-map script.machines (post_of script))
    ∙ sym (ap length (roster' ∙ roster ∙ posts)) in
    let here : TellsNext (configs_of played.machines) next = rw of tells in
    let logs = have_log script played.machines plays.are_of in
    let there : TellsNext (configs_of repaired.machines) next = rw configs here in
    let later = same_log script.log played.machines repaired.machines configs logs in
    let mends = repairs next script.log here logs in
    let ends = finishes next script.log there later in
    let all : world_of finished.machines
    ≡ play node_of_sealed next script.log (start (length script.machines)) (script.steps ++ (mended ++ more)) =
    cc (
      comes,
      finishes_is_a_play node_of_sealed next script.log (world_of repaired.machines) (world_of finished.machines) more
          ends,
      repairs_is_a_play node_of_sealed next script.log (world_of played.machines) (world_of repaired.machines) mended
          mends,
      play-append node_of_sealed next script.log (world_of played.machines) mended more,
      play-append node_of_sealed next script.log (start (length script.machines)) script.steps (mended ++ more),
    ) in
    record {
      finished = more;
      steps = record {
        next = next;
        tells = tells;
        whole = world_of repaired.machines;
        end = world_of finished.machines;
        repairs = rw comes at mends;
        finishes = ends;
      };
      played = record {
        are_of = still_of script played.machines plays.are_of finished.machines (mended ++ more) (configs' ∙ configs)
            (stops' ∙ stops);
        played = (next, tells, all);
      };
      roster = roster' ∙ roster ∙ posts;
      there = rw many at
          (repairs_are_of node_of_sealed next script.log (world_of played.machines) (world_of repaired.machines) mended
          mends);
    }
