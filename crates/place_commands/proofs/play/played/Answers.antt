use Rattle.place_commands.proofs.play.played.Goals as goal
use Rattle.place_commands.proofs.{HonestPlaces.players_leave_honest_files, Imports.ap, Imports.machine_lines}
use Rattle.place_commands.proofs.Imports.{play_files, roster_has_text, roster_of, string_bytes, WorldState, ◌∙◌, ◌≡◌}

-- the world's roster is the script's
pub files_of-requires : goal.files_of-requires
files_of-requires c =
    let same : c.world.inside.roster.machines ≡ roster_of c.args.script.now =
    ap (λ (w : WorldState). w.roster) c.world.view_is ∙ c.in_ok-world.ensures.roster in
    rw same (roster_has_text c.args.script.now c.requires.lawful)

pub returns : goal.returns
returns c =
    let script = c.args.script.now in
    let prefix = c.args.prefix.now in
    let machines = c.in_ok-world.world.machines in
    let inside : c.world.inside.machines.items ≡ machines = ap (λ (w : WorldState). w.machines) c.world.view_is in
    let posts : c.world.inside.roster.machines ≡ roster_of script =
    ap (λ (w : WorldState). w.roster) c.world.view_is ∙ c.in_ok-world.ensures.roster in
    let files_there : c.deref.result.now ≡ machines = c.deref.ensures.value ∙ inside in
    let lines_there : c.deref-2.result.now ≡ machines = c.deref-2.ensures.value ∙ inside in
    let left_there : c.deref-3.result.now ≡ machines = c.deref-3.ensures.value ∙ inside in
    let files : c.in_ok-files.files.items ≡ play_files prefix (roster_of script) machines =
    rw (← posts, ← files_there) c.in_ok-files.ensures in
    let lines : string_bytes c.add_machines.new.lines ≡ machine_lines machines =
    rw (← lines_there) (rw c.new-lines.ensures.bytes at c.in_ok-add_machines.ensures) in
    record {
      machines = machines;
      undone = string_bytes c.in_ok-undone.undone;
      played = c.in_ok-world.ensures.machines;
      order = c.order_is_receipt.ensures.order;
      honest = players_leave_honest_files script machines c.requires.lawful c.in_ok-world.ensures.machines;
      left = rw left_there at c.in_ok-undone.ensures;
      told = rw (c.in_ok-of_play.ensures, files, lines, c.as_str.ensures.value);
    }
