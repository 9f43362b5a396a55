use Rattle.place_commands.proofs.Imports.{play_files, machine_lines, ◌≡◌, ◌∙◌, ◌++◌, ap, string_bytes, roster_of}
use Rattle.place_commands.proofs.Imports.{WorldState, roster_has_text}
use Rattle.place_commands.proofs.HonestPlaces.{comers_leave_honest_files}
use Rattle.place_commands.proofs.repair.answer_of.Goals as goal

-- the world's roster is the script's
pub files_of-requires : goal.files_of-requires
files_of-requires c =
    let same : c.world.inside.roster.machines ≡ roster_of c.args.script.now =
    ap (λ (w : WorldState). w.roster) c.world.view_is ∙ c.requires.comes.roster in
    rw same (roster_has_text c.args.script.now c.requires.lawful)

-- each step is of machines that it names
pub add_all_mended-requires : goal.add_all_mended-requires
add_all_mended-requires c =
    let same : c.world.inside.roster.machines ≡ c.args.world.now.roster =
    ap (λ (w : WorldState). w.roster) c.world.view_is in
    rw same c.requires.comes.there

pub returns : goal.returns
returns c =
    let script = c.args.script.now in
    let prefix = c.args.prefix.now in
    let comes = c.requires.comes in
    let machines = c.args.world.now.machines in
    let inside : c.world.inside.machines.items ≡ machines = ap (λ (w : WorldState). w.machines) c.world.view_is in
    let posts : c.world.inside.roster.machines ≡ roster_of script =
    ap (λ (w : WorldState). w.roster) c.world.view_is ∙ comes.roster in
    let files_there : c.deref.result.now ≡ machines = c.deref.ensures.value ∙ inside in
    let lines_there : c.deref-2.result.now ≡ machines = c.deref-2.ensures.value ∙ inside in
    let left_there : c.deref-3.result.now ≡ machines = c.deref-3.ensures.value ∙ inside in
    let files : c.in_ok-files.files.items ≡ play_files prefix (roster_of script) machines =
    rw (← posts, ← files_there) c.in_ok-files.ensures in
    let lines : string_bytes c.add_machines.new.lines ≡ machine_lines machines =
    rw (← lines_there) (rw c.new-lines.ensures.bytes at c.in_ok-add_machines.ensures) in
    record {
      machines = machines;
      mended = c.args.mended.now;
      finished = comes.finished;
      undone = string_bytes c.in_ok-undone.undone;
      steps = comes.steps;
      played = comes.played;
      order = c.order_is_receipt.ensures.order;
      honest = comers_leave_honest_files script machines (script.steps ++ (c.args.mended.now ++ comes.finished))
          c.requires.lawful comes.played.are_of.number comes.played.played;
      left = rw left_there at c.in_ok-undone.ensures;
      told = rw (c.in_ok-of_play.ensures, files, c.in_ok-add_all_mended.ensures, lines, posts, c.as_str.ensures.value);
    }
