use Rattle.place_commands.proofs.Imports.{play_files, machine_lines, ◌≡◌, string_bytes, roster_has_text}
use Rattle.place_commands.proofs.Runs.{between, is_run}
use Rattle.place_commands.proofs.run.answer_of.Goals as goal

-- the roster is the script's
pub files_of-requires : goal.files_of-requires
files_of-requires c =
    rw c.requires.floor.roster (roster_has_text c.args.script.now c.requires.lawful)

-- each loss is between two of its machines
pub add_losses-requires : goal.add_losses-requires
add_losses-requires c =
    let floor = c.args.floor.now in
    rw (c.as_slice.ensures.value)
    (between c.args.prefix.now c.args.script.now c.requires.lawful floor.roster.machines floor.machines.items
    floor.losses.items c.requires.floor c.requires.played)

pub returns : goal.returns
returns c =
    let floor = c.args.floor.now in
    let posts = floor.roster.machines in
    let machines = floor.machines.items in
    let losses = floor.losses.items in
    let there : c.as_slice-machines.result.now ≡ machines = c.as_slice-machines.ensures.value in
    let lost : c.as_slice.result.now ≡ losses = c.as_slice.ensures.value in
    let files : c.in_ok-files.files.items ≡ play_files c.args.prefix.now posts machines =
    rw (← there) c.in_ok-files.ensures in
    let lines : string_bytes c.add_machines.new.lines ≡ machine_lines machines =
    rw (← there) (rw c.new-lines.ensures.bytes at c.in_ok-add_machines.ensures) in
    is_run c.args.prefix.now c.args.script.now c.requires.lawful posts machines losses
    c.requires.floor c.requires.played (string_bytes c.in_ok-undone.undone) c.in_ok-of_play.field-0
    (rw there at c.in_ok-undone.ensures)
    (rw (c.in_ok-of_play.ensures, files, c.in_ok-add_losses.ensures, lines, lost, c.as_str.ensures.value))
