use Rattle.honest_places.proofs.files.rosters_of_scripts_are_read.Goals as goal

pub returns : goal.returns
returns c = Rattle.honest_places.proofs.RosterTexts.script_roster_is_read
