use Rattle.honest_places.proofs.files.worlds_of_scripts_are_honest.Goals as goal

pub returns-clause-honest : goal.returns-clause-honest
returns-clause-honest c = Rattle.honest_places.proofs.HonestFiles.of_script_is_honest

pub returns-clause-election : goal.returns-clause-election
returns-clause-election c = Rattle.honest_places.proofs.HonestFiles.of_script_election
