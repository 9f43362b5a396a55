use Rattle.honest_places.proofs.files.written_logs_are_of_their_world.Goals as goal

pub returns-clause-all : goal.returns-clause-all
returns-clause-all c = Rattle.honest_places.proofs.PlayedFiles.written_are_all
