use Rattle.honest_places.proofs.files.left_files_give_their_logs.Goals as goal

pub returns-clause-all : goal.returns-clause-all
returns-clause-all c = Rattle.honest_places.proofs.LeftFileFacts.files_have_all
