use Rattle.honest_places.proofs.files.left_logs_give_an_honest_graph.Goals as goal

pub returns-clause-not_refused : goal.returns-clause-not_refused
returns-clause-not_refused c = Rattle.honest_places.proofs.HonestFiles.graph_is_given
