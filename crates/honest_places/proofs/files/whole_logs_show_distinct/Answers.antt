use Rattle.honest_places.proofs.files.whole_logs_show_distinct.Goals as goal

pub returns : goal.returns
returns c = Rattle.honest_places.proofs.HonestFiles.graph_shows_distinct
