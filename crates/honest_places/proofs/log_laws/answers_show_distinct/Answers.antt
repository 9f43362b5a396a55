use Rattle.honest_places.proofs.log_laws.answers_show_distinct.Goals as goal

pub returns-clause-all : goal.returns-clause-all
returns-clause-all c = Rattle.honest_places.proofs.Given.all_given

pub returns-clause-distinct : goal.returns-clause-distinct
returns-clause-distinct c = Rattle.honest_places.proofs.Given.shows_distinct
