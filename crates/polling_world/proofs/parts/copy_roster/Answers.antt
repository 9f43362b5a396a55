use Rattle.polling_world.proofs.parts.copy_roster.Goals as goal
use Rattle.polling_world.proofs.{Imports.refl, Imports.◌∙◌, Rosters.election_is}

pub returns-clause-election : goal.returns-clause-election
returns-clause-election c =
    election_is c.election-election.result c.deref.result.now c.args.roster.now.machines _
    c.election-election.ensures (c.deref.ensures.value ∙ c.in_ok-text.ensures.0.spelt) refl
