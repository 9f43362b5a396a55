use Rattle.honest_places.proofs.log_laws.scripts_lead_to_honest_worlds.Goals as goal

pub returns : goal.returns
returns c = Rattle.honest_places.proofs.LogScripts.scripts_are_honest
