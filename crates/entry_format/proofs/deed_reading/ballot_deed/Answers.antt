use Rattle.entry_format.proofs.deed_reading.ballot_deed.Goals as goal
use Rattle.entry_format.proofs.{Imports.rules, Taken.how_no_digest, Taken.no_number}

pub returns : goal.returns
returns c = search (rules, how_no_digest, no_number)
