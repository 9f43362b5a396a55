use Rattle.entry_format.proofs.deed_reading.longer_deed.Goals as goal
use Rattle.entry_format.proofs.{Imports.rules, Taken.numbers_authorise}

pub returns-in-Some : goal.returns-in-Some
returns-in-Some c = search (rules, numbers_authorise)
