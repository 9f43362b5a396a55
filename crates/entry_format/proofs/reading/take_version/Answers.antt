use Rattle.entry_format.proofs.reading.take_version.Goals as goal
use Rattle.entry_format.proofs.{Imports.rules, Taken.number_is_version}

pub returns-else-is_version : goal.returns-else-is_version
returns-else-is_version c = search (rules, number_is_version)
