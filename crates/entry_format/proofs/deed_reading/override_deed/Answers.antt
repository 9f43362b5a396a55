use Rattle.entry_format.proofs.Imports.{rules}
use Rattle.entry_format.proofs.deed_reading.override_deed.Goals as goal

pub returns : goal.returns
returns c = search (rules)
