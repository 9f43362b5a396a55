use Rattle.entry_format.proofs.OneEntry.{one_entry}
use Rattle.entry_format.proofs.laws.texts_have_one_entry.Goals as goal

pub returns : goal.returns
returns c = one_entry
