use Rattle.std.proofs.Common.{◌∙◌, sym, false}
use Rattle.folder_tests.proofs.Fresh.{is_fresh}
use Rattle.folder_tests.proofs.disk.fresh_number.Goals as goal

-- no call gave the number to a file
pub returns : goal.returns
returns c = is_fresh c.args.calls.now _ (sym c.is_numbered.ensures ∙ c.if-is_numbered.false)
