use Rattle.entry_format.proofs.Imports.{node_of}
use Rattle.entry_format.specs.Plains.{plain_of}
use Rattle.entry_order.proofs.Images.{same_graph}
use Rattle.entry_format.proofs.laws.plain_graphs.Goals as goal

pub returns : goal.returns
returns c = same_graph node_of plain_of
