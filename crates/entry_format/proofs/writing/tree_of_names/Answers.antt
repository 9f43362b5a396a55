use Rattle.entry_format.proofs.Imports.{ap, arith, Branch, forest_of, sym, take, ◌∙◌, ◌≡◌}
use Rattle.canonical_sexp.proofs.Rows.{forest_of-members_of}
use Rattle.std.proofs.lemmas.List.{take_all}
use Rattle.entry_format.proofs.writing.tree_of_names.Goals as goal

pub returns-clause-tree : goal.returns-clause-tree
returns-clause-tree c =
    let all : take c.loop-name.name-index c.args.names.now ≡ c.args.names.now =
    take_all c.loop-name.name-index c.args.names.now (omega arith) in
    ap Branch (sym (forest_of-members_of c.loop-name.members) ∙ ap forest_of (rw all at c.loop-name.invariant.trees))
