use Rattle.roster.proofs.Imports.{◌≡◌, ◌∙◌, List, map, take, ap, sym, arith, take_all, forest_of}
use Rattle.roster.proofs.Imports.{forest_of-members_of, Post, post_tree, headed}
use Rattle.canonical_sexp.specs.declared.sexp.Sexp.TheVariants.{List as Branch}
use Rattle.roster.proofs.writing.tree_of.Goals as goal

pub returns : goal.returns
returns c =
    let machines : List Post = c.args.machines.now in
    let all : take c.loop-post.post-index machines ≡ machines =
    take_all c.loop-post.post-index machines (omega arith) in
    ap Branch (sym (forest_of-members_of c.loop-post.members) ∙ ap forest_of c.loop-post.invariant)
    ∙ ap (λ (ms : List Post). headed (map post_tree ms)) all
