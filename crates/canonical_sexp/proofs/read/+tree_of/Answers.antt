use Rattle.canonical_sexp.proofs.read.+tree_of.Goals as goal
use Rattle.canonical_sexp.proofs.{Growing.member_lighter, Growing.weight, Imports.ap, Imports.arith, Imports.Branch}
use Rattle.canonical_sexp.proofs.{Imports.sym, Imports.◌<◌, Rows.joined-none, Rows.joined-one}

pub tree_of-requires : goal.tree_of-requires
tree_of-requires t c =
    let lighter : weight c.in-Some-take_next.member < weight c.args.text.now =
    rw (c.loop-member.invariant, c.in-Some-take_next.ensures.found)
    (member_lighter c.loop-member.members c.in-Some-take_next.member c.take_next.new.self) in
    (omega (arith, lighter), tt)

pub loop-member-preserved : goal.loop-member-preserved
loop-member-preserved t c =
    let moved = joined-one c.loop-member.members c.in-Some-take_next.member c.take_next.new.self in
    rw (c.loop-member.invariant, c.in-Some-take_next.ensures.found, c.in_ok-push.ensures.forest)
    (rw c.in_ok-tree_of.ensures (ap Branch (sym moved)))

pub returns : goal.returns
returns t c =
    rw (c.loop-member.invariant, c.in_default-take_next.ensures.none.0)
    (ap Branch (sym (joined-none c.loop-member.members)))
