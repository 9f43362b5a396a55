use Rattle.entry_format.proofs.Imports.{Atom, joined-none, list_of, map, rules, ◌≡◌}
use Rattle.entry_format.proofs.Taken.{atom_after, atom_more, digest_found}
use Rattle.entry_format.proofs.reading.names_of.Goals as goal

-- the member is a digest
pub unwrap-requires : goal.unwrap-requires
unwrap-requires c =
    let (digests, (are, is)) = c.requires in
    let taken = rw c.in-Some.ensures.found at c.loop-member.invariant.members in
    digest_found c.digest_of.result c.in-Some.member c.digest_of.ensures
    (atom_after c.loop-member.digests.items digests c.in-Some.member c.take_next.new.self are (cc (taken, is)))

pub loop-member-preserved : goal.loop-member-preserved
loop-member-preserved c =
    let (_, is) = rw c.unwrap.ensures at c.digest_of.ensures in
    let more = atom_more c.loop-member.digests.items c.unwrap.result c.take_next.new.self in
    let members = rw (c.in-Some.ensures.found, is, more) at c.loop-member.invariant.members in
    record { digests = search rules; members = rw c.in_ok-push.ensures.items members }

pub returns : goal.returns
returns c =
    let all : c.args.tree.now ≡ list_of (map Atom c.loop-member.digests.items) =
    rw (c.in_default.ensures.none.0, joined-none) at c.loop-member.invariant.members in
    (search rules, rw c.from_vec.ensures all)
