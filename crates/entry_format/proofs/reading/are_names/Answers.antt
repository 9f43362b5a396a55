use Rattle.entry_format.proofs.Imports.{[], IsDigest, joined-none, refl, ◌++◌, ◌∷◌}
use Rattle.std.proofs.lemmas.List.Elements.{All-push}
use Rattle.entry_format.proofs.Taken.{atom_after, atom_more}
use Rattle.entry_format.proofs.reading.are_names.Goals as goal

pub returns-in_default-digest_of : goal.returns-in_default-digest_of
returns-in_default-digest_of c = (
  (λ never. cc),
  λ (digests, (are, is)).
      let (before, (_, members)) = c.loop-member.invariant in
      let taken = rw c.in-Some-take_next.ensures.found at members in
      let (digest, found) =
      atom_after before digests c.in-Some-take_next.member c.take_next.new.self are (cc (taken, is)) in
      absurd (c.in_default-digest_of.ensures digest found),
)

pub loop-member-preserved : goal.loop-member-preserved
loop-member-preserved c =
    let (before, (are, taken)) = c.loop-member.invariant in
    let (of, is) = c.in-Some-digest_of.ensures in
    let more = atom_more before c.in-Some-digest_of._digest c.take_next.new.self in (
      before ++ c.in-Some-digest_of._digest ∷ [],
      (All-push IsDigest before _ are of, rw (c.in-Some-take_next.ensures.found, is, more) at taken),
    )

pub returns : goal.returns
returns c =
    let (before, (are, taken)) = c.loop-member.invariant in
    ((λ always. (before, (are, rw (c.in_default-take_next.ensures.none.0, joined-none) at taken))), λ _. refl)
