use Rattle.roster.proofs.rosters.Roster.read.Goals as goal
use Rattle.roster.proofs.Forms.{fault_of_text, form_of, no_machines}
use Rattle.roster.proofs.Imports.{ap, arith, length, length-map, map, post_of, subst, sym, ◌∙◌}
use Rattle.roster.proofs.{Raws.named_raws, Raws.RawsNamed, Walk.same_count}

-- the bytes aren't the text of machines
pub returns-in_default : goal.returns-in_default
returns-in_default c = λ wanted.
    let (fits, spelt) = c.in-Ok.ensures.ok in
    ((c.in-Ok.text, fits, spelt), no_machines c.args.bytes.now c.in-Ok.text fits spelt c.in_default.ensures.none)

-- the machines are no more than were counted
pub fault_of-requires : goal.fault_of-requires
fault_of-requires c =
    let (machines, tree, count) = c.in-Some.ensures.found in
    let same = same_count c.in-Ok.text machines (map post_of c.in_ok-raws.raws.items) tree c.in_ok-raws.ensures in
    omega (
      arith,
      ap length c.as_slice.ensures.value,
      length-map c.in_ok-raws.raws.items post_of,
      same,
      count,
      c.if-count-gt-MAX_MACHINES.false,
    )

-- the machines make no roster
pub returns-in-Some-fault_of : goal.returns-in-Some-fault_of
returns-in-Some-fault_of c = λ wanted.
    let (fits, spelt) = c.in-Ok.ensures.ok in
    let form = form_of c.args.bytes.now c.in-Ok.text (map post_of c.in_ok-raws.raws.items) fits spelt
    c.in_ok-raws.ensures in
    fault_of_text c.args.bytes.now _ c.in-Some-fault_of.fault form
    (rw c.as_slice.ensures.value at c.in-Some-fault_of.ensures)

-- the machines have names
pub posts_of-requires : goal.posts_of-requires
posts_of-requires c =
    subst RawsNamed (c.as_slice.ensures.value ∙ sym c.as_slice-2.ensures.value)
    (named_raws c.as_slice.result.now c.in_default-fault_of.ensures.named)
