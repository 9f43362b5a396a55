use Rattle.finished_floor.proofs.Imports.{stands_at, ap, arith, length, refl, slice_get_read, ◌∙◌}
use Rattle.finished_floor.proofs.filling.fill.Goals as goal
use Rattle.finished_floor.proofs.Filled.{begun_few, filling_none, filling_more, filling_all}

pub loop-at-init : goal.loop-at-init
loop-at-init c = filling_none (λ row. row.items) c.args.machines.now c.args.by.now.items c.requires

pub fill_up-requires : goal.fill_up-requires
fill_up-requires c =
    let ms = c.args.machines.now in
    let at = c.loop-at.at in
    let m = c.index-machines-at.result in
    let row = c.index_mut.result.now in
    let is = c.loop-at.invariant in
    let within = c.loop-at-test.true in
    let many = is.many in
    let begun = is.rest at m row (stands_at ms at m within c.index-machines-at.is)
    (slice_get_read c.loop-at.by.items _ at row refl (omega arith) c.index_mut.ensures.value) (omega arith) in
    let few = (begun_few m.events row.items begun).0 in
    let events = ap length (c.events-count.ensures.events ∙ ap (λ l. l.events) c.log.ensures.log) in
    omega arith

pub loop-at-preserved : goal.loop-at-preserved
loop-at-preserved c =
    let ms = c.args.machines.now in
    let at = c.loop-at.at in
    let m = c.index-machines-at.result in
    let row = c.index_mut.result.now in
    let is = c.loop-at.invariant in
    let within = c.loop-at-test.true in
    let many = is.many in
    let events = c.events-count.ensures.events ∙ ap (λ l. l.events) c.log.ensures.log in
    filling_more (λ row. row.items) ms at c.loop-at.by.items m row c.fill_up.new.row is
    (stands_at ms at m within c.index-machines-at.is)
    (slice_get_read c.loop-at.by.items _ at row refl (omega arith) c.index_mut.ensures.value)
    (rw events at c.in_ok-fill_up.ensures)

pub returns : goal.returns
returns c =
    filling_all (λ row. row.items) c.args.machines.now c.loop-at.at c.loop-at.by.items c.loop-at.invariant
    (let past = c.loop-at-test.false in omega arith)
