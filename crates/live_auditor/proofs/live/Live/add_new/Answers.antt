use Rattle.live_auditor.proofs.Imports.{distinct_new, node_of_sealed, refl, ◌∙◌}
use Rattle.live_auditor.proofs.{Additions.given_live, Additions.given_more, AfterBase.lower_more}
use Rattle.live_auditor.proofs.live.Live.add_new.Goals as goal

pub summed_with-requires-clause-room : goal.summed_with-requires-clause-room
summed_with-requires-clause-room c =
    rw (c.as_slice-added.ensures.value, c.in_ok-reserve.ensures.items) (rw (← c.self.view_is) at c.requires.room)

pub invariant_of-self-in-Ok : goal.invariant_of-self-in-Ok
invariant_of-self-in-Ok c =
    let rules = c.as_slice-rules.ensures.value in
    let added = c.as_slice-added.ensures.value ∙ c.in_ok-reserve.ensures.items in
    let room = rw (← c.self.view_is) at c.requires.room in
    let said = rw (rules, added) at c.in-Ok.ensures.ok in
    let live = c.self.invariant.0.live in
    let given = given_more c.args.s (given_live _ live) (rw (← c.self.view_is) at c.requires.machine) room in
    rw (c.push_reserved.ensures.items, c.in_ok-reserve.ensures.items) (
      record {
        live = record {
          few = given.few;
          of_machines = given.of_machines;
          once = rw (distinct_new node_of_sealed c.self.inside.added.items c.args.s room.0, live.once);
          after = said.after;
        };
        survivors = said.survivors;
      },
      rw (lower_more c.summed_with.new.base.below c.self.inside.added.items c.args.s c.in-Ok.ensures.late)
          (rw (rules, added) at c.in-Ok.ensures.base),
    )

pub returns-in-Ok-clause-kept : goal.returns-in-Ok-clause-kept
returns-in-Ok-clause-kept c = (invariant_of-self-in-Ok c).0.live

pub returns-in-Err-TooWide-clause-answer : goal.returns-in-Err-TooWide-clause-answer
returns-in-Err-TooWide-clause-answer c =
    let rules = c.as_slice-rules.ensures.value in
    let added = c.as_slice-added.ensures.value ∙ c.in_ok-reserve.ensures.items in
    let wide = rw (c.in-Err-TooWide.field-0-is, rules, added) at c.in-Err-TooWide.ensures.err in
    (refl, c.requires.room, rw (← c.self.view_is) wide)
