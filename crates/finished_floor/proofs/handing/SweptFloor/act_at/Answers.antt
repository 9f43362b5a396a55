use Rattle.finished_floor.proofs.Imports.{stands_at, ap, length, refl, sym, true≢false, ◌-◌, ◌∙◌}
use Rattle.finished_floor.proofs.handing.SweptFloor.act_at.Goals as goal
use Rattle.finished_floor.proofs.Acts.{swept_sent, copies_same, maker_at, copies_makers, sent_numbered, sent_left}
use Rattle.finished_floor.proofs.Acts.{still_at, not_did}
use Rattle.finished_floor.proofs.Places.{length_set}

pub hand_out-requires-clause-numbered : goal.hand_out-requires-clause-numbered
hand_out-requires-clause-numbered c =
    let done = rw c.in-Did.is at c.in_ok-copies.ensures.ok in
    let ms = c.args.self.now.machines.items in
    let m = c.index_mut.result.now in
    record {
      few = rw (length_set ms c.args.at c.act.new.self) c.requires.numbered.few;
      numbers = sent_numbered ms c.args.at m (stands_at ms c.args.at m c.requires.at c.index_mut.ensures.value) _ _ _
          c.act.new.self done c.requires.numbered.numbers;
    }

pub hand_out-requires-clause-makers : goal.hand_out-requires-clause-makers
hand_out-requires-clause-makers c =
    let done = rw c.in-Did.is at c.in_ok-copies.ensures.ok in
    let ms = c.args.self.now.machines.items in
    let m = c.index_mut.result.now in
    copies_makers ms c.args.at m (stands_at ms c.args.at m c.requires.at c.index_mut.ensures.value) _ _ _ c.act.new.self
    done c.requires.numbered.numbers

pub returns-in_ok-hand_out-in-Did : goal.returns-in_ok-hand_out-in-Did
returns-in_ok-hand_out-in-Did c =
    let done = rw c.in-Did.is at c.in_ok-copies.ensures.ok in
    let floor = c.args.self.now in
    let ms = floor.machines.items in
    let m = c.index_mut.result.now in
    let stood = stands_at ms c.args.at m c.requires.at c.index_mut.ensures.value in
    let numbers = c.requires.numbered.numbers in
    let went = c.in_ok-hand_out-in-Did.ensures in
    let on = went.goes_on done.entry (maker_at ms c.args.at m stood _ _ _ c.act.new.self done numbers)
    (copies_same ms c.args.at m stood _ _ _ c.act.new.self done numbers) in
    record {
      goes_on = record {
        numbered = on.numbered;
        count = on.count ∙ length_set ms c.args.at c.act.new.self;
        loses = on.loses;
        swept = λ first before swept.
            on.swept first before
            (swept_sent floor.loses.now first before ms floor.losses.items swept c.args.at m stood _ _ _ c.act.new.self
            done);
      };
      acted = λ is. rw went.left (sent_left ms c.args.at m stood _ _ _ c.act.new.self done numbers);
      none = λ isnt. absurd (true≢false isnt);
    }

pub returns-in_default : goal.returns-in_default
returns-in_default c =
    let floor = c.args.self.now in
    let ms = floor.machines.items in
    let m = c.index_mut.result.now in
    let stood = stands_at ms c.args.at m c.requires.at c.index_mut.ensures.value in
    let (still, stays) = still_at ms c.args.at m c.act.new.self (c.len-receivers.result - 1) c.in_ok-copies.field-0
    stood c.in_ok-copies.ensures.ok (not_did c.in_ok-copies.field-0 c.in_default.not-Did) in
    record {
      goes_on = record {
        numbered = record { few = rw stays c.requires.numbered.few; numbers = rw stays c.requires.numbered.numbers };
        count = ap length stays;
        loses = refl;
        swept = λ first before swept. rw stays swept;
      };
      acted = λ is. absurd (true≢false (sym is));
      none = λ isnt. (still, stays);
    }
