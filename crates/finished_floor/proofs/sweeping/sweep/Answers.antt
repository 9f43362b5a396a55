use Rattle.finished_floor.proofs.Imports.{Contains-none, waits_of, inl, inr, slice_get_within, ◌∙◌}
use Rattle.finished_floor.proofs.sweeping.sweep.Goals as goal
use Rattle.finished_floor.proofs.Turns.{all_whole, swept_none}

pub hand_waits-requires-clause-numbered : goal.hand_waits-requires-clause-numbered
hand_waits-requires-clause-numbered c =
    rw c.replace.ensures.value (record {
      few = c.requires.few;
      numbers = λ place m is. (c.requires.placed place m is).number;
    })

pub loop-floor-init : goal.loop-floor-init
loop-floor-init c =
    let on = c.in_ok-hand_waits.ensures in
    record {
      numbered = on.numbered;
      loses = on.loses;
      swept = on.swept c.args.machines.now.items c.args.losses.now.items
          (rw (c.replace.ensures.value, c.replace-2.ensures.value) (swept_none c.args.loses.now c.args.machines.now.items
          c.args.losses.now.items (waits_of c.args.waits.items) c.requires.placed c.requires.balanced c.requires.once c.requires.sent));
    }

pub loop-floor-preserved : goal.loop-floor-preserved
loop-floor-preserved c =
    let is = c.loop-floor.invariant in
    let on = c.in_ok-round.ensures.goes_on in
    record {
      numbered = on.numbered;
      loses = on.loses ∙ is.loses;
      swept = on.swept c.args.machines.now.items c.args.losses.now.items is.swept;
    }

pub loop-floor-smaller : goal.loop-floor-smaller
loop-floor-smaller c = c.in_ok-round.ensures.acted c.if-branch.true

pub returns : goal.returns
returns c =
    let turn = c.in_ok-round.ensures in
    let old = c.args.machines.now.items in
    let before = c.args.losses.now.items in
    let new = c.round.new.self.machines.items in
    let after = c.round.new.self.losses.items in
    let is = rw (turn.goes_on.loses, c.loop-floor.invariant.loses) at
    (turn.goes_on.swept old before c.loop-floor.invariant.swept) in
    let (still, same) = turn.none c.if-branch.false in
    record {
      balanced = is.balanced;
      grown = is.grown;
      placed = is.placed;
      makers = is.makers;
      licensed = (is.lost, is.losses, is.licensed);
      scripted = λ from number to lf lt differs low high named.
          elim (is.scripted from number to lf lt differs low high named) [
            | inl there ↦ there
            | inr w ↦ absurd (Contains-none w.0 w.1)
          ];
      once = is.once;
      whole = λ place m there.
          all_whole new is.placed (rw same still) place m (slice_get_within new place m there) there;
    }
