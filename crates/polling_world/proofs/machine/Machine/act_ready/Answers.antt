use Rattle.polling_world.proofs.machine.Machine.act_ready.Goals as goal
use Rattle.polling_world.proofs.{Imports.refl, MadeEntries.held_already, MadeEntries.may_send}

pub returns-then-holds-clause-ok : goal.returns-then-holds-clause-ok
returns-then-holds-clause-ok c = (
  held_already c.args.self.now c.args.deed c.in_ok-sealed.sealed c.digest.result.now c.requires.action
      c.requires.ready c.in_ok-sealed.ensures (c.holds.ensures.0 c.if-holds.true) c.digest.ensures.value,
  refl,
)

pub send-requires-clause-may : goal.send-requires-clause-may
send-requires-clause-may c =
    may_send c.args.self.now c.args.deed c.in_ok-sealed.sealed c.digest.result.now c.holds.result
    c.requires.action c.requires.ready c.in_ok-sealed.ensures c.holds.ensures c.if-holds.false
    c.digest.ensures.value

pub returns-clause-ok : goal.returns-clause-ok
returns-clause-ok c = record {
  entry = c.in_ok-sealed.sealed;
  may = may_send c.args.self.now c.args.deed c.in_ok-sealed.sealed c.digest.result.now c.holds.result
      c.requires.action c.requires.ready c.in_ok-sealed.ensures c.holds.ensures c.if-holds.false
      c.digest.ensures.value;
  going = c.requires.ready.going;
  stamp = c.requires.ready.stamp;
  counted = c.sent_count-number.ensures;
  copied = c.in_ok-copies.ensures;
  changed = c.send.ensures;
}
