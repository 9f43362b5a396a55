use Rattle.floor_links.proofs.sending.send_all.Given as goal
use Rattle.floor_links.proofs.{Imports.vec_capacity, Imports.◌≡◌, Sent.Sending}

-- the machines below `to` were sent their copies
abbrev pub invariant-loop-to : goal.invariant-loop-to
invariant-loop-to g l = record {
  on : Sending l.links l.loses l.own l.number l.count l.fn.copies.items l.initial.outs.items
      l.initial.losses.items l.to l.copies.items l.outs.items l.losses.items;
  capacity : vec_capacity l.losses ≡ vec_capacity l.initial.losses;
}
