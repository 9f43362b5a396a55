use Rattle.live_auditor.proofs.Imports.{All-nil, arith, IsOfMachine, refl}
use Rattle.live_auditor.proofs.live.Live.make.Goals as goal

pub invariant_of-result : goal.invariant_of-result
invariant_of-result c =
    let rules = c.as_slice-read.ensures.value in
    let is = rw (rules, c.new.ensures.items) at c.in-Ok.ensures.ok in
    rw c.new-in-Ok.ensures.items (
      record {
        live = record {
          few = omega arith;
          of_machines = All-nil (IsOfMachine c.in_ok-roster.roster.machines);
          once = refl;
          after = is.after;
        };
        survivors = is.survivors;
      },
      rw rules at c.in_ok-base-in-Ok.ensures.ok,
    )
