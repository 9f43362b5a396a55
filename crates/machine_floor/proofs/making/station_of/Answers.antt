use Rattle.machine_floor.proofs.Imports.{◌≡◌, HasBegun, begun, IfOk-weaker}
use Rattle.machine_floor.proofs.making.station_of.Goals as goal

pub new-requires : goal.new-requires
new-requires c =
    c.requires.ends _ _ (rw c.as_slice.ensures at c.stop_of-stop_at.ensures) c.in_ok-machine.ensures

pub returns : goal.returns
returns c =
    let outs = c.args.outs.items in
    let inns = c.args.inns.items in
    IfOk-weaker c.new.result (λ s. s ≡ begun c.args.script.now c.in_ok-machine.machine outs inns)
    (HasBegun c.args.script.now c.args.at outs inns) (λ s is. record {
      stop = c.stop_of-stop_at.result;
      machine = c.in_ok-machine.machine;
      stops = rw c.as_slice.ensures at c.stop_of-stop_at.ensures;
      fresh = c.in_ok-machine.ensures;
      is = is;
    }) c.new.ensures
