-- What contracts see of the fields of a machine.
use Rattle.polling_world.specs.declared.machine.Machine.TheInside.{Inside}
use Rattle.polling_world.specs.Machines.{MachineState}

-- the key is seen as it was before it signed anything
abbrev pub state_of : Inside → MachineState
state_of m = record {
  config = record {
    version = m.version;
    number = m.log.owner;
    name = m.name;
    role = m.role;
    actions = m.actions.items;
    key = record m.key { next = 0 };
    roster = m.roster.machines;
    log = m.log.capacity;
  };
  stop = m.stop_at;
  marked = m.marked;
  events = m.log.events;
}
