-- A log.
use Rattle.std.specs.Prelude.{ℕ, List, [], ◌∷◌, ◌++◌}
use Rattle.entry_order.specs.declared.event.Event.{Event}

-- a machine's log: whose it is, how many events it may have, and its events in order
pub record History (T : Type 0) : Type 0 where
  pub owner : ℕ
  pub capacity : ℕ
  pub events : List (Event T)

-- the log with one event more at its end
abbrev pub log_with_event : {T : Type 0} → Event T → History T → History T
log_with_event x log =
    record { owner = log.owner; capacity = log.capacity; events = log.events ++ x ∷ [] }
