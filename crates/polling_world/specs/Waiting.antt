-- Why a machine's next action isn't done yet.
use Rattle.std.specs.Prelude.{◌≡◌, ◌<◌, ◌^◌, IsTrue, length, Option, Some, None, Err, not}
use Rattle.entry_format.specs.declared.deed.Deed.{Deed}
use Rattle.entry_format.specs.Nodes.{node_of_sealed}
use Rattle.entry_order.specs.History.{held, sent}
use Rattle.entangled_log.specs.Nexts.{HasGreatestStamp}
use Rattle.polling_world.specs.declared.left.Left.{Left}
use Rattle.polling_world.specs.declared.left.LeftWhy.{LeftWhy}
use Rattle.polling_world.specs.declared.left.LeftWhy.TheVariants.{Stopped, SupervisorNot, BoothNot, Full, StampSpent}
use Rattle.polling_world.specs.declared.left.LeftWhy.TheVariants.{Spent, Ready}
use Rattle.polling_world.specs.Machines.{MachineState, has_stopped}
use Rattle.polling_world.specs.Rules.{Refuses, MayDo}
use Rattle.polling_world.specs.Sending.{next_action}

-- the machine hasn't stopped
abbrev pub IsGoing : MachineState → Type 0
IsGoing m = IsTrue (not (has_stopped m))

-- the machine's log has room
abbrev pub HasRoom : MachineState → Type 0
HasRoom m = length m.events < m.config.log

-- the machine holds an entry with the greatest stamp that 32 bits hold
abbrev pub IsStampSpent : MachineState → Type 0
IsStampSpent m = HasGreatestStamp node_of_sealed (held m.events)

-- nothing prevents the deed
pub record IsReady (m : MachineState) (deed : Deed) : Type 0 where
  pub going : IsGoing m
  pub allowed : MayDo m.config m.events deed
  pub room : HasRoom m
  pub stamp : ¬ IsStampSpent m
  pub unspent : length (sent m.events) < 2 ^ m.config.key.height

-- the rules refuse the deed for this cause, and no earlier cause applies
pub record IsAgainstRules (m : MachineState) (deed : Deed) (why : LeftWhy) : Type 0 where
  pub going : IsGoing m
  pub refused : Refuses m.config m.events deed (Err why)

-- the machine's log is full, and no earlier cause applies
pub record IsLogFull (m : MachineState) (deed : Deed) : Type 0 where
  pub going : IsGoing m
  pub allowed : MayDo m.config m.events deed
  pub full : length m.events ≡ m.config.log

-- the machine's stamps are spent, and no earlier cause applies
pub record HasNoStamp (m : MachineState) (deed : Deed) : Type 0 where
  pub going : IsGoing m
  pub allowed : MayDo m.config m.events deed
  pub room : HasRoom m
  pub stamp : IsStampSpent m

-- the machine's key is spent, and no earlier cause applies
pub record IsKeySpent (m : MachineState) (deed : Deed) : Type 0 where
  pub going : IsGoing m
  pub allowed : MayDo m.config m.events deed
  pub room : HasRoom m
  pub stamp : ¬ IsStampSpent m
  pub spent : length (sent m.events) ≡ 2 ^ m.config.key.height

-- the first cause against the deed, in this order, or `Ready` where none applies
abbrev pub IsWhy : MachineState → Deed → LeftWhy → Type 0
IsWhy m deed Stopped = IsTrue (has_stopped m)
IsWhy m deed (SupervisorNot why) = IsAgainstRules m deed (SupervisorNot why)
IsWhy m deed (BoothNot why) = IsAgainstRules m deed (BoothNot why)
IsWhy m deed Full = IsLogFull m deed
IsWhy m deed StampSpent = HasNoStamp m deed
IsWhy m deed Spent = IsKeySpent m deed
IsWhy m deed Ready = IsReady m deed

-- the next action's place, and why it isn't done
pub record IsNextLeft (m : MachineState) (left : Left) : Type 0 where
  pub deed : Deed
  pub action : next_action m.config m.events ≡ Some deed
  pub place : left.place ≡ length (sent m.events)
  pub cause : IsWhy m deed left.why

-- what is left: nothing where there is no next action, and else the next action's place and why it
-- isn't done
abbrev pub IsLeft : MachineState → Option Left → Type 0
IsLeft m None = next_action m.config m.events ≡ None
IsLeft m (Some left) = IsNextLeft m left

-- what is left of a machine's actions is uniquely determined
abbrev pub WhatIsLeftIsToldInOneWay : Type 0
WhatIsLeftIsToldInOneWay =
    (machine : MachineState) (left other : Option Left) → IsLeft machine left → IsLeft machine other → left ≡ other
