-- A world of machines that send, hear one another and stop, and the play of a list of such steps.
use Rattle.std.specs.Prelude.{◌≡◌, ℕ, zero, suc, nat_le, ◌==◌}
use Rattle.std.specs.Prelude.{Bool, true, false, ◌||◌, if◌then◌else◌}
use Rattle.std.specs.Prelude.{List, [], ◌∷◌, ◌++◌, replicate, length, slice_get, Option, Some, None}
use Rattle.std.specs.List.{flat_map}
use Rattle.entry_order.specs.declared.event.Event.{Event}
use Rattle.entry_order.specs.declared.event.Event.TheVariants.{Sent, Got}
use Rattle.entry_order.specs.declared.step.Step.{Step}
use Rattle.entry_order.specs.declared.step.Step.TheVariants.{Act, Hear, Stop}
use Rattle.entry_order.specs.Node.{Node}
use Rattle.entry_order.specs.Naming.{has_digest}
use Rattle.entry_order.specs.History.{held, sent, MayFollow}

-- a machine: its history, and whether it has stopped
pub record Machine (T : Type 0) : Type 0 where
  pub history : List (Event T)
  pub stopped : Bool

-- the machines, each named by its place
abbrev pub World : Type 0 → Type 0
World T = List (Machine T)

-- a world with this number of machines, before anything happens
abbrev pub start : {T : Type 0} → ℕ → World T
start count = replicate count (record { history = []; stopped = false })

-- the history of this machine, empty where there is none
abbrev pub history_of : {T : Type 0} → Option (Machine T) → List (Event T)
history_of None = []
history_of (Some a) = a.history

-- the history of machine m
abbrev pub history : {T : Type 0} → World T → ℕ → List (Event T)
history w m = history_of (slice_get w m)

-- the entries that were sent in w
abbrev pub sent_in : {T : Type 0} → World T → List T
sent_in w = flat_map (λ a. sent a.history) w

-- w with machine m changed, and no other
abbrev pub with_machine : {T : Type 0} → ℕ → (Machine T → Machine T) → World T → World T
with_machine m change [] = []
with_machine zero change (a ∷ w) = change a ∷ w
with_machine (suc m) change (a ∷ w) = a ∷ with_machine m change w

-- one event more
abbrev pub append : {T : Type 0} → Event T → Machine T → Machine T
append x a = record { history = a.history ++ x ∷ []; stopped = a.stopped }

-- the machine has stopped from now on
abbrev pub stop : {T : Type 0} → Machine T → Machine T
stop a = record { history = a.history; stopped = true }

-- the machine sends this entry, where there is one and it hasn't stopped
abbrev pub send : {T : Type 0} → Option T → Machine T → Machine T
send None a = a
send (Some e) a = if a.stopped then a else append (Sent e) a

module _ {T : Type 0} (node : T → Node) where
  -- the machine has stopped, holds the digest, or has log events
  abbrev pub cannot_hear : ℕ → Machine T → List ℕ → Bool
  cannot_hear log a digest =
      a.stopped || has_digest node (held a.history) digest || nat_le log (length a.history)

  -- the machine gets this entry, where there is one, unless it cannot hear it
  abbrev pub hear : ℕ → Option T → Machine T → Machine T
  hear log None a = a
  hear log (Some e) a = if cannot_hear log a (node e).digest then a else append (Got e) a

  -- next m h, what m sends after the history h if it may send, is what a legal history asks
  abbrev pub IsLegalNext : (ℕ → List (Event T) → Option T) → Type 0
  IsLegalNext next =
      (m : ℕ) (h : List (Event T)) (e : T) → next m h ≡ Some e → MayFollow node m h (Sent e)

  module _ (next : ℕ → List (Event T) → Option T) (log : ℕ) where
    -- the world after a step
    abbrev pub happens : World T → Step → World T
    happens w (Act m) = with_machine m (λ a. send (next m a.history) a) w
    happens w (Hear at from number) =
        if at == from
        then w
        else with_machine at (hear log (slice_get (sent (history w from)) number)) w
    happens w (Stop m) = with_machine m stop w

    -- the world after all of the steps, in order
    abbrev pub play : World T → List Step → World T
    play w [] = w
    play w (s ∷ steps) = play (happens w s) steps
