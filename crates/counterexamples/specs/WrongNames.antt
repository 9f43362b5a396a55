-- Why an entry names the frontier: where machines name only their own last entry, the law fails.
use Rattle.std.specs.Prelude.{ℕ, ◌+◌, List, [], ◌∷◌, length, Option, Some}
use Rattle.entry_order.specs.declared.event.Event.{Event}
use Rattle.entry_order.specs.declared.step.Step.TheVariants.{Act, Hear}
use Rattle.entry_order.specs.Naming.{Distinct}
use Rattle.entry_order.specs.History.{held, sent, greatest_stamp}
use Rattle.entry_order.specs.World.{World, start, sent_in, play}
use Rattle.entry_order.specs.Receipt.{OrderIsReceiptIn}
use Rattle.counterexamples.specs.Example.{Entry, shown, example_entry}

-- the digest of the last entry, where there is one
abbrev pub last_digest : List Entry → List (List ℕ)
last_digest [] = []
last_digest (e ∷ []) = (shown e).digest ∷ []
last_digest (e ∷ f ∷ es) = last_digest (f ∷ es)

-- what a machine sends that names only its own last entry
abbrev pub next_of_own : ℕ → List (Event Entry) → Option Entry
next_of_own m h =
    Some (example_entry m (length (sent h)) (1 + greatest_stamp shown (held h)) (last_digest (sent h)))

-- A sends; B hears it and sends
abbrev pub world : World Entry
world = play shown next_of_own 64 (start 2) (Act 0 ∷ Hear 1 0 0 ∷ Act 1 ∷ [])

-- B held A's entry when it sent, and no path of names leads there
pub record OwnLastFails : Type 0 where
  pub distinct : Distinct shown (sent_in world)
  pub fails : ¬ (OrderIsReceiptIn shown world)
