-- Who did the first of a machine's events.
use Rattle.std.specs.Prelude.{◌≡◌, ℕ, List, ◌++◌, Option}
use Rattle.entry_format.specs.SealedEntry.{SealedEntry}
use Rattle.entry_order.specs.declared.event.Event.{Event}
use Rattle.finished_floor.specs.Floors.{passes_of}

-- the workers that did the first of these events
abbrev pub IsBegunBy : List (Event SealedEntry) → List (Option ℕ) → Type 0
IsBegunBy events by =
    (done : List (Event SealedEntry)) × (later : List (Event SealedEntry)) × (events ≡ done ++ later)
    × (by ≡ passes_of done)
