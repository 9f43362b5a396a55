-- Entries that wait for machines.
use Rattle.std.specs.Prelude.{◌≢◌, ℕ, ◌<◌, ◌==◌, ◌&&◌, cond, List, [], ◌∷◌, All}
use Rattle.entry_format.specs.SealedEntry.{SealedEntry}
use Rattle.finished_floor.specs.declared.sweeping.Waiting.{Waiting}

-- the entries that wait on the way from one machine to another, in order
abbrev pub waits_of : List Waiting → ℕ → ℕ → List SealedEntry
waits_of [] from to = []
waits_of (w ∷ ws) from to =
    cond ((w.entry.entry.maker == from) && (w.to == to)) (w.entry ∷ waits_of ws from to) (waits_of ws from to)

-- each was made by one of this many machines and waits for another
abbrev pub AreOnWay : ℕ → List Waiting → Type 0
AreOnWay count waits =
    All (λ w. (w.entry.entry.maker < count) × (w.to < count) × (w.entry.entry.maker ≢ w.to)) waits
