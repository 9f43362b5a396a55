-- The numbers of machines, and what is left of them.
use Rattle.log_repair.proofs.Imports.{◌≡◌, ◌∙◌, ℕ, ◌+◌, ◌<◌, ◌≤◌, arith, List, [], ◌∷◌, length, get_or, Some, drop}
use Rattle.log_repair.proofs.Imports.{get-map, slice_get-get_or, sym, ap, slice_get, range_with_len, length-map}
use Rattle.log_repair.proofs.Imports.{drop_more, drop_all, get_or-range_with_len, length-range_with_len, MachineState}
use Rattle.log_repair.proofs.Imports.{WorldState, machine_of, world_of, if◌then◌else◌, gaps, held, has_stopped}
use Rattle.log_repair.proofs.Imports.{node_of_sealed, Asks, InOrder, SealedEntry, Step, TakesTurn, World}

-- the machines' numbers, ascending
abbrev pub numbers : WorldState → List ℕ
numbers w = range_with_len 0 (length (world_of w.machines))

-- the next number, and those after it, by the machines that are read
pub next_number : {v w : WorldState} (m : ℕ) → v ≡ w → m < length v.machines →
    drop m (numbers w) ≡ m ∷ drop (m + 1) (numbers w)
next_number {w = w} m seen within =
    let count = length (world_of w.machines) in
    let here : m < length w.machines = rw seen at within in
    let low : m < count = omega (arith, here, length-map w.machines machine_of) in
    let is : get_or (numbers w) m m ≡ m = omega (arith, get_or-range_with_len 0 count m m low) in
    rw (drop_more (numbers w) m m (omega (arith, low, length-range_with_len 0 count)), is)

-- past the last machine there is none
pub no_number : {v w : WorldState} (m : ℕ) → v ≡ w → length v.machines ≤ m → drop m (numbers w) ≡ []
no_number {w = w} m seen far =
    let past : length w.machines ≤ m = rw seen at far in
    drop_all m (numbers w) (omega (
      arith,
      past,
      length-map w.machines machine_of,
      length-range_with_len 0 (length (world_of w.machines)),
    ))

-- the machine at a place
machine_at : (ms : List MachineState) (m : ℕ) (a : MachineState) → m < length ms → a ≡ get_or ms m a →
    slice_get (world_of ms) m ≡ Some (machine_of a)
machine_at ms m a within is = get-map machine_of ms m a (slice_get-get_or ms m a within ∙ ap Some (sym is))

-- its turn is to ask for these digests, where it wants them
pub turn_of : (after : World SealedEntry → Step → World SealedEntry) (ms : List MachineState) (m : ℕ)
    (a : MachineState) → m < length ms → a ≡ get_or ms m a → (ds : List (List ℕ)) →
    (if has_stopped a then [] else gaps node_of_sealed (held a.events)) ≡ ds →
    (steps : List Step) (v : World SealedEntry) →
    InOrder (Asks node_of_sealed after m) ds (world_of ms) steps v →
    TakesTurn node_of_sealed after m (world_of ms) steps v
turn_of after ms m a within is ds wanted steps v asks = rw (machine_at ms m a within is, wanted) asks
