-- How many actions are left: one less where a machine acts, and as many where one hears.
use Rattle.finished_floor.proofs.Imports.{SealedEntry, sent_one_more, sent, Sent, SweptFloor, IsHanded, actions_left}
use Rattle.finished_floor.proofs.Imports.{Config, MachineState, with_event, MaySend, List, Some, [], ap, arith, length}
use Rattle.finished_floor.proofs.Imports.{suc, zero, ℕ, slice_get_within, slice_get, slice_set, ◌+◌, ◌-◌, ◌<◌, ◌∷◌, ◌≡◌}
use Rattle.finished_floor.proofs.Handed.{fate_keeps}

-- how many are left of one machine
abbrev left_of : MachineState → ℕ
left_of m = length m.config.actions - length (sent m.events)

-- what is left of all changes as what is left of the one machine that was replaced
left_set : (ms : List MachineState) (at : ℕ) (m n : MachineState) → slice_get ms at ≡ Some m →
    actions_left (slice_set ms at n) + left_of m ≡ actions_left ms + left_of n
left_set [] at m n stood = cc
left_set (u ∷ ms) zero m n stood = let same : u ≡ m = cc in let k = ap left_of same in omega arith
left_set (u ∷ ms) (suc at) m n stood = let rest = left_set ms at m n stood in omega arith

-- one is done
pub left_done : (ms : List MachineState) (at : ℕ) (m : MachineState) (e : SealedEntry) → slice_get ms at ≡ Some m →
    MaySend m.config m.events e → actions_left (slice_set ms at (with_event (Sent e) m)) < actions_left ms
left_done ms at m e stood may =
    let all = left_set ms at m (with_event (Sent e) m) stood in
    let more = sent_one_more m.events e in
    let some = slice_get_within m.config.actions (length (sent m.events)) may.deed may.action in
    omega arith

-- none is done where an entry is handed to a machine
pub handed_left : (to : ℕ) (e : SealedEntry) (old new : SweptFloor) → IsHanded to e old new →
    actions_left new.machines.items ≡ actions_left old.machines.items
handed_left to e old new hands =
    let all = left_set old.machines.items to hands.machine hands.then_machine hands.stood in
    let (config, count) = fate_keeps _ hands.machine hands.then_machine e hands.cause hands.fate in
    let actions = ap (λ (k : Config). length k.actions) config in
    rw hands.changed (omega arith)
