-- Lines on machines, one machine more.
use Rattle.place_commands.proofs.Imports.{Option, length, ◌≡◌, ℕ, ◌+◌, ◌<◌, List, [], ◌∷◌, ◌++◌, take, get_or, refl}
use Rattle.place_commands.proofs.Imports.{append_assoc, append-nil, take_more, Left, MachineState, IsLeft, undone_line}
use Rattle.place_commands.proofs.Imports.{SayUndone}

-- one machine more adds a line at the end, if an action is left for it
undone_push : (machines : List MachineState) (m : MachineState) (left : Option Left) (lines : List ℕ)
    → SayUndone machines lines → IsLeft m left
    → SayUndone (machines ++ m ∷ []) (lines ++ undone_line m.config.name left)
undone_push [] m left lines says here = (left, [], here, refl, rw (says, append-nil))
undone_push (x ∷ machines) m left lines (own, rest, waits, says, told) here = (
  own,
  rest ++ undone_line m.config.name left,
  waits,
  undone_push machines m left rest says here,
  rw (told, append_assoc),
)

-- the lines of the first machines, one more of them
pub undone_more : (machines : List MachineState) (i : ℕ) (m : MachineState) (left : Option Left) (lines new : List ℕ)
    → i < length machines → m ≡ get_or machines i m → SayUndone (take i machines) lines → IsLeft m left
    → new ≡ lines ++ undone_line m.config.name left → SayUndone (take (i + 1) machines) new
undone_more machines i m left lines new within at says here is =
    rw (take_more machines i m within, ← at, is) (undone_push (take i machines) m left lines says here)
