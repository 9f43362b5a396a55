-- What the entries say that a machine holds, sent or received (Auditorium, EVT 2007).
use Rattle.std.specs.Prelude.{◌≡◌, ℕ, List, Any}
use Rattle.entry_format.specs.declared.deed.Deed.{Deed}
use Rattle.entry_format.specs.declared.entry.Entry.{Entry}
use Rattle.deed_history.specs.Deeds.{Ends}

-- an entry with such a deed is held (Auditorium, EVT 2007)
abbrev pub HoldsSome : List Entry → (Deed → Type 0) → Type 0
HoldsSome entries IsSuch = Any (λ entry. IsSuch entry.deed) entries

-- an own one is held: its maker is the owner of the history
abbrev pub HoldsOwn : ℕ → List Entry → (Deed → Type 0) → Type 0
HoldsOwn owner entries IsSuch = Any (λ entry. (entry.maker ≡ owner) × IsSuch entry.deed) entries

-- a session has ended where a Cast, a Cancel or a Challenge of it is held (VoteBox, USENIX Security
-- 2008)
abbrev pub HasEnded : List Entry → ℕ → Type 0
HasEnded entries session = HoldsSome entries (Ends session)
