-- What the makers of entries held when they sent. No digest and no name is in it.
use Rattle.std.specs.Prelude.{◌≡◌, ℕ, List, ◌∷◌, ◌++◌}
use Rattle.std.specs.List.{Contains}
use Rattle.entry_order.specs.declared.event.Event.{Event}
use Rattle.entry_order.specs.declared.event.Event.TheVariants.{Sent}
use Rattle.entry_order.specs.History.{held}
use Rattle.entry_order.specs.World.{World, history}

-- e was sent in w by a machine whose history was past
abbrev pub WasSentAfter : {T : Type 0} → World T → List (Event T) → T → Type 0
WasSentAfter {T} w past e =
    (m : ℕ) × (later : List (Event T)) × (history w m ≡ past ++ Sent e ∷ later)

-- when e was sent its maker held f, or some g that has f held before it (Lamport's happened before)
pub data HeldBefore {T : Type 0} (w : World T) (f : T) : T → Type 0 where
  itself : {e : T} (past : List (Event T)) →
      WasSentAfter w past e → Contains (held past) f → HeldBefore w f e
  descendant : {e g : T} (past : List (Event T)) →
      WasSentAfter w past e → Contains (held past) g → HeldBefore w f g → HeldBefore w f e
