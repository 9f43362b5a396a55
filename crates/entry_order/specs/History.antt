-- A machine's append-only log: what it sent and got, in order, and which logs are legal.
use Rattle.std.specs.Prelude.{◌≡◌, ◌≢◌, ℕ, ◌+◌, max, List, [], ◌∷◌, ◌++◌, map, length}
use Rattle.std.specs.List.{fold}
use Rattle.entry_order.specs.declared.event.Event.{Event}
use Rattle.entry_order.specs.declared.event.Event.TheVariants.{Sent, Got}
use Rattle.entry_order.specs.Node.{Node}
use Rattle.entry_order.specs.Naming.{IsNew}
use Rattle.entry_order.specs.Frontier.{frontier}

-- the entry that was sent or got
abbrev pub entry_of : {T : Type 0} → Event T → T
entry_of (Sent e) = e
entry_of (Got e) = e

-- what a machine with this history holds, in order
abbrev pub held : {T : Type 0} → List (Event T) → List T
held h = map entry_of h

-- what it sent, in order
abbrev pub sent : {T : Type 0} → List (Event T) → List T
sent [] = []
sent (Sent e ∷ h) = e ∷ sent h
sent (Got e ∷ h) = sent h

module _ {T : Type 0} (node : T → Node) where
  -- the greatest stamp, or 0 where there is no entry: Lamport's logical clock of who holds them
  abbrev pub greatest_stamp : List T → ℕ
  greatest_stamp es = fold (λ top e. max top (node e).stamp) 0 es

  -- e is what the owner sends next after the history p (Auditorium, EVT 2007)
  pub record IsNext (owner : ℕ) (p : List (Event T)) (e : T) : Type 0 where
    pub maker : (node e).maker ≡ owner
    pub number : (node e).number ≡ length (sent p)
    pub stamp : (node e).stamp ≡ 1 + greatest_stamp (held p)
    pub names : (node e).names ≡ frontier node (held p)

  -- the event may come after the history p of the owner
  abbrev pub MayFollow : ℕ → List (Event T) → Event T → Type 0
  MayFollow owner p (Sent e) = IsNew node (held p) e × IsNext owner p e
  MayFollow owner p (Got e) = IsNew node (held p) e × ((node e).maker ≢ owner)

  -- each event of the owner's history may come after the events before it
  abbrev pub IsLegal : ℕ → List (Event T) → Type 0
  IsLegal owner h =
      (before : List (Event T)) (x : Event T) (later : List (Event T)) →
      h ≡ before ++ x ∷ later → MayFollow owner before x
