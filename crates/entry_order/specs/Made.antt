-- What machines make: in a play each entry was its machine's next, made of a number, a stamp and
-- names.
use Rattle.std.specs.Prelude.{◌≡◌, ℕ, ◌+◌, Bool, not, ◌&&◌, if◌then◌else◌}
use Rattle.std.specs.Prelude.{List, ◌∷◌, ◌++◌, length, Option, Some, None}
use Rattle.entry_order.specs.declared.event.Event.{Event}
use Rattle.entry_order.specs.declared.event.Event.TheVariants.{Sent}
use Rattle.entry_order.specs.declared.step.Step.{Step}
use Rattle.entry_order.specs.Node.{Node}
use Rattle.entry_order.specs.Naming.{has_digest, Distinct}
use Rattle.entry_order.specs.Frontier.{frontier}
use Rattle.entry_order.specs.History.{held, sent, greatest_stamp}
use Rattle.entry_order.specs.World.{World, start, history, sent_in, IsLegalNext, play}

-- each entry that was sent is what its machine sends next after the history before it
abbrev pub IsMadeBy : {T : Type 0} → (ℕ → List (Event T) → Option T) → World T → Type 0
IsMadeBy {T} next w =
    (m : ℕ) (before : List (Event T)) (e : T) (later : List (Event T)) →
    history w m ≡ before ++ Sent e ∷ later → next m before ≡ Some e

-- after every list of steps, each sent entry is what its machine sends next, whatever that is
abbrev pub PlaysAreMade : {T : Type 0} → (T → Node) → Type 0
PlaysAreMade {T} node =
    (next : ℕ → List (Event T) → Option T) (log machines : ℕ) (steps : List Step) →
    IsMadeBy next (play node next log (start machines) steps)

module _ {T : Type 0} (node : T → Node) (made : ℕ → ℕ → ℕ → List (List ℕ) → T) where
  -- the entry that machine m makes after the history h
  abbrev pub made_after : ℕ → List (Event T) → T
  made_after m h =
      made m (length (sent h)) (1 + greatest_stamp node (held h)) (frontier node (held h))

  -- it is sent where the rules allow it and its digest is new
  abbrev pub next_made : (ℕ → List (Event T) → Bool) → ℕ → List (Event T) → Option T
  next_made allowed m h =
      if allowed m h && not (has_digest node (held h) (node (made_after m h)).digest)
      then Some (made_after m h)
      else None

  -- what is made shows what it was made of
  pub record ShowsItsParts : Type 0 where
    pub maker : (m n s : ℕ) (names : List (List ℕ)) → (node (made m n s names)).maker ≡ m
    pub number : (m n s : ℕ) (names : List (List ℕ)) → (node (made m n s names)).number ≡ n
    pub stamp : (m n s : ℕ) (names : List (List ℕ)) → (node (made m n s names)).stamp ≡ s
    pub names : (m n s : ℕ) (names : List (List ℕ)) → (node (made m n s names)).names ≡ names

  -- whatever the rules allow, the entry that is made is what a legal history asks
  abbrev pub MadeIsLawful : Type 0
  MadeIsLawful =
      ShowsItsParts → (allowed : ℕ → List (Event T) → Bool) → IsLegalNext node (next_made allowed)

-- two entries with one digest are of one maker and have one number
abbrev pub DigestTellsNumber : {T : Type 0} → (T → Node) → Type 0
DigestTellsNumber {T} node =
    (e f : T) → (node e).digest ≡ (node f).digest →
    ((node e).maker ≡ (node f).maker) × ((node e).number ≡ (node f).number)

-- where that is so, different entries of a world have different digests
abbrev pub NumberedIsDistinct : {T : Type 0} → (T → Node) → Type 0
NumberedIsDistinct {T} node =
    (next : ℕ → List (Event T) → Option T) (log machines : ℕ) (steps : List Step) →
    IsLegalNext node next → DigestTellsNumber node →
    Distinct node (sent_in (play node next log (start machines) steps))
