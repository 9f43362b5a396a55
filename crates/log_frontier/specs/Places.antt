-- A frontier as places among the entries that are held.
use Rattle.std.specs.Prelude.{◌≡◌, ℕ, ◌<◌, false, not, ◌&&◌, List, [], ◌∷◌, ◌++◌, map, length}
use Rattle.std.specs.Prelude.{Option, Some, None, slice_get}
use Rattle.std.specs.List.{All}
use Rattle.entry_order.specs.Node.{Node}
use Rattle.entry_order.specs.Naming.{IsNamedIn, IsBorneIn, IsNew, is_named, has_digest}
use Rattle.entry_order.specs.Frontier.{frontier}
use Rattle.log_frontier.specs.Digests.{bears, has, place_by, Wanted}

-- a frontier: places in a list of entries, counted from 0, how many more entries it notes without
-- memory, the places of the digests that were noted, and the digests that are looked for
pub record Places : Type 0 where
  pub list : List ℕ
  pub spare : ℕ
  pub noted : List (List ℕ × ℕ)
  pub wanted : Wanted

module _ {T : Type 0} (node : T → Node) where
  -- the digest of the entry, and none where there is no entry
  abbrev pub digest_or_none : Option T → List ℕ
  digest_or_none None = []
  digest_or_none (Some e) = (node e).digest

  -- the digest of the entry at a place
  abbrev pub digest_at : List T → ℕ → List ℕ
  digest_at es p = digest_or_none (slice_get es p)

  -- the digests at these places are the frontier of the entries, in its ascending order
  -- (Auditorium, EVT 2007)
  pub record IsFrontierAt (es : List T) (places : List ℕ) : Type 0 where
    pub inside : All (λ p. p < length es) places
    pub digests : map (λ p. digest_at es p) places ≡ frontier node es

  -- no entry has the digest of one before it
  abbrev pub HasNoDigestTwice : List T → Type 0
  HasNoDigestTwice es =
      (before : List T) (e : T) (later : List T) → es ≡ before ++ e ∷ later → IsNew node before e

  -- the entry at the place has the digest
  abbrev pub IsBorneAt : List T → List ℕ → ℕ → Type 0
  IsBorneAt es d p = (e : T) × (slice_get es p ≡ Some e) × ((node e).digest ≡ d)

  -- exactly the digests that the entries have have places, and each is that of an entry that has it
  pub record AreBorne (es : List T) (noted : List (List ℕ × ℕ)) : Type 0 where
    pub all : (d : List ℕ) → bears noted d ≡ has_digest node es d
    pub places : (d : List ℕ) (p : ℕ) → place_by noted d ≡ Some p → IsBorneAt es d p

  -- one of the entries names a digest that none of them has
  abbrev pub NamesUnborne : List T → Type 0
  NamesUnborne es = (d : List ℕ) × IsNamedIn node es d × (¬ (IsBorneIn node es d))

  -- these are exactly the digests that the entries name and none has, unless that is found by a
  -- scan
  abbrev pub AreWanted : List T → Wanted → Type 0
  AreWanted es wanted = wanted.scans ≡ false → (d : List ℕ) →
      has wanted.list d ≡ (is_named node es d && not (has_digest node es d))

  -- the frontier's places are their frontier, the digests that it noted those that the entries
  -- have, at their places, and the digests that it looks for those that they name and none has
  pub record StandsFor (es : List T) (frontier : Places) : Type 0 where
    pub front : IsFrontierAt es frontier.list
    pub noted : AreBorne es frontier.noted
    pub wanted : AreWanted es frontier.wanted
