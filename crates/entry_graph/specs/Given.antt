-- The entries that an auditor is given: which of them count, and which collide.
use Rattle.std.specs.Prelude.{◌≡◌, ◌≢◌, ℕ, not, List, [], ◌∷◌, ◌++◌}
use Rattle.std.specs.List.{Contains, filter}
use Rattle.std.specs.Str.{bytes_eq}
use Rattle.entry_order.specs.Node.{Node}

module _ {T : Type 0} (node : T → Node) where
  -- the entries, of those with one digest the first alone
  abbrev pub distinct : List T → List T
  distinct [] = []
  distinct (e ∷ es) = e ∷ filter (λ f. not (bytes_eq (node f).digest (node e).digest)) (distinct es)

  module _ (text : T → List ℕ) where
    -- entries with one digest have one text
    abbrev pub HasNoCollision : List T → Type 0
    HasNoCollision given =
        (e f : T) → Contains given e → Contains given f → (node e).digest ≡ (node f).digest → text e ≡ text f

    -- f is the first that has the digest of an entry before it and another text, and e is such an
    -- entry
    abbrev pub IsCollision : List T → T → T → Type 0
    IsCollision given e f =
        (earlier later : List T) × (given ≡ earlier ++ f ∷ later) × HasNoCollision earlier
        × Contains earlier e × ((node e).digest ≡ (node f).digest) × (text e ≢ text f)
