-- The entries that an auditor goes on: those given that are no strays, and the gaps among them.
use Rattle.std.specs.Prelude.{◌≡◌, ◌↔◌, ℕ, ◌≤◌, Bool, not, ◌&&◌, nat_le, List}
use Rattle.std.specs.List.{Contains, filter, list_any, flat_map}
use Rattle.entry_order.specs.Node.{Node}
use Rattle.entry_order.specs.Naming.{Names, IsNamedIn, IsBorneIn, names_digest, has_digest}
use Rattle.entry_order.specs.Precedes.{Precedes}
use Rattle.entry_order.specs.Ascending.{ascending, IsAscending}

module _ {T : Type 0} (node : T → Node) where
  -- e names a given entry, itself included, whose stamp isn't lower than its own
  abbrev pub IsStray : List T → T → Type 0
  IsStray given e = (g : T) × Contains given g × Names node e g × ((node e).stamp ≤ (node g).stamp)

  -- whether e names g, whose stamp isn't lower
  abbrev pub names_later : T → T → Bool
  names_later e g = names_digest node e (node g).digest && nat_le (node e).stamp (node g).stamp

  -- whether e is a stray
  abbrev pub is_stray : List T → T → Bool
  is_stray given e = list_any (λ g. names_later e g) given

  -- the given entries without strays
  abbrev pub survivors : List T → List T
  survivors given = filter (λ e. not (is_stray given e)) given

  -- the digests that an entry of E names and no entry of E has, ascending (Querifier, SADFE 2008)
  abbrev pub gaps : List T → List (List ℕ)
  gaps E = ascending (filter (λ d. not (has_digest node E d)) (flat_map (λ e. (node e).names) E))

  -- the list is ascending and has exactly the digests that an entry of E names and none of E has
  pub record IsGaps (E : List T) (ds : List (List ℕ)) : Type 0 where
    pub rises : IsAscending ds
    pub members : (d : List ℕ) → Contains ds d ↔ (IsNamedIn node E d × (¬ (IsBorneIn node E d)))

  -- exactly the gaps are so
  abbrev pub GapsAreUnique : Type 0
  GapsAreUnique = (E : List T) (ds : List (List ℕ)) → (ds ≡ gaps E) ↔ IsGaps E ds

  -- the survivors are the given entries that are no strays
  abbrev pub SurvivorsAreNoStrays : Type 0
  SurvivorsAreNoStrays = (given : List T) (e : T) →
      Contains (survivors given) e ↔ (Contains given e × (¬ (IsStray given e)))

  -- no survivor is its own ancestor
  abbrev pub SurvivorsHaveNoCycle : Type 0
  SurvivorsHaveNoCycle = (given : List T) (e : T) → ¬ (Precedes node (survivors given) e e)
