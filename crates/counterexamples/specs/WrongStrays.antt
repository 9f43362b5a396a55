-- Why the test of strays counts the entry itself: else an entry can be its own ancestor.
use Rattle.std.specs.Prelude.{◌≡◌, Bool, not, ◌&&◌, List, [], ◌∷◌}
use Rattle.std.specs.List.{filter, list_any}
use Rattle.std.specs.Str.{bytes_eq}
use Rattle.entry_order.specs.Precedes.{Precedes}
use Rattle.entry_order.specs.Survivors.{names_later, survivors}
use Rattle.counterexamples.specs.Example.{Entry, digest_of, shown, example_entry}

-- whether e names the digest of another given entry, whose stamp isn't lower than its own
abbrev pub is_stray_by_others : List Entry → Entry → Bool
is_stray_by_others given e =
    list_any (λ g. not (bytes_eq (shown g).digest (shown e).digest) && names_later shown e g) given

-- the given entries that are no strays by this test
abbrev pub survivors_by_others : List Entry → List Entry
survivors_by_others given = filter (λ e. not (is_stray_by_others given e)) given

-- an entry that names itself
abbrev pub cyclic : Entry
cyclic = example_entry 0 0 1 (digest_of 0 0 ∷ [])

-- the entry that names itself survives such a test and precedes itself
pub record ByOthersFails : Type 0 where
  pub right : survivors shown (cyclic ∷ []) ≡ []
  pub fails : Precedes shown (survivors_by_others (cyclic ∷ [])) cyclic cyclic
