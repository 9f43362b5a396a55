-- What an office's file says.
use Rattle.std.specs.Prelude.{◌≡◌, ℕ, ◌+◌, ◌≤◌, List, [], ◌∷◌, length, codes}
use Rattle.canonical_sexp.specs.declared.sexp.Sexp.{Sexp}
use Rattle.canonical_sexp.specs.declared.sexp.Sexp.TheVariants.{Atom}
use Rattle.canonical_sexp.specs.Forms.{list_of, number_atom}
use Rattle.canonical_sexp.specs.Text.{text_of}
use Rattle.office_key.specs.declared.office.Office.{Office}

-- how many signatures an office's key makes: one with each leaf of its 32 low trees of 1,024 leaves
abbrev pub max_signatures : ℕ
max_signatures = 32768

-- its seed has 32 bytes
abbrev pub HasSeed : Office → Type 0
HasSeed office = length office.seed ≡ 32

-- an office: its seed, and the number of its next signature
abbrev pub office_of : List ℕ → ℕ → Office
office_of seed next = record { seed = seed; next = next }

-- the office once that signature is made
abbrev pub next_office : Office → Office
next_office office = office_of office.seed (office.next + 1)

-- the tree of an office's text
abbrev pub office_tree : Office → Sexp
office_tree office =
    list_of (Atom (codes "office") ∷ Atom (codes "1") ∷ Atom office.seed ∷ number_atom office.next ∷ [])

-- an office's text: a canonical S-expression (R. Rivest)
abbrev pub office_text : Office → List ℕ
office_text office = text_of (office_tree office)

-- the bytes are the text of the office, and nothing else; a key that is spent has the number after
-- its last one
pub record IsOffice (bytes : List ℕ) (office : Office) : Type 0 where
  pub seed : HasSeed office
  pub within : office.next ≤ max_signatures
  pub spelt : bytes ≡ office_text office
