-- What the pass over a text answers, which makes no tree.
use Rattle.std.specs.Prelude.{◌≡◌, ℕ, ◌<◌, ◌≤◌, List, ◌++◌, length, take}
use Rattle.canonical_sexp.specs.declared.sexp.Sexp.{Sexp}
use Rattle.canonical_sexp.specs.declared.read.Read.TheVariants as read
use Rattle.canonical_sexp.specs.declared.scanning.Extent.{Extent}
use Rattle.canonical_sexp.specs.declared.scanning.Extent.TheVariants as scan
use Rattle.canonical_sexp.specs.Text.{atom_text, max_octets}
use Rattle.canonical_sexp.specs.Reading.{Answers}
use Rattle.canonical_sexp.specs.inside.Tokens.{IsBadInLength}

-- the reader's answer, whatever the tree
abbrev pub Scans : List ℕ → Extent → Type 0
Scans bytes (scan.Whole used) = (tree : Sexp) × Answers bytes (read.Whole tree used)
Scans bytes scan.Cut = Answers bytes read.Cut
Scans bytes (scan.Bad at why) = Answers bytes (read.Bad at why)

-- the first `used` bytes are the text of an atom
pub record IsAtomInFront (bytes : List ℕ) (used : ℕ) : Type 0 where
  pub octets : List ℕ
  pub few : length octets ≤ max_octets
  pub within : used ≤ length bytes
  pub spelt : take used bytes ≡ atom_text octets

-- an atom's text begins with the bytes and goes on
pub record IsProperPrefixOfAtom (bytes : List ℕ) : Type 0 where
  pub octets : List ℕ
  pub more : List ℕ
  pub few : length octets ≤ max_octets
  pub goes_on : 0 < length more
  pub spelt : atom_text octets ≡ bytes ++ more

-- an atom at the front of the bytes
abbrev pub IsAtomScan : List ℕ → Extent → Type 0
IsAtomScan bytes (scan.Whole used) = IsAtomInFront bytes used
IsAtomScan bytes scan.Cut = IsProperPrefixOfAtom bytes
IsAtomScan bytes (scan.Bad at why) = IsBadInLength bytes at why
