-- A length, whole or cut, at the front of some bytes, and what is no length.
use Rattle.std.specs.Prelude.{◌≡◌, ℕ, ◌<◌, ◌≤◌, List, [], ◌∷◌, ◌++◌, length, take, slice_index, Some}
use Rattle.std.specs.Fmt.{decimal}
use Rattle.canonical_sexp.specs.declared.read.Why.{Why}
use Rattle.canonical_sexp.specs.declared.tokens.Length.{Length}
use Rattle.canonical_sexp.specs.declared.tokens.Length.TheVariants as len
use Rattle.canonical_sexp.specs.Text.{colon, max_octets}
use Rattle.canonical_sexp.specs.Causes.{length_fault}

-- the first `used` bytes are the length and its colon
pub record IsLengthInFront (bytes : List ℕ) (octets used : ℕ) : Type 0 where
  pub few : octets ≤ max_octets
  pub within : used ≤ length bytes
  pub spelt : take used bytes ≡ decimal octets ++ colon ∷ []

-- the bytes are the digits of a length
pub record AreLengthDigits (bytes : List ℕ) : Type 0 where
  pub value : ℕ
  pub few : value ≤ max_octets
  pub digits : bytes ≡ decimal value

-- the byte at the place can't follow the digits of a length before it
pub record IsBadInLength (bytes : List ℕ) (at : ℕ) (why : Why) : Type 0 where
  pub inside : at < length bytes
  pub begun : 0 < at
  pub value : ℕ
  pub few : value ≤ max_octets
  pub digits : take at bytes ≡ decimal value
  pub fault : length_fault value (slice_index bytes at) ≡ Some why

-- a length and its colon at the front of the bytes
abbrev pub IsLength : List ℕ → Length → Type 0
IsLength bytes (len.Whole octets used) = IsLengthInFront bytes octets used
IsLength bytes len.Cut = AreLengthDigits bytes
IsLength bytes (len.Bad at why) = IsBadInLength bytes at why
