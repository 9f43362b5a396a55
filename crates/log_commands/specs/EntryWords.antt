-- The words for entries.
use Rattle.std.specs.Prelude.{◌≡◌, ◌≢◌, ℕ, ◌<◌, ◌^◌, List, ◌++◌, Some, slice_get, codes}
use Rattle.std.specs.List.{Contains}
use Rattle.std.specs.Cmp.Lexicographic.{slice_cmp}
use Rattle.std.specs.Fmt.{decimal}
use Rattle.std.specs.Ordering.{nat_cmp}
use Rattle.std.specs.declared.cmp.Ordering.TheVariants.{Less}
use Rattle.hall_text.specs.Words.{IsDigestText}
use Rattle.roster.specs.declared.post.Post.{Post}
use Rattle.roster.specs.Machines.{IsName}
use Rattle.entry_format.specs.SealedEntry.{SealedEntry}

-- what a word for an entry says: its digest, or the name of the machine that sent it, and its
-- number there
pub data EntryName : Type 0 where
  by_digest : (digest : List ℕ) → EntryName
  by_number : (machine : List ℕ) (number : ℕ) → EntryName

-- how it is spelt: 64 lower-case hexadecimal digits, or the machine's name, a dot and the number in
-- decimal
abbrev pub IsSpelt : EntryName → List ℕ → Type 0
IsSpelt (by_digest digest) word = IsDigestText word digest
IsSpelt (by_number machine number) word =
    IsName machine × (number < 2 ^ 32) × (word ≡ machine ++ codes "." ++ decimal number)

-- the word is one for an entry
abbrev pub IsEntryWord : List ℕ → Type 0
IsEntryWord word = (name : EntryName) × IsSpelt name word

-- the entry is the machine's of this name, with this number
abbrev pub IsNumbered : List Post → List ℕ → ℕ → SealedEntry → Type 0
IsNumbered machines machine number e =
    ((post : Post) × (slice_get machines e.entry.maker ≡ Some post) × (post.name ≡ machine)) × (e.entry.number ≡ number)

-- the entry is the one of S that has the digest, or the one of the machine and number that has the
-- least digest
abbrev pub IsNamedBy : List Post → List SealedEntry → EntryName → SealedEntry → Type 0
IsNamedBy machines S (by_digest digest) e = Contains S e × (e.digest ≡ digest)
IsNamedBy machines S (by_number machine number) e =
    Contains S e × IsNumbered machines machine number e
    × ((f : SealedEntry) → Contains S f → IsNumbered machines machine number f →
    slice_cmp nat_cmp f.digest e.digest ≢ Less)

-- the word means this entry of S
abbrev pub MeansEntry : List Post → List SealedEntry → List ℕ → SealedEntry → Type 0
MeansEntry machines S word e = (name : EntryName) × IsSpelt name word × IsNamedBy machines S name e

-- the word means no entry of S
abbrev pub MeansNone : List Post → List SealedEntry → List ℕ → Type 0
MeansNone machines S word = (e : SealedEntry) → ¬ MeansEntry machines S word e
