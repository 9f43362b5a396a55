-- The words for entries as they are read.
use Rattle.std.specs.Prelude.{◌≡◌, ◌≢◌, ℕ, ◌+◌, List, ◌∷◌, ◌++◌, All, Option, Some, None, take, drop, slice_get, ⊤}
use Rattle.std.specs.List.{Contains}
use Rattle.std.specs.Cmp.Lexicographic.{slice_cmp}
use Rattle.std.specs.Ordering.{nat_cmp}
use Rattle.std.specs.declared.cmp.Ordering.TheVariants.{Less}
use Rattle.entry_format.specs.SealedEntry.{SealedEntry}
use Rattle.entry_order.specs.declared.three.Three.{Three}
use Rattle.entry_order.specs.declared.three.Three.TheVariants.{False, True}
use Rattle.log_commands.specs.declared.entry_word.Read.{Read}
use Rattle.log_commands.specs.declared.entry_word.Read.TheVariants.{Digest, Number}
use Rattle.log_commands.specs.declared.order_word.OrderWord.{OrderWord}
use Rattle.log_commands.specs.declared.order_word.OrderWord.TheVariants as says
use Rattle.log_commands.specs.EntryWords.{EntryName, by_digest, by_number}
use Rattle.log_commands.specs.TwoEntries.{IsWordOf}

-- what was read of a word
abbrev pub name_of : Read → EntryName
name_of (Digest digest) = by_digest digest
name_of (Number machine number) = by_number machine.now number

-- the first dot of the word is at this place, or there is none
abbrev pub IsFirstDot : List ℕ → Option ℕ → Type 0
IsFirstDot word None = All (λ byte. byte ≢ 46) word
IsFirstDot word (Some at) = (word ≡ take at word ++ 46 ∷ drop (at + 1) word) × All (λ byte. byte ≢ 46) (take at word)

-- the place of an entry of S of which P holds, or there is none
abbrev pub IsPlaceOf : (SealedEntry → Type 0) → List SealedEntry → Option ℕ → Type 0
IsPlaceOf P S None = (f : SealedEntry) → Contains S f → ¬ P f
IsPlaceOf P S (Some at) = (e : SealedEntry) × (slice_get S at ≡ Some e) × P e

-- the entry at one place of S has a lower digest than that at the other, if there is one
abbrev pub IsLowerAt : List SealedEntry → ℕ → Option ℕ → Type 0
IsLowerAt S at None = ⊤
IsLowerAt S at (Some other) =
    (e f : SealedEntry) × (slice_get S at ≡ Some e) × (slice_get S other ≡ Some f)
    × (slice_cmp nat_cmp e.digest f.digest ≡ Less)

-- the word is right of the entries at these places of S
abbrev pub IsWordAt : List SealedEntry → ℕ → ℕ → OrderWord → Type 0
IsWordAt S at other word =
    (e f : SealedEntry) → slice_get S at ≡ Some e → slice_get S other ≡ Some f → IsWordOf S e f word

-- the word by what is known of the order of two different entries, this way and that way
abbrev pub word_by : Three → Three → OrderWord
word_by True that = says.Before
word_by this True = says.After
word_by False False = says.Apart
word_by this that = says.Unknown
