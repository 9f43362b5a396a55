-- What unsealing a text answers.
use Rattle.std.specs.Prelude.{◌≡◌, ◌≢◌, ◌⊎◌, ℕ, ◌<◌, ◌≤◌, List, [], length, map, slice_index_or, Result, Ok, Err}
use Rattle.canonical_sexp.specs.Text.{text_of}
use Rattle.entry_order.specs.Ascending.{IsAscending}
use Rattle.lms_sign.specs.Signs.{Signs}
use Rattle.roster.specs.declared.post.Post.{Post}
use Rattle.entry_format.specs.declared.entry.Entry.{Entry}
use Rattle.entry_format.specs.declared.plain.EntryFault.{EntryFault}
use Rattle.entry_format.specs.declared.plain.EntryFault.TheVariants.{OtherElection, UnknownMaker, WrongIndex}
use Rattle.entry_format.specs.declared.plain.EntryFault.TheVariants.{BadSignature}
use Rattle.entry_format.specs.EntryText.{body_tree, IsSignedText}
use Rattle.entry_format.specs.Reading.{IsFormFault}
use Rattle.entry_format.specs.SealedEntry.{SealedEntry}
use Rattle.entry_format.specs.Sealing.{HasIndex, IsSealed}

-- the key of the machine with this number
abbrev pub key_at : List Post → ℕ → List ℕ
key_at machines maker = slice_index_or (map (λ (post : Post). post.key) machines) maker []

-- the sealed entry has this text and is of this election, and its maker is one of the machines,
-- with its key
pub record IsValid (machines : List Post) (election text : List ℕ) (sealed : SealedEntry) : Type 0 where
  pub kept : IsSealed sealed
  pub of_text : sealed.text ≡ text
  pub of_election : sealed.entry.election ≡ election
  pub maker : sealed.entry.maker < length machines
  pub key : sealed.key ≡ key_at machines sealed.entry.maker

-- the faults of an entry with a signature that show by the election and the machines, the first
-- that applies; no other does
abbrev pub IsEntryFault : List Post → List ℕ → Entry → List ℕ → EntryFault → Type 0
IsEntryFault machines election entry signature OtherElection = entry.election ≢ election
IsEntryFault machines election entry signature UnknownMaker =
    (entry.election ≡ election) × (length machines ≤ entry.maker)
IsEntryFault machines election entry signature WrongIndex =
    (entry.election ≡ election) × (entry.maker < length machines) × (HasIndex signature entry.number → ⊥)
IsEntryFault machines election entry signature BadSignature =
    (entry.election ≡ election) × (entry.maker < length machines) × HasIndex signature entry.number
    × (Signs (key_at machines entry.maker) (text_of (body_tree entry)) signature → ⊥)
IsEntryFault machines election entry signature fault = ⊥

-- the text's first fault: one of its form, or else one of the entry that it is of
abbrev pub IsFault : List Post → List ℕ → List ℕ → EntryFault → Type 0
IsFault machines election text fault =
    IsFormFault text fault
    ⊎ ((entry : Entry) × (signature : List ℕ) × IsSignedText text entry signature × IsAscending entry.names
    × IsEntryFault machines election entry signature fault)

-- The valid sealed entry of the text, or the text's first fault.
abbrev pub Unseals : List Post → List ℕ → List ℕ → Result SealedEntry EntryFault → Type 0
Unseals machines election text (Ok sealed) = IsValid machines election text sealed
Unseals machines election text (Err fault) = IsFault machines election text fault
