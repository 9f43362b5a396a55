-- What reading an entry's text answers.
use Rattle.std.specs.Prelude.{◌≡◌, ℕ, List, codes, Result, Ok, Err}
use Rattle.sha2.specs.Sha256.{sha256}
use Rattle.canonical_sexp.specs.Reading.{IsCanonical}
use Rattle.entry_order.specs.Ascending.{IsAscending}
use Rattle.entry_format.specs.declared.entry.Entry.{Entry}
use Rattle.entry_format.specs.declared.plain.Plain.{Plain}
use Rattle.entry_format.specs.declared.plain.EntryFault.{EntryFault}
use Rattle.entry_format.specs.declared.plain.EntryFault.TheVariants.{NotCanonical, WrongShape, NamesNotRising}
use Rattle.entry_format.specs.declared.plain.EntryFault.TheVariants.{OtherElection, UnknownMaker, WrongIndex}
use Rattle.entry_format.specs.declared.plain.EntryFault.TheVariants.{BadSignature, Memory}
use Rattle.entry_format.specs.EntryText.{IsSignedText}

-- the text is that of some entry with some signature, the order of names aside
abbrev pub HasForm : List ℕ → Type 0
HasForm text = (entry : Entry) × (signature : List ℕ) × IsSignedText text entry signature

-- the names of the entry that it is the text of rise strictly, in the order of bytes
abbrev pub HasRisingNames : List ℕ → Type 0
HasRisingNames text = (entry : Entry) × (signature : List ℕ) × IsSignedText text entry signature
    × IsAscending entry.names

-- the faults that show without a roster, the first that applies; no other does
abbrev pub IsFormFault : List ℕ → EntryFault → Type 0
IsFormFault text NotCanonical = IsCanonical text → ⊥
IsFormFault text WrongShape = IsCanonical text × (HasForm text → ⊥)
IsFormFault text NamesNotRising = HasForm text × (HasRisingNames text → ⊥)
IsFormFault text fault = ⊥

-- The entry that the text is of, with rising names and the digest of the whole text, or its first
-- fault (FIPS 180-4).
abbrev pub Reads : List ℕ → Result Plain EntryFault → Type 0
Reads text (Ok plain) =
    ((signature : List ℕ) × IsSignedText text plain.entry signature) × IsAscending plain.entry.names
    × (plain.digest ≡ sha256 text)
Reads text (Err fault) = IsFormFault text fault

-- the word of a fault
abbrev pub fault_word : EntryFault → List ℕ
fault_word NotCanonical = codes "NotCanonical"
fault_word WrongShape = codes "WrongShape"
fault_word NamesNotRising = codes "NamesNotRising"
fault_word OtherElection = codes "OtherElection"
fault_word UnknownMaker = codes "UnknownMaker"
fault_word WrongIndex = codes "WrongIndex"
fault_word BadSignature = codes "BadSignature"
fault_word Memory = codes "Memory"
