-- The text of an entry: a canonical S-expression (R. Rivest) in the manner of Auditorium (EVT
-- 2007).
use Rattle.std.specs.Prelude.{◌≡◌, ◌⊎◌, ℕ, ◌^◌, ◌<◌, ◌==◌, if◌then◌else◌, List, [], ◌∷◌, length, map, codes, All}
use Rattle.canonical_sexp.specs.declared.sexp.Sexp.{Sexp}
use Rattle.canonical_sexp.specs.declared.sexp.Sexp.TheVariants.{Atom}
use Rattle.canonical_sexp.specs.Text.{text_of, Fits}
use Rattle.canonical_sexp.specs.Forms.{list_of, number_atom}
use Rattle.entry_format.specs.declared.deed.Deed.{Deed}
use Rattle.entry_format.specs.declared.deed.Deed.TheVariants.{Opened, Authorise, Override, Closed, Activate, Commit}
use Rattle.entry_format.specs.declared.deed.Deed.TheVariants.{Cast, Cancel, Challenge}
use Rattle.entry_format.specs.declared.deed.How.{How}
use Rattle.entry_format.specs.declared.deed.How.TheVariants as how
use Rattle.entry_format.specs.declared.entry.Entry.{Entry}

-- the versions of entries
abbrev pub IsVersion : ℕ → Type 0
IsVersion version = (version ≡ 1) ⊎ (version ≡ 2)

-- the word of what an override has the booth do
abbrev pub how_word : How → List ℕ
how_word how.Cancel = codes "cancel"
how_word how.Cast = codes "cast"

-- how an override's text says it: version 1 has no word for it, and means that the session is
-- cancelled
abbrev pub how_rest : ℕ → How → List Sexp
how_rest version how = if version == 1 then [] else Atom (how_word how) ∷ []

-- a deed's word
abbrev pub deed_word : Deed → List ℕ
deed_word Opened = codes "opened"
deed_word (Authorise booth session) = codes "authorise"
deed_word (Override session how) = codes "override"
deed_word Closed = codes "closed"
deed_word (Activate session) = codes "activate"
deed_word (Commit session ballot) = codes "commit"
deed_word (Cast session ballot) = codes "cast"
deed_word (Cancel session) = codes "cancel"
deed_word (Challenge session ballot) = codes "challenge"

-- what follows its word in the version
abbrev pub deed_rest : ℕ → Deed → List Sexp
deed_rest version Opened = []
deed_rest version (Authorise booth session) = number_atom booth ∷ number_atom session ∷ []
deed_rest version (Override session how) = number_atom session ∷ how_rest version how
deed_rest version Closed = []
deed_rest version (Activate session) = number_atom session ∷ []
deed_rest version (Commit session ballot) = number_atom session ∷ Atom ballot ∷ []
deed_rest version (Cast session ballot) = number_atom session ∷ Atom ballot ∷ []
deed_rest version (Cancel session) = number_atom session ∷ []
deed_rest version (Challenge session ballot) = number_atom session ∷ Atom ballot ∷ []

-- a deed in the version (VoteBox, USENIX Security 2008)
abbrev pub deed_tree : ℕ → Deed → Sexp
deed_tree version deed = list_of (Atom (deed_word deed) ∷ deed_rest version deed)

-- 32 octets
abbrev pub IsDigest : List ℕ → Type 0
IsDigest octets = length octets ≡ 32

-- the numbers are of 32 bits, and the ballot is a digest
abbrev pub IsDeed : Deed → Type 0
IsDeed Opened = Unit {0}
IsDeed (Authorise booth session) = (booth < 2 ^ 32) × (session < 2 ^ 32)
IsDeed (Override session how) = session < 2 ^ 32
IsDeed Closed = Unit {0}
IsDeed (Activate session) = session < 2 ^ 32
IsDeed (Commit session ballot) = (session < 2 ^ 32) × IsDigest ballot
IsDeed (Cast session ballot) = (session < 2 ^ 32) × IsDigest ballot
IsDeed (Cancel session) = session < 2 ^ 32
IsDeed (Challenge session ballot) = (session < 2 ^ 32) × IsDigest ballot

-- the version has the deed: version 1 has no challenge, and no override that says cast
abbrev pub IsDeedIn : ℕ → Deed → Type 0
IsDeedIn version (Override session how.Cast) = version ≡ 2
IsDeedIn version (Challenge session ballot) = version ≡ 2
IsDeedIn version deed = Unit {0}

-- the body of an entry, which is signed (Auditorium, EVT 2007)
abbrev pub body_tree : Entry → Sexp
body_tree entry =
    list_of (Atom (codes "entry") ∷ number_atom entry.version ∷ Atom entry.election ∷ number_atom entry.maker
    ∷ number_atom entry.number ∷ number_atom entry.stamp ∷ list_of (map Atom entry.names)
    ∷ deed_tree entry.version entry.deed ∷ [])

-- the version is 1 or 2 and has the deed, the numbers are of 32 bits, and the digests are digests
pub record IsEntry (entry : Entry) : Type 0 where
  pub version : IsVersion entry.version
  pub election : IsDigest entry.election
  pub maker : entry.maker < 2 ^ 32
  pub number : entry.number < 2 ^ 32
  pub stamp : entry.stamp < 2 ^ 32
  pub names : All IsDigest entry.names
  pub deed : IsDeed entry.deed
  pub of_version : IsDeedIn entry.version entry.deed

-- the entry with its signature
abbrev pub signed_tree : Entry → List ℕ → Sexp
signed_tree entry signature = list_of (Atom (codes "sealed") ∷ body_tree entry ∷ Atom signature ∷ [])

-- the text is that of the entry with this signature, within the limits of canonical texts
pub record IsSignedText (text : List ℕ) (entry : Entry) (signature : List ℕ) : Type 0 where
  pub lawful : IsEntry entry
  pub within : Fits (signed_tree entry signature)
  pub spelt : text ≡ text_of (signed_tree entry signature)
