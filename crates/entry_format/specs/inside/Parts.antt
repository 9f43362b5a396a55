-- What the reader's own parts answer.
use Rattle.std.specs.Prelude.{◌≡◌, ◌≢◌, ℕ, ◌^◌, ◌<◌, List, [], ◌∷◌, length, map, All, codes, Option, Some, None}
use Rattle.canonical_sexp.specs.declared.sexp.Sexp.{Sexp}
use Rattle.canonical_sexp.specs.declared.sexp.Sexp.TheVariants.{Atom, List as Branch}
use Rattle.canonical_sexp.specs.Forest.{Forest, no_trees, atom_then}
use Rattle.canonical_sexp.specs.Sexp.{in_front}
use Rattle.canonical_sexp.specs.Forms.{list_of, number_atom}
use Rattle.canonical_sexp.specs.Text.{text_of}
use Rattle.lms_sign.specs.Signs.{Signs}
use Rattle.roster.specs.declared.post.Post.{Post}
use Rattle.entry_format.specs.declared.entry.Entry.{Entry}
use Rattle.entry_format.specs.Sealing.{HasIndex, sealed_in}
use Rattle.entry_format.specs.Unsealing.{IsValid, key_at}
use Rattle.entry_order.specs.Ascending.{IsAscending}
use Rattle.entry_format.specs.declared.reading.Head.{Head}
use Rattle.entry_format.specs.declared.reading.Fields.{Fields}
use Rattle.entry_format.specs.declared.form.Form.{Form}
use Rattle.entry_format.specs.declared.unsealing.Verified.{Verified}
use Rattle.entry_format.specs.declared.deed.Deed.{Deed}
use Rattle.entry_format.specs.EntryText.{IsVersion, IsDigest, IsDeed, IsDeedIn, deed_tree, body_tree, IsSignedText}

-- The first tree of the row is taken, as the value of which it is the tree. `None` only where it is
-- that of no value.
abbrev pub Takes : {A : Type 0} → (A → Type 0) → (A → Sexp) → Option A → Forest → Forest → Type 0
Takes {A} P tree None old new = (value : A) (rest : Forest) → P value → old ≢ in_front (tree value) rest
Takes P tree (Some value) old new = P value × (old ≡ in_front (tree value) new)

-- the tree is a list of digests
abbrev pub AreNames : Sexp → Type 0
AreNames tree = (digests : List (List ℕ)) × (All IsDigest digests × (tree ≡ list_of (map Atom digests)))

-- a deed that the version has, with numbers of 32 bits
abbrev pub IsVersionDeed : ℕ → Deed → Type 0
IsVersionDeed version deed = IsDeed deed × IsDeedIn version deed

-- the version is 1 or 2, the numbers are of 32 bits, and the election is a digest
pub record IsHead (head : Head) : Type 0 where
  pub version : IsVersion head.version
  pub election : IsDigest head.election
  pub maker : head.maker < 2 ^ 32
  pub number : head.number < 2 ^ 32
  pub stamp : head.stamp < 2 ^ 32

-- the members of a body up to its names, in front of others
abbrev pub head_then : Head → Forest → Forest
head_then head rest =
    atom_then (codes "entry") (in_front (number_atom head.version) (atom_then head.election
    (in_front (number_atom head.maker) (in_front (number_atom head.number) (in_front (number_atom head.stamp) rest)))))

-- the tree is the body with these fields
pub record IsBody (tree : Sexp) (fields : Fields) : Type 0 where
  pub head : IsHead fields.head
  pub names : AreNames fields.names
  pub deed : IsVersionDeed fields.head.version fields.deed
  pub spelt :
      tree ≡ Branch (head_then fields.head (in_front fields.names
      (in_front (deed_tree fields.head.version fields.deed) no_trees)))

-- a signed entry with this body and signature
abbrev pub signed_list : Sexp → List ℕ → Sexp
signed_list body signature = list_of (Atom (codes "sealed") ∷ body ∷ Atom signature ∷ [])

-- the tree is one
abbrev pub IsSigned : Sexp → Sexp → List ℕ → Type 0
IsSigned tree body signature = tree ≡ signed_list body signature

-- the form holds the entry of the text with its signature, names that rise, and the tree of the
-- entry's body
pub record IsForm (text : List ℕ) (form : Form) : Type 0 where
  pub spelt : IsSignedText text form.entry form.signature.now
  pub rising : IsAscending form.entry.names
  pub body : form.body ≡ body_tree form.entry

-- the entry is of this election, and with this signature it is signed under the key of its maker
pub record IsUnder (machines : List Post) (election : List ℕ) (entry : Entry) (signature key : List ℕ) : Type 0 where
  pub of_election : entry.election ≡ election
  pub maker : entry.maker < length machines
  pub of_maker : key ≡ key_at machines entry.maker
  pub index : HasIndex signature entry.number
  pub signs : Signs key (text_of (body_tree entry)) signature

-- with the text it is a valid sealed entry
abbrev pub IsVerified : List Post → List ℕ → List ℕ → Verified → Type 0
IsVerified machines election text verified =
    IsValid machines election text (sealed_in verified.entry text verified.signature_len verified.key)
