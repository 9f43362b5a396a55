-- Members of a row that are taken one after another.
use Rattle.entry_format.proofs.Imports.{[], All, All-head, All-tail, ap, arith, Atom, body_tree, Branch, Cast}
use Rattle.entry_format.proofs.Imports.{Challenge, codes, Commit, decimal, Deed, deed_tree, Entry, Forest, forest_of}
use Rattle.entry_format.proofs.Imports.{How, how_word, in_front, inl, inr, IsDigest, IsEntry, joined, length}
use Rattle.entry_format.proofs.Imports.{length-decimal-le_20, List, list_of, map, no_trees, number_atom, Override, refl}
use Rattle.entry_format.proofs.Imports.{Sexp, ℕ, ◌++◌, ◌<◌, ◌==◌, ◌^◌, ◌∷◌, ◌≡◌, ◌≢◌}
use Rattle.canonical_sexp.proofs.Decimal.{decimal_digits}
use Rattle.canonical_sexp.specs.{Forest.atom_then, Forms.Finds}
use Rattle.entry_format.specs.inside.Parts.{head_then, IsHead, IsVersionDeed}
use Rattle.entry_format.specs.{declared.reading.Head.Head, EntryText.IsVersion}
use Rattle.std.proofs.{Common.None, Common.Option, Common.Some, lemmas.Bool.cases_Bool, lemmas.Fmt.decimal_injective}
use Rattle.std.specs.Option.{IsSome}
use Rattle.entry_format.specs.declared.deed.How.TheVariants as how

-- one atom more
pub atom_more : (digests : List (List ℕ)) (digest : List ℕ) (rest : Forest) →
    joined (forest_of (map Atom digests)) (atom_then digest rest)
    ≡ joined (forest_of (map Atom (digests ++ digest ∷ []))) rest
atom_more [] digest rest = refl
atom_more (d ∷ digests) digest rest = ap (atom_then d) (atom_more digests digest rest)

-- the member after some atoms of a row of atoms is an atom
pub atom_after : (digests all : List (List ℕ)) (tree : Sexp) (rest : Forest) → All IsDigest all →
    joined (forest_of (map Atom digests)) (in_front tree rest) ≡ forest_of (map Atom all) →
    (digest : List ℕ) × (IsDigest digest × (tree ≡ Atom digest))
atom_after [] [] (Atom octets) rest are e = cc
atom_after [] (d ∷ all) (Atom octets) rest are e = (d, (All-head IsDigest d all are, cc))
atom_after (c ∷ digests) (d ∷ all) tree rest are e =
    atom_after digests all tree rest (All-tail IsDigest d all are) (cc)
atom_after digests all tree rest are e = cc

-- what is there is found
pub digest_found : (found : Option (List ℕ)) (tree : Sexp) → Finds (λ d. IsDigest d × (tree ≡ Atom d)) found →
    (digest : List ℕ) × (IsDigest digest × (tree ≡ Atom digest)) → IsSome found
digest_found None tree none is = absurd (none is.0 is.1)
digest_found (Some digest) tree found is = refl

-- no digest is a number in decimal
pub no_number : (number : ℕ) (digest : List ℕ) → number < 2 ^ 32 → IsDigest digest → decimal number ≡ digest → ⊥
no_number number digest small is e = omega (arith, length-decimal-le_20 number (omega arith), ap length e)

-- no word of what a booth is to do is a digest, or a number in decimal
pub how_no_digest : (how : How) (digest : List ℕ) → IsDigest digest → digest ≡ how_word how → ⊥
how_no_digest how.Cancel digest is e = omega (arith, ap length e)
how_no_digest how.Cast digest is e = omega (arith, ap length e)

-- no word of what a booth is to do is a number in decimal
how_no_number : (how : How) (number : ℕ) → number < 2 ^ 32 → decimal number ≡ how_word how → ⊥
how_no_number how.Cancel number small e = let are = rw e at (decimal_digits number (omega arith)) in omega arith
how_no_number how.Cast number small e = let are = rw e at (decimal_digits number (omega arith)) in omega arith

module _ (version : ℕ) (word second : List ℕ) (first number : ℕ) where
  -- a deed whose tree has a word and two numbers is an Authorise
  pub numbers_authorise : (deed : Deed) → IsVersionDeed version deed → number < 2 ^ 32 → second ≡ decimal number →
      list_of (Atom word ∷ number_atom first ∷ Atom second ∷ []) ≡ deed_tree version deed → word ≡ codes "authorise"
  numbers_authorise (Override session part) h small is e =
      elim (cases_Bool (version == 1)) [ inl one ↦ cc | inr two ↦ absurd (how_no_number part number small (cc)) ]
  numbers_authorise (Commit session ballot) ((_, of), _) small is e = absurd (no_number number ballot small of (cc))
  numbers_authorise (Cast session ballot) ((_, of), _) small is e = absurd (no_number number ballot small of (cc))
  numbers_authorise (Challenge session ballot) ((_, of), _) small is e = absurd (no_number number ballot small of (cc))
  numbers_authorise deed h small is e = cc

-- what is in a body before its names
abbrev pub head_in : Entry → Head
head_in entry = record {
  version = entry.version;
  election = entry.election;
  maker = entry.maker;
  number = entry.number;
  stamp = entry.stamp;
}

-- what is in a body after its head: the names and the deed
abbrev pub after_head : Entry → Forest
after_head entry = forest_of (list_of (map Atom entry.names) ∷ deed_tree entry.version entry.deed ∷ [])

-- a version is a number of 32 bits
pub version_small : (version : ℕ) → IsVersion version → version < 2 ^ 32
version_small version is = omega arith

-- a number that is written as a version is that version
pub number_is_version : (number version : ℕ) → number < 2 ^ 32 → IsVersion version → decimal number ≡ decimal version →
    number ≡ version
number_is_version number version small is e = decimal_injective number version (omega arith) (omega arith) e

-- a tree whose last member is no deed of its version is no body
pub no_last_deed : (tree names : Sexp) (left : Forest) (head : Head) (entry : Entry) → IsHead head →
    tree ≡ Branch (head_then head (in_front names left)) →
    ((deed : Deed) → IsVersionDeed head.version deed → left ≢ in_front (deed_tree head.version deed) no_trees) →
    IsEntry entry → tree ≡ body_tree entry → ⊥
no_last_deed tree (Atom octets) left head entry h spelt none lawful is = cc
no_last_deed tree (Branch row) left head entry h spelt none lawful is =
    let version : head.version ≡ entry.version =
    number_is_version head.version entry.version (version_small head.version h.version) lawful.version (cc) in
    none entry.deed (lawful.deed, rw version lawful.of_version) (cc)
