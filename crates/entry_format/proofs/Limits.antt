-- The texts of entries are within the limits of canonical texts.
use Rattle.entry_format.proofs.Imports.{[], All, All-head, All-tail, arith, Atom, body_tree, Branch, codes, decimal}
use Rattle.entry_format.proofs.Imports.{Deed, deed_tree, Entry, Fits, Forest, forest_of, How, how_word, in_front}
use Rattle.entry_format.proofs.Imports.{IsDeed, IsDigest, IsEntry, length, length-decimal-le_20, List, list_of, map}
use Rattle.entry_format.proofs.Imports.{max_members, no_trees, number_atom, Override, Sexp, signed_tree, ℕ, ◌<◌, ◌==◌}
use Rattle.entry_format.proofs.Imports.{◌^◌, ◌∙◌, ◌∷◌, ◌≤◌}
use Rattle.canonical_sexp.proofs.{InPlace.more_deep, Rows.AreWithin-joined, Rows.AreWithin-one, Rows.count_of-forest_of}
use Rattle.canonical_sexp.specs.Text.{AreWithin, IsWithin, max_octets}
use Rattle.std.proofs.{Common.Bool, Common.false, Common.if◌then◌else◌, lemmas.List.length-map}
use Rattle.entry_format.proofs.Taken.{after_head, version_small}
use Rattle.entry_format.specs.declared.deed.How.TheVariants as how

-- the members of a list
abbrev pub members_in : Sexp → Forest
members_in (Atom octets) = no_trees
members_in (Branch members) = members

-- the body of a signed entry within the limits
pub body_fits : (entry : Entry) (signature : List ℕ) → Fits (signed_tree entry signature) → Fits (body_tree entry)
body_fits entry signature h = (omega arith, h.2.1.1, more_deep 6 7 (members_in (body_tree entry)) (omega arith) h.2.1.2)

-- the atom of a number is short enough
short : (n : ℕ) → n < 2 ^ 32 → length (decimal n) ≤ max_octets
short n small = omega (arith, length-decimal-le_20 n (omega arith))

-- an override is within the limits, whether its text says the booth's part or not
override_within : (is_first : Bool) (session : ℕ) (how : How) → session < 2 ^ 32 →
    IsWithin 6 (list_of (Atom (codes "override") ∷ number_atom session
    ∷ (if is_first then [] else Atom (how_word how) ∷ [])))
override_within false session how.Cast h = omega (arith, short session h)
override_within first session how h = omega (arith, short session h)

-- the tree of any deed is within the limits
deed_within : (version : ℕ) (deed : Deed) → IsDeed deed → IsWithin 6 (deed_tree version deed)
deed_within version (Override session how) h = override_within (version == 1) session how h
deed_within version deed h = omega (arith, short)

-- the list of an entry's names is within the limits
names_within : (names : List (List ℕ)) → All IsDigest names → AreWithin 5 (forest_of (map Atom names))
names_within [] all = tt
names_within (name ∷ names) all =
    (omega (arith, All-head IsDigest name names all), names_within names (All-tail IsDigest name names all))

-- an entry with at most 16,384 names and a signature of at most 262,144 octets
pub signed_fits : (entry : Entry) (signature : List ℕ) → IsEntry entry → length entry.names ≤ max_members →
    length signature ≤ max_octets → Fits (signed_tree entry signature)
signed_fits entry signature h few small =
    let numbers : Forest = forest_of (Atom (codes "entry") ∷ number_atom entry.version ∷ Atom entry.election
    ∷ number_atom entry.maker ∷ number_atom entry.number ∷ number_atom entry.stamp ∷ []) in
    let deed : AreWithin 6 (in_front (deed_tree entry.version entry.deed) no_trees) =
    AreWithin-one 6 (deed_tree entry.version entry.deed) (deed_within entry.version entry.deed h.deed) in
    let count = count_of-forest_of (map Atom entry.names) ∙ length-map entry.names Atom in
    let body : AreWithin 6 (members_in (body_tree entry)) =
    AreWithin-joined 6 numbers (after_head entry) (omega (arith, short, version_small entry.version h.version))
    (omega arith, omega (arith, count), names_within entry.names h.names, deed) in
    (omega arith, omega arith, (omega arith, (omega arith, omega arith, body, (small, tt))))
