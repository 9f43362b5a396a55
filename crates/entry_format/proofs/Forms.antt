-- Which fault a text has.
use Rattle.canonical_sexp.specs.Reading.{IsCanonical}
use Rattle.entry_format.proofs.Imports.{ap, body_tree, Entry, EntryFault, Err, Fits, IsAscending, IsEntry, IsSignedText}
use Rattle.entry_format.proofs.Imports.{List, Ok, one_text, Plain, refl, Result, rules, Sexp, signed_tree, sym, text_of}
use Rattle.entry_format.proofs.{Imports.ℕ, Imports.◌∙◌, Imports.◌≡◌, OneEntry.one_entry, OneEntry.one_signed}
use Rattle.entry_format.specs.Reading.{HasForm, HasRisingNames, IsFormFault, Reads}
use Rattle.entry_format.specs.declared.plain.EntryFault.TheVariants.{NamesNotRising, NotCanonical, WrongShape}
use Rattle.entry_format.specs.inside.Parts.{IsSigned}

module _ (tree : Sexp) (fits : Fits tree) where
  -- the tree of a text with the form of an entry
  pub tree_of_form : (entry : Entry) (signature : List ℕ) → IsSignedText (text_of tree) entry signature →
      IsSigned tree (body_tree entry) signature
  tree_of_form entry signature form =
      one_text (text_of tree) tree (signed_tree entry signature) fits form.within refl form.spelt

  -- the body that was found in it is the entry's
  pub body_of_form : (body : Sexp) (entry : Entry) (signature another : List ℕ) → IsSigned tree body another →
      IsSignedText (text_of tree) entry signature → body ≡ body_tree entry
  body_of_form body entry signature another signed form =
      (one_signed body (body_tree entry) another signature (sym signed ∙ tree_of_form entry signature form)).0

  -- the form of a text whose parts were found
  pub form_of : (body : Sexp) (entry : Entry) (signature : List ℕ) → IsSigned tree body signature → IsEntry entry →
      body ≡ body_tree entry → IsSignedText (text_of tree) entry signature
  form_of body entry signature signed lawful is =
      let same : tree ≡ signed_tree entry signature = rw is at signed in
      record { lawful = lawful; within = rw same at fits; spelt = ap text_of same }

-- an entry whose names don't rise has no form in which they do
pub not_rising : (text : List ℕ) (entry : Entry) (signature : List ℕ) → IsSignedText text entry signature →
    (IsAscending entry.names → ⊥) → HasRisingNames text → ⊥
not_rising text entry signature form falls (other, another, also, rises) =
    let (same, _) = one_entry text other entry another signature also form in falls (rw same at rises)

-- a text with the form of an entry is canonical
is_canonical : (text : List ℕ) → HasForm text → IsCanonical text
is_canonical text (entry, signature, form) = (signed_tree entry signature, form.within, form.spelt)

-- a text with rising names has no fault
pub no_fault : (text : List ℕ) (fault : EntryFault) → IsFormFault text fault → HasRisingNames text → ⊥
no_fault text NotCanonical h (entry, signature, form, rises) = h (is_canonical text (entry, signature, form))
no_fault text WrongShape h (entry, signature, form, rises) = h.1 (entry, signature, form)
no_fault text NamesNotRising h rising = h.1 rising
no_fault text fault h rising = h

-- at most one fault applies
pub one_fault : (text : List ℕ) (fault other : EntryFault) → IsFormFault text fault → IsFormFault text other →
    fault ≡ other
one_fault text NotCanonical NotCanonical h k = refl
one_fault text NotCanonical WrongShape h k = absurd (h k.0)
one_fault text NotCanonical NamesNotRising h k = absurd (h (is_canonical text k.0))
one_fault text WrongShape NotCanonical h k = absurd (k h.0)
one_fault text WrongShape WrongShape h k = refl
one_fault text WrongShape NamesNotRising h k = absurd (h.1 k.0)
one_fault text NamesNotRising NotCanonical h k = absurd (k (is_canonical text h.0))
one_fault text NamesNotRising WrongShape h k = absurd (k.1 h.0)
one_fault text NamesNotRising NamesNotRising h k = refl
one_fault text fault other h k = search rules

-- at most one reading is right
pub one_reading : (text : List ℕ) (reading other : Result Plain EntryFault) → Reads text reading → Reads text other →
    reading ≡ other
one_reading text (Ok plain) (Ok other) ((signature, form), _, hashed) ((another, also), _, hashed_also) =
    let (entries, _) = one_entry text plain.entry other.entry signature another form also in
    let digests : plain.digest ≡ other.digest = hashed ∙ sym hashed_also in
    λ i. Ok (record { entry = entries i; digest = digests i })
one_reading text (Ok plain) (Err fault) ((signature, form), rises, _) k =
    absurd (no_fault text fault k (plain.entry, signature, form, rises))
one_reading text (Err fault) (Ok plain) h ((signature, form), rises, _) =
    absurd (no_fault text fault h (plain.entry, signature, form, rises))
one_reading text (Err fault) (Err other) h k = ap Err (one_fault text fault other h k)
