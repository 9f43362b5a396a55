-- The texts of offices.
use Rattle.canonical_sexp.proofs.{InPlace.same_text, Unique.one_tree}
use Rattle.canonical_sexp.specs.Forms.{Finds, number_atom}
use Rattle.canonical_sexp.specs.{Reading.IsCanonical, Text.Fits, Text.text_of, declared.sexp.Sexp.Sexp}
use Rattle.office_key.specs.Offices.{HasSeed, IsOffice, max_signatures, office_of, office_tree}
use Rattle.office_key.specs.declared.office.Office.{Office}
use Rattle.std.proofs.Common.{[], ap, append-nil, arith, drop, length, List, None, Option, refl, Some, sym, take, ℕ}
use Rattle.std.proofs.Common.{◌++◌, ◌<◌, ◌^◌, ◌∙◌, ◌≡◌, ◌≢◌, ◌≤◌}
use Rattle.std.proofs.lemmas.{Fmt.decimal_injective, Fmt.length-decimal-le, List.length-drop, List.take-append-drop}
use Rattle.std.specs.{Fmt.decimal, Prelude.IfNone, Prelude.IfSome}

-- the tree of an office is within the limits of canonical texts
pub office_fits : (office : Office) → HasSeed office → office.next < 2 ^ 32 → Fits (office_tree office)
office_fits office seed small =
    let digits : length (decimal office.next) ≤ 10 =
    length-decimal-le 10 office.next (omega arith) (omega (arith, small)) (omega (arith, small)) in
    (omega arith, omega arith, (omega arith, (omega arith, (omega (arith, seed), (omega (arith, digits), tt)))))

-- so it is of the text of one
fits_of : (text : List ℕ) (office : Office) → IsOffice text office → Fits (office_tree office)
fits_of text office is = office_fits office is.seed (omega (arith, is.within))

-- a tree is that of one office
one_tree_office : (office other : Office) → office.next ≤ max_signatures → other.next ≤ max_signatures →
    office_tree office ≡ office_tree other → office ≡ other
one_tree_office office other few also same =
    let seed : office.seed ≡ other.seed = cc in
    let digits : decimal office.next ≡ decimal other.next = cc in
    let next : office.next ≡ other.next =
    decimal_injective office.next other.next (omega (arith, few)) (omega (arith, also)) digits in
    ap (λ (s : List ℕ). office_of s office.next) seed ∙ ap (office_of other.seed) next

-- a number that is written is one
pub one_number : (number other : ℕ) → number < 2 ^ 32 → other ≤ max_signatures →
    number_atom number ≡ number_atom other → number ≡ other
one_number number other small few same =
    let digits : decimal number ≡ decimal other = cc in
    decimal_injective number other (omega (arith, small)) (omega (arith, few)) digits

-- a text is that of one office
pub one_office : (text : List ℕ) (office other : Office) → IsOffice text office → IsOffice text other → office ≡ other
one_office text office other is also =
    one_tree_office office other is.within also.within
    (same_text (office_tree office) (office_tree other) (fits_of text office is) (fits_of text other also)
    (sym is.spelt ∙ also.spelt))

-- no text begins another
pub cut_text : (text : List ℕ) (office other : Office) (n : ℕ) → IsOffice text office → n < length text →
    IsOffice (take n text) other → ⊥
cut_text text office other n is less also =
    let rest : List ℕ = drop n text in
    let whole : text_of (office_tree office) ≡ text_of (office_tree other) ++ rest =
    sym is.spelt ∙ sym (take-append-drop n text) ∙ ap (λ (front : List ℕ). front ++ rest) also.spelt in
    let none : [] ≡ rest =
    (one_tree 8 (office_tree office) (office_tree other) [] rest (fits_of text office is)
    (fits_of (take n text) other also) (append-nil (text_of (office_tree office)) ∙ whole)).1 in
    omega (arith, ap length none, length-drop n text, less)

-- what is found in the tree of a text is the office whose text it is
pub office_of_text : (bytes : List ℕ) (tree : Sexp) (result : Option Office) → Fits tree → bytes ≡ text_of tree →
    IfSome result (λ office. HasSeed office × (office.next ≤ max_signatures) × (tree ≡ office_tree office)) →
    IfNone result
    ((office : Office) → HasSeed office → office.next ≤ max_signatures → tree ≢ office_tree office) →
    Finds (IsOffice bytes) result
office_of_text bytes tree (Some office) fits is (seed, within, same) none =
    record { seed = seed; within = within; spelt = is ∙ ap text_of same }
office_of_text bytes tree None fits is found none = λ office of.
    none office of.seed of.within (same_text tree (office_tree office) fits (fits_of bytes office of) (sym is ∙ of.spelt))

-- bytes that are no canonical text are no office's
pub no_office : (bytes : List ℕ) → ¬ IsCanonical bytes → (office : Office) → ¬ IsOffice bytes office
no_office bytes not_one office is = not_one (office_tree office, fits_of bytes office is, is.spelt)
