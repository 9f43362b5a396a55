-- Texts in place: their bytes determine their tree, and the bytes of a list those of its members.
use Rattle.canonical_sexp.specs.declared.read.Read.TheVariants as read
use Rattle.canonical_sexp.proofs.{Atoms.cut_in_length, Decimal.after_digits, Decimal.decimal_begins}
use Rattle.canonical_sexp.proofs.{Exclusive.whole_only, Imports.[], Imports.Answers}
use Rattle.canonical_sexp.proofs.Imports.{ap, append-nil, append_assoc, AreLengthDigits, AreSpelt, AreWithin, arith}
use Rattle.canonical_sexp.proofs.Imports.{at_start, Atom, atom_text, atom_then, Branch, decimal, drop, Fits, Forest}
use Rattle.canonical_sexp.proofs.Imports.{get_or, in_front, inl, inr, is_digit, IsBadInLength, IsLengthInFront, IsSpelt}
use Rattle.canonical_sexp.proofs.Imports.{IsTextInFront, IsTrue, length, length-append, List, list_then, max_octets}
use Rattle.canonical_sexp.proofs.Imports.{nat_tests, no_trees, Read, refl, Sexp, sym, take, take-append-drop, take_at}
use Rattle.canonical_sexp.proofs.Imports.{take_rest, text_of, texts_of, Why, ℕ, ◌++◌, ◌-◌, ◌<◌, ◌∙◌, ◌∷◌, ◌≡◌, ◌≢◌, ◌≤◌}
use Rattle.canonical_sexp.proofs.{Places.atom_is_cut, Places.is_bad_length, Unique.one_tree}

-- bytes are the text of one tree
pub same_text : (tree other : Sexp) → Fits tree → Fits other → text_of tree ≡ text_of other → tree ≡ other
same_text tree other fits other_fits e =
    (one_tree 8 tree other [] [] fits other_fits (ap (λ bs. bs ++ []) e)).0

-- the texts of a row of members determine the row
pub same_members : (row other : Forest) → Fits (Branch row) → Fits (Branch other) → texts_of row ≡ texts_of other →
    row ≡ other
same_members row other fits other_fits e =
    let same = same_text (Branch row) (Branch other) fits other_fits (ap (λ bs. 40 ∷ (bs ++ 41 ∷ [])) e) in cc

-- the text of a tree within the limits determines that tree
pub spelt : (bytes : List ℕ) (tree : Sexp) → Fits tree → bytes ≡ text_of tree → IsSpelt bytes
spelt bytes tree fits e = (tree, (fits, e, λ other other_fits is. same_text other tree other_fits fits (sym is ∙ e)))

-- the texts of a row within the limits determine that row
pub row_spelt : (bytes : List ℕ) (row : Forest) → Fits (Branch row) → bytes ≡ texts_of row → AreSpelt bytes
row_spelt bytes row fits e =
    (row, (fits, e, λ other other_fits is. same_members other row other_fits fits (sym is ∙ e)))

-- what is within the limits at a depth is so at a greater one
pub more_deep : (d e : ℕ) (row : Forest) → d ≤ e → AreWithin d row → AreWithin e row
more_deep d e no_trees le h = tt
more_deep d e (atom_then octets rest) le (small, within) = (small, more_deep d e rest le within)
more_deep d e (list_then inner rest) le (nests, few, members, within) =
    (omega arith, few, more_deep (d - 1) (e - 1) inner (omega arith) members, more_deep d e rest le within)

-- a row with a text has a first member: the row is that tree and the others, and so are its texts; both are within
-- the limits
first_of : (row : Forest) → Fits (Branch row) → 0 < length (texts_of row) →
    (tree : Sexp) × (rest : Forest) × (row ≡ in_front tree rest) × (texts_of row ≡ text_of tree ++ texts_of rest)
    × Fits tree × Fits (Branch rest)
first_of no_trees fits some = absurd (omega arith)
first_of (atom_then octets rest) (nests, few, (small, within)) some =
    (Atom octets, rest, refl, refl, small, (nests, omega arith, within))
first_of (list_then inner rest) (nests, few, (_, members_few, members, within)) some = (
  Branch inner,
  rest,
  refl,
  rw append_assoc,
  (omega arith, members_few, more_deep 6 7 inner (omega arith) members),
  (nests, omega arith, within),
)

-- a text isn't empty
pub text_some : (tree : Sexp) → 0 < length (text_of tree)
text_some (Atom octets) = omega (arith, length-append (decimal (length octets)) (58 ∷ octets))
text_some (Branch row) = omega arith

-- the member that was found in front, and what follows it: the row is this tree and others, whose texts those are
pub taken : (bytes : List ℕ) (row : Forest) (used : ℕ) (tree : Sexp) → Fits (Branch row) → bytes ≡ texts_of row →
    IsTextInFront bytes tree used →
    (rest : Forest) × (row ≡ in_front tree rest) × Fits (Branch rest) × (drop used bytes ≡ texts_of rest)
taken bytes row used tree fits e found =
    let whole : text_of tree ++ drop used bytes ≡ texts_of row =
    rw found.spelt at (take-append-drop used bytes) ∙ e in
    let some : 0 < length (texts_of row) =
    omega (arith, ap length whole, length-append (text_of tree) (drop used bytes), text_some tree) in
    let (first, rest, is, text, first_fits, rest_fits) = first_of row fits some in
    let (same, following) =
    one_tree 8 tree first (drop used bytes) (texts_of rest) found.fits first_fits (whole ∙ text) in
    (rest, is ∙ ap (λ t. in_front t rest) (sym same), rest_fits, following)

-- where the answer is no whole text, no member is left
pub none_left : (bytes : List ℕ) (row : Forest) (answer : Read) → Fits (Branch row) → bytes ≡ texts_of row →
    Answers bytes answer → ((tree : Sexp) (used : ℕ) → answer ≢ read.Whole tree used) → row ≡ no_trees
none_left bytes no_trees answer fits e is none = refl
none_left bytes (atom_then octets rest) answer fits e is none =
    absurd (none _ _ (whole_only bytes answer (Atom octets) (texts_of rest) is fits.2.0 e))
none_left bytes (list_then inner rest) answer fits e is none =
    let (first, others, _, text, first_fits, _) = first_of (list_then inner rest) fits (omega arith) in
    absurd (none _ _ (whole_only bytes answer first (texts_of others) is first_fits (e ∙ text)))

-- a row without bytes has no member
pub no_bytes_left : (row : Forest) → length (texts_of row) ≡ 0 → row ≡ no_trees
no_bytes_left no_trees none = refl
no_bytes_left (atom_then octets rest) none =
    absurd (omega (arith, length-append (atom_text octets) (texts_of rest), text_some (Atom octets)))
no_bytes_left (list_then inner rest) none = absurd (omega arith)

-- an atom's text begins with a digit
atom_begins : (bytes octets : List ℕ) → length octets ≤ max_octets → bytes ≡ atom_text octets →
    (48 ≤ get_or bytes 0 0) × (get_or bytes 0 0 < 58)
atom_begins bytes octets small e = rw e (decimal_begins (length octets) (58 ∷ octets) (omega arith))

-- so it doesn't begin with a parenthesis
pub begins_low : (bytes octets : List ℕ) → length octets ≤ max_octets → bytes ≡ atom_text octets →
    get_or bytes 0 0 ≡ 40 → ⊥
begins_low bytes octets small e begins =
    let (low, _) = atom_begins bytes octets small e in omega arith

-- a text that begins with a parenthesis is a list's, and the bytes within are those of its members
pub listed : (bytes : List ℕ) (tree : Sexp) → Fits tree → bytes ≡ text_of tree → get_or bytes 0 0 ≡ 40 →
    (row : Forest) × (tree ≡ Branch row) × (take (length bytes - 1 - 1) (drop 1 bytes) ≡ texts_of row)
listed bytes (Atom octets) fits e begins = absurd (begins_low bytes octets fits e begins)
listed bytes (Branch row) fits e begins =
    let long : length (texts_of row) ≡ length bytes - 1 - 1 =
    omega (arith, ap length e, length-append (texts_of row) (41 ∷ [])) in
    (row, refl, rw (← long, e) (take_at (texts_of row) (41 ∷ []) (length (texts_of row)) refl))

-- what lies between the digits is one
digit_in : (c : ℕ) → 48 ≤ c → c < 58 → IsTrue (is_digit c)
digit_in c low high = grind (arith, nat_tests)

-- the text of a tree that doesn't begin with a parenthesis is that of an atom, and begins with a digit
pub is_atom : (bytes : List ℕ) (tree : Sexp) → Fits tree → bytes ≡ text_of tree → get_or bytes 0 0 ≢ 40 →
    (octets : List ℕ) × (length octets ≤ max_octets) × (bytes ≡ atom_text octets)
    × IsTrue (is_digit (get_or bytes 0 0))
is_atom bytes (Atom octets) fits e other =
    let (low, high) = atom_begins bytes octets fits e in (octets, fits, e, digit_in (get_or bytes 0 0) low high)
is_atom bytes (Branch row) fits e other = absurd (other (ap (λ bs. get_or bs 0 0) e))

-- the octets come after the length and its colon
pub after_length : (bytes octets : List ℕ) (count used : ℕ) → length octets ≤ max_octets → bytes ≡ atom_text octets →
    IsLengthInFront bytes count used → take (length bytes - used) (drop used bytes) ≡ octets
after_length bytes octets count used small e h =
    let whole : decimal count ++ 58 ∷ drop used bytes ≡ decimal (length octets) ++ 58 ∷ octets =
    rw (h.spelt, append_assoc) at (take-append-drop used bytes) ∙ e in
    take_rest bytes used
    ∙ elim (after_digits count (length octets) 58 (drop used bytes) octets (omega (arith, h.few)) (omega arith) whole)
    [ inl (_, _, rest) ↦ rest | inr (_, _, high, _) ↦ absurd (omega arith) ]

-- a length that is cut short or bad begins no atom's text
pub not_cut : (bytes octets : List ℕ) → length octets ≤ max_octets → bytes ≡ atom_text octets →
    AreLengthDigits bytes → ⊥
not_cut bytes octets small e h =
    let same = whole_only bytes read.Cut (Atom octets) [] (atom_is_cut at_start bytes tt (omega arith)
    (cut_in_length bytes h)) small (e ∙ sym (append-nil (atom_text octets))) in cc

-- an atom's text has no bad byte after the digits of its length
pub not_bad : (bytes octets : List ℕ) (at : ℕ) (why : Why) → length octets ≤ max_octets → bytes ≡ atom_text octets →
    IsBadInLength bytes at why → ⊥
not_bad bytes octets at why small e h =
    let bad = is_bad_length at_start bytes at h.value why tt (omega arith) h.inside h.few h.digits h.fault in
    let same = whole_only bytes (read.Bad at why) (Atom octets) [] bad small
    (e ∙ sym (append-nil (atom_text octets))) in cc
