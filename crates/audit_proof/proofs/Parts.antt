-- Bytes in parts, each up to a separator.
use Rattle.audit_proof.proofs.Imports
use Imports.{All, All-from_get_or, Bool, LineAt, List, TextLine, [], after_first, ap, append-nil, append_assoc, arith}
use Imports.{before, before_first, cases_lt, cond, drop, drop-append-add, drop-drop, drop_all, drop_more, eq-eqb}
use Imports.{fails_before_first, false, false_from_ne_true, false≢true, first_from, flat_map, inl, inr, join_with_byte}
use Imports.{join_with_byte-slice_split, le-ltb, length, length-drop, length-slice_split, line_from, lines_between}
use Imports.{lines_in, list_any, list_any_at, lt-ltb, or_parts, position_or_len, refl, slice_split, slice_split_at}
use Imports.{slice_split_first, slice_split_none, spaced, sym, take, take_all, take_at, text_line, true, words_on, ℕ}
use Imports.{◌++◌, ◌+◌, ◌-◌, ◌<◌, ◌==◌, ◌∙◌, ◌∷◌, ◌≡◌, ◌≤◌}

-- an ended line of these bytes
abbrev pub full : List ℕ → TextLine
full bytes = text_line bytes true

-- whether a byte is the separator
abbrev pub is_byte : ℕ → ℕ → Bool
is_byte s byte = byte == s

-- no byte of these is
abbrev pub HasNo : ℕ → List ℕ → Type 0
HasNo s xs = list_any (is_byte s) xs ≡ false

-- so each isn't
each_not : (s : ℕ) (xs : List ℕ) → HasNo s xs → All (λ x. is_byte s x ≡ false) xs
each_not s xs none =
    All-from_get_or (λ x. is_byte s x ≡ false) xs 0 (λ i low. false_from_ne_true _
    (λ is. false≢true (sym none ∙ list_any_at (is_byte s) xs i 0 low is)))

-- ---- by places

-- a list without a separator is one part
parts_only : (s : ℕ) (xs : List ℕ) → length xs ≤ position_or_len (is_byte s) xs → slice_split (is_byte s) xs ≡ xs ∷ []
parts_only s xs over =
    slice_split_none (is_byte s) xs (All-from_get_or (λ x. is_byte s x ≡ false) xs 0
    (λ i low. fails_before_first (is_byte s) xs i 0 (omega arith)))

-- the words of a line are the first one and those after it
pub words_taken : (xs : List ℕ) → words_on xs
    ≡ take (position_or_len (is_byte 32) xs) xs ∷ spaced (drop (position_or_len (is_byte 32) xs) xs)
words_taken xs = elim (cases_lt (position_or_len (is_byte 32) xs) (length xs)) [
  | inl inside ↦ rw (drop_more xs _ 0 inside) (slice_split_first (is_byte 32) xs 0 inside)
  | inr over ↦ rw (take_all _ xs over, drop_all _ xs over) (parts_only 32 xs over)
]

-- so a word after a space is followed by the words after its end
pub next_word : (xs : List ℕ) (at : ℕ) → at < length xs → spaced (drop at xs)
    ≡ take (first_from 32 (at + 1) xs - (at + 1)) (drop (at + 1) xs) ∷ spaced (drop (first_from 32 (at + 1) xs) xs)
next_word xs at inside =
    let n = position_or_len (is_byte 32) (drop (at + 1) xs) in
    let size : (at + 1) + n - (at + 1) ≡ n = omega arith in
    rw (drop_more xs at 0 inside, words_taken (drop (at + 1) xs), drop-drop n (at + 1) xs, size) refl

-- a part before others is a line that is ended
line_before : (xs : List ℕ) (parts : List (List ℕ)) → 1 ≤ length parts →
    lines_between (xs ∷ parts) ≡ full xs ∷ lines_between parts
line_before xs [] some = absurd (omega arith)
line_before xs (part ∷ parts) some = refl

-- the lines from a place on are the one there and those after it
pub next_line : (bytes : List ℕ) (start : ℕ) (found : LineAt) → found ≡ line_from bytes start → start < length bytes →
    lines_in (drop start bytes)
    ≡ text_line (take (found.end - start) (drop start bytes)) found.is_ended ∷ lines_in (drop found.next bytes)
next_line bytes start found is inside =
    let xs = drop start bytes in
    let n = position_or_len (is_byte 10) xs in
    let size : start + n - start ≡ n = omega arith in
    let left = length-drop start bytes in
    rw is (elim (cases_lt n (length xs)) [
      | inl low ↦
          let parts = length-slice_split (is_byte 10) (drop (n + 1) xs) in
          let next : start + (n + 1) ≡ start + n + 1 = omega arith in
          let here = lt-ltb (start + n) (length bytes) (omega arith) in
          let before = line_before (take n xs) (slice_split (is_byte 10) (drop (n + 1) xs)) (omega arith) in
          rw (here, size, slice_split_first (is_byte 10) xs 0 low, before, drop-drop (n + 1) start bytes, next) refl
      | inr over ↦
          let past = le-ltb (start + n) (length bytes) (omega arith) in
          let none = drop_all (start + n) bytes (omega arith) in
          rw (past, size, take_all n xs over, parts_only 10 xs over, none, drop_more bytes start 0 inside) refl
    ])

-- ---- by what stands in them

-- a part, a separator, and what follows it
pub parts_at : (s : ℕ) (xs ys : List ℕ) → HasNo s xs →
    slice_split (is_byte s) (xs ++ s ∷ ys) ≡ xs ∷ slice_split (is_byte s) ys
parts_at s xs ys none = slice_split_at (is_byte s) xs s ys (each_not s xs none) (eq-eqb s s refl)

-- the last part
pub parts_last : (s : ℕ) (xs : List ℕ) → HasNo s xs → slice_split (is_byte s) xs ≡ xs ∷ []
parts_last s xs none = slice_split_none (is_byte s) xs (each_not s xs none)

-- where it comes first
first_at : (s : ℕ) (xs ys : List ℕ) → HasNo s xs → position_or_len (is_byte s) (xs ++ s ∷ ys) ≡ length xs
first_at s [] ys none = rw (eq-eqb s s refl) refl
first_at s (x ∷ xs) ys none =
    let size : 1 + length xs ≡ length (x ∷ xs) = omega arith in
    let (here, later) = or_parts (x == s) (list_any (is_byte s) xs) none in
    rw (here, first_at s xs ys later) size

-- what comes before it, and after it
pub part_before : (s : ℕ) (xs ys : List ℕ) → HasNo s xs → before_first (is_byte s) (xs ++ s ∷ ys) ≡ xs
part_before s xs ys none = rw (first_at s xs ys none) (take_at xs (s ∷ ys) (length xs) refl)

pub part_after : (s : ℕ) (xs ys : List ℕ) → HasNo s xs → after_first (is_byte s) (xs ++ s ∷ ys) ≡ ys
part_after s xs ys none = rw (first_at s xs ys none) (drop-append-add xs (s ∷ ys) 1)

-- a line that is ended, and what follows it
pub lines_at : (xs ys : List ℕ) → HasNo 10 xs → lines_in (xs ++ 10 ∷ ys) ≡ full xs ∷ lines_in ys
lines_at xs ys none =
    let size = length-slice_split (is_byte 10) ys in
    rw (parts_at 10 xs ys none) (line_before xs (slice_split (is_byte 10) ys) (omega arith))

-- a line is its words with a space between each two
pub words_back : (bytes first : List ℕ) (more : List (List ℕ)) → words_on bytes ≡ first ∷ more →
    bytes ≡ first ++ flat_map (λ (word : List ℕ). 32 ∷ word) more
words_back bytes first more are =
    sym (join_with_byte-slice_split 32 bytes) ∙ ap (join_with_byte 32) are ∙ joined first more
  where
    joined : (x : List ℕ) (xs : List (List ℕ)) →
        join_with_byte 32 (x ∷ xs) ≡ x ++ flat_map (λ (word : List ℕ). 32 ∷ word) xs
    joined x [] = sym (append-nil x)
    joined x (y ∷ xs) = ap (λ (zs : List ℕ). x ++ 32 ∷ zs) (joined y xs)

-- a line's bytes with its newline, if it has one
abbrev pub line_bytes : TextLine → List ℕ
line_bytes line = line.bytes ++ cond line.is_ended (10 ∷ []) []

-- a text is its lines
pub lines_back : (text : List ℕ) → flat_map line_bytes (lines_in text) ≡ text
lines_back text = between (slice_split (is_byte 10) text) ∙ join_with_byte-slice_split 10 text
  where
    -- parts with a newline between each two are their lines
    between : (parts : List (List ℕ)) → flat_map line_bytes (lines_between parts) ≡ join_with_byte 10 parts
    between [] = refl
    between ([] ∷ []) = refl
    between ((x ∷ xs) ∷ []) = simp append-nil
    between (part ∷ next ∷ parts) = rw (append_assoc part, between (next ∷ parts)) refl
