-- A text is read as a proof exactly if it is the proof's.
use Rattle.audit_proof.proofs.Imports
use Imports.{All, All-cons, All-contains, All-head, All-map, All-nil, All-tail, All-weaker, AllPairs, At, Bool}
use Imports.{Contains, Contains-middle, Decides, Decides-and, Decides-eqb, Decides-ltb, Err, Form, Graph, IsBegun}
use Imports.{IsLineOf, IsOnLine, IsProofOf, IsReached, IsReadAnswer, IsTextFor, LacksNoParent, Line, List, Memory, None}
use Imports.{Ok, Option, ProofFault, ProofRead, ProofStep, ProofWhy, Result, Some, TextLine, TextsAreReadInOneWay}
use Imports.{TextsOfProofsAreRead, WrongCount, [], after_first, after_line, ap, append-nil, append_assoc, arith}
use Imports.{at_number, before_first, bytes_eq, bytes_eq-Decides, cases_lt, codes, cond, count_read, decimal}
use Imports.{decimal_by_steps, decimal_nonempty, decimal_read, drop_all, end_read, eq-eqb, eqb-true, false, false≢true}
use Imports.{flat_map, flat_map-map, form_line, form_read, get_or, get_or_append_left, get_or_at, inl, inr, is_above}
use Imports.{length, length-append, line_of_entry, line_text, line_with, line_words, lines_in, lines_read}
use Imports.{list_all_each, list_all_from_each, list_any-append, lt-ltb, ltb-true, map, nat_lt, ne_eqb, need}
use Imports.{nil_from_length, number-found, number-none, number_after, number_in, ok_or, passes_at_first, past_read}
use Imports.{position_or_len, proof_of, proof_text, refl, slice_get, split_at_first, step_fits, step_of_word, step_text}
use Imports.{step_word, steps_read, subst, suc, survivors_line, sym, text_line, true, value_from, with_step, words_on}
use Imports.{zero, ℕ, ◌%◌, ◌&&◌, ◌++◌, ◌+◌, ◌<◌, ◌>>=◌, ◌^◌, ◌↔◌, ◌∙◌, ◌∷◌, ◌≡◌, ◌≢◌, ◌≤◌}
use Rattle.audit_proof.proofs.LineFacts.{Fits, a_step, all_decides, begun_more, begun_none, closed_decides, in_decides}
use Rattle.audit_proof.proofs.LineFacts.{itself, numbers_inside, on_decides, place_listed, proof_more, proof_none}
use Rattle.audit_proof.proofs.Parts.{HasNo, full, is_byte, line_bytes, lines_at, lines_back, part_after, part_before}
use Rattle.audit_proof.proofs.{LineFacts.reached_on_line, Parts.parts_at, Parts.parts_last, Parts.words_back}

-- ---- chains of readings

-- a chain that gives a value gave one at each step
pub followed : {A B E : Type 0} (read : Result A E) (next : A → Result B E) (value : B) → (read >>= next) ≡ Ok value →
    (first : A) × (read ≡ Ok first) × (next first ≡ Ok value)
followed (Ok first) next value e = (first, refl, e)
followed (Err cause) next value e = cc

-- so does one that tells the line
followed_at : {A B : Type 0} (n : ℕ) (read : ProofRead A) (next : A → Result B ProofFault) (value : B) →
    (at_number n read >>= next) ≡ Ok value → (first : A) × (read ≡ Ok first) × (next first ≡ Ok value)
followed_at n (Ok first) next value e = (first, refl, e)
followed_at n (Err why) next value e = cc

-- a chain that needs a test first gives a value exactly if the test holds and the rest gives it
pub needs : {B : Type 0} (test : Bool) (why : ProofWhy) (next : Unit {0} → ProofRead B) (value : B) {P Q : Type 0} →
    Decides test P → (next tt ≡ Ok value) ↔ Q → ((need test why >>= next) ≡ Ok value) ↔ (P × Q)
needs true why next value means rest = (λ e. (means.0 refl, rest.0 e), λ w. rest.1 w.1)
needs false why next value means rest = (λ e. cc, λ w. absurd (false≢true (means.1 w.0)))

-- and a test alone
needed : (test : Bool) (why : ProofWhy) {P : Type 0} → Decides test P → (need test why ≡ Ok tt) ↔ P
needed true why means = (λ e. means.0 refl, λ p. refl)
needed false why means = (λ e. cc, λ p. absurd (false≢true (means.1 p)))

-- ---- words that are read

-- what is tested before it is read is as the test says
number_by : (test : Bool) (value number : ℕ) (P : ℕ → Type 0) → Decides test (P value) →
    ok_or (cond test (Some value) None) Form ≡ Ok number → P number
number_by true value number P means is = let same : value ≡ number = cc in subst P same (means.0 refl)
number_by false value number P means is = cc

-- a word that is read as a number is its decimal
number_said : (word : List ℕ) (number : ℕ) → decimal_read word ≡ Ok number → (number < 2 ^ 32) × (word ≡ decimal number)
number_said word number e =
    let value = value_from 0 word in
    number_by (nat_lt value (2 ^ 32) && bytes_eq word (decimal value)) value number
    (λ n. (n < 2 ^ 32) × (word ≡ decimal n))
    (Decides-and _ _ (Decides-ltb value (2 ^ 32)) (bytes_eq-Decides word (decimal value))) e

-- nothing is no number
no_number : number_in [] ≡ None
no_number = number-none [] (λ number is.
    let some = decimal_nonempty number (omega arith) in omega (arith, ap (λ (xs : List ℕ). length xs) is.1))

-- a word without a colon is no step's
pub no_colon : (word : List ℕ) → length word ≤ position_or_len (is_byte 58) word → step_of_word word ≡ Err Form
unfolding step_of_word
no_colon word over =
    let none : after_first (is_byte 58) word ≡ [] = drop_all _ word (omega arith) in
    rw (none, no_number)
    (elim (number_in (before_first (is_byte 58) word)) as (λ o. ◌≡◌ {A = ProofRead ProofStep}
    (ok_or o Form >>= λ a. Err Form) (Err Form)) [ None ↦ refl | Some a ↦ refl ])

-- one that is read as a step is its word
step_said : (word : List ℕ) (step : ProofStep) → step_of_word word ≡ Ok step → word ≡ step_word step
unfolding step_of_word
step_said word step e =
    let (ancestor, is_ancestor, rest) = followed (decimal_read (before_first (is_byte 58) word)) _ step e in
    let (via, is_via, made) = followed (decimal_read (after_first (is_byte 58) word)) _ step rest in
    elim (cases_lt (position_or_len (is_byte 58) word) (length word)) [
      | inl inside ↦
          let front = (number_said (before_first (is_byte 58) word) ancestor is_ancestor).1 in
          let back = (number_said (after_first (is_byte 58) word) via is_via).1 in
          let colon = eqb-true (get_or word (position_or_len (is_byte 58) word) 0) 58
          (passes_at_first (is_byte 58) word 0 inside) in
          let same : a_step ancestor via ≡ step = cc in
          split_at_first (is_byte 58) word 0 inside ∙ cc (front, colon, back, ap step_word same)
      | inr over ↦ let none = no_colon word over in cc
    ]

-- a first word, a number, and other words
after_said : (first : List ℕ) (words : List (List ℕ)) (said : ℕ × List (List ℕ)) → number_after first words ≡ Ok said →
    words ≡ first ∷ decimal said.0 ∷ said.1
after_said first [] said e = cc
after_said first (word ∷ []) said e = cc
after_said first (word ∷ number ∷ more) said e =
    let (is_first, rest) = (needs _ Form _ said (bytes_eq-Decides word first) ((λ e. e), λ e. e)).0 e in
    let (value, is_value, made) = followed (decimal_read number) _ said rest in
    let is = (number_said number value is_value).1 in
    let same : ◌≡◌ {A = ℕ × List (List ℕ)} (value, more) said = cc in
    cc (is_first, is, ap (λ (s : ℕ × List (List ℕ)). first ∷ decimal s.0 ∷ s.1) same)

-- ---- lines that are read

module _ (graph : Graph) where
  -- a step is tried right
  pub fits_is : (line : Line) (step : ProofStep) → (step_fits graph line step ≡ Ok tt) ↔ Fits graph line step
  unfolding step_fits
  fits_is line step =
      needs _ _ _ tt (Decides-and _ _ (Decides-ltb step.ancestor graph.count) (Decides-ltb step.via graph.count))
      (needs _ _ _ tt (all_decides _ (λ (s : ProofStep). step.ancestor < s.ancestor) line.steps
      (λ s. Decides-ltb step.ancestor s.ancestor))
      (needs _ _ _ tt (on_decides line step.via) (needed _ _ (in_decides (graph.parents step.via) step.ancestor))))

  -- a line of an entry by its tests
  entry_is : (rises : ℕ → Bool) (ended : Bool) (entry : ℕ) (words : List (List ℕ)) (line : Line) →
      (line_of_entry graph rises ended (entry, words) ≡ Ok line)
      ↔ ((entry < graph.count) × ((rises entry ≡ true)
      × ((steps_read graph (line_with entry []) words >>= end_read graph ended) ≡ Ok line)))
  unfolding line_of_entry
  entry_is rises ended entry words line =
      needs _ _ _ line (Decides-ltb entry graph.count) (needs _ _ _ line (itself (rises entry)) ((λ e. e), λ e. e))

  -- and the end of a line
  end_is : (ended : Bool) (line all : Line) →
      (end_read graph ended line ≡ Ok all) ↔ ((ended ≡ true) × (LacksNoParent graph line × (line ≡ all)))
  unfolding end_read
  end_is ended line all =
      needs _ _ _ all (itself ended)
      (needs _ _ _ all (closed_decides graph line) ((λ e. cc), λ e. ap (λ (l : Line). Ok l) e))

  -- words that are read are those of the steps
  pub steps_said : (line : Line) (words : List (List ℕ)) (all : Line) → steps_read graph line words ≡ Ok all →
      IsBegun graph line → (more : List ProofStep) × (all ≡ line_with line.entry (line.steps ++ more))
      × (words ≡ map step_word more) × IsBegun graph all
  steps_said line [] all e begun =
      let same : line ≡ all = cc in ([], rw append-nil (sym same), refl, rw same at begun)
  steps_said line (word ∷ words) all e begun =
      let (step, is_step, rest) = followed (step_of_word word) _ all e in
      let (it, fits, others) = followed (step_fits graph line step) _ all rest in
      let (more, are, text, is) = steps_said (with_step line step) words all others
      (begun_more graph line step ((fits_is line step).0 fits) begun) in
      (step ∷ more, rw append_assoc at are, cc (step_said word step is_step, text), is)

  -- what is read as a line is that line, ended
  pub past_said : (rises : ℕ → Bool) (next : TextLine) (line : Line) → past_read graph rises next ≡ Ok line →
      (next ≡ full (line_words line)) × IsLineOf graph line × (rises line.entry ≡ true)
  unfolding past_read
  past_said rises next line e =
      let (said, is_said, rest) = followed (number_after (codes "past") (words_on next.bytes)) _ line e in
      let (low, (above, steps)) = (entry_is rises next.is_ended said.0 said.1 line).0 rest in
      let (all, are, ends) = followed (steps_read graph (line_with said.0 []) said.1) _ line steps in
      let (ended, (closed, same)) = (end_is next.is_ended all line).0 ends in
      let (more, is, words, begun) = steps_said (line_with said.0 []) said.1 all are (begun_none graph said.0 low) in
      let bytes : next.bytes ≡ line_words (line_with said.0 more) =
      rw (words, flat_map-map (λ (word : List ℕ). 32 ∷ word) step_word more) at (words_back next.bytes (codes "past")
      (decimal said.0 ∷ said.1) (after_said (codes "past") (words_on next.bytes) said is_said)) in
      rw (sym same ∙ is)
      (λ i. text_line (bytes i) (ended i), record { begun = rw is at begun; closed = rw is at closed }, above)

  -- lines that are read are those of the proof
  pasts_said : (lines : List Line) (next : List TextLine) (all : List Line) → lines_read graph lines next ≡ Ok all →
      IsProofOf graph lines → (more : List Line) × (all ≡ lines ++ more)
      × (next ≡ map full (map line_words more)) × IsProofOf graph all
  pasts_said lines [] all e proof =
      let same : lines ≡ all = cc in ([], rw append-nil (sym same), refl, rw same at proof)
  pasts_said lines (first ∷ next) all e proof =
      let (line, is_line, rest) = followed_at (length lines + 3) (past_read graph (is_above lines) first) _ all e in
      let (is_first, own, rises) = past_said (is_above lines) first line is_line in
      let (more, are, text, is) = pasts_said (lines ++ line ∷ []) next all rest
      (proof_more graph lines line
      (λ l c. ltb-true l.entry line.entry (list_all_each (λ (l : Line). nat_lt l.entry line.entry) lines rises l c))
      own proof) in
      (line ∷ more, rw append_assoc at are, cc (is_first, text), is)

-- ---- bytes that are no separators

-- a decimal has no byte that is no digit
decimal_has_no : (s : ℕ) → ((d : ℕ) → d < 10 → 48 + d ≢ s) → (n : ℕ) → n < 2 ^ 64 → HasNo s (decimal n)
decimal_has_no s other n small =
    decimal_by_steps (λ n ds. HasNo s ds) (λ n l. rw (ne_eqb (48 + n) s (other n l)) refl)
    (λ n ds l none. rw (list_any-append, none, ne_eqb (48 + n % 10) s (other (n % 10) (omega arith))) refl) n small

-- numbers of 32 bits
abbrev IsSmall : ProofStep → Type 0
IsSmall step = (step.ancestor < 2 ^ 32) × (step.via < 2 ^ 32)

-- a step's word has no other byte than digits and the colon
step_has_no : (s : ℕ) → s < 48 → (step : ProofStep) → IsSmall step → HasNo s (step_word step)
step_has_no s low step small =
    let none = decimal_has_no s (λ d l e. omega arith) in
    let colon = ne_eqb 58 s (λ e. omega arith) in
    rw (list_any-append, none step.ancestor (omega arith), colon, none step.via (omega arith)) refl

-- a line's words have no newline
steps_have_no : (ss : List ProofStep) → All IsSmall ss → HasNo 10 (flat_map step_text ss)
steps_have_no [] small = refl
steps_have_no (s ∷ ss) small =
    let first = step_has_no 10 (omega arith) s (All-head IsSmall s ss small) in
    rw (list_any-append, first, steps_have_no ss (All-tail IsSmall s ss small)) refl

line_has_no : (line : Line) → line.entry < 2 ^ 64 → All IsSmall line.steps → HasNo 10 (line_words line)
line_has_no line low small =
    let number = decimal_has_no 10 (λ d l e. omega arith) line.entry low in
    rw (list_any-append, number, steps_have_no line.steps small) refl

-- ---- words of a proof are read

-- a number's decimal is read as the number
number_back : (word : List ℕ) (number : ℕ) → number < 2 ^ 32 → word ≡ decimal number → decimal_read word ≡ Ok number
number_back word number low is = ap (λ (o : Option ℕ). ok_or o Form) (number-found word number low is)

-- and a step's word as the step
step_back : (step : ProofStep) → IsSmall step → step_of_word (step_word step) ≡ Ok step
unfolding step_of_word
step_back step (low, low_via) =
    let none = decimal_has_no 58 (λ d l e. omega arith) step.ancestor (omega arith) in
    rw (
      number_back _ step.ancestor low (part_before 58 (decimal step.ancestor) (decimal step.via) none),
      number_back _ step.via low_via (part_after 58 (decimal step.ancestor) (decimal step.via) none),
    ) refl

-- a word and the words of steps
steps_words : (first : List ℕ) (steps : List ProofStep) → HasNo 32 first → All IsSmall steps →
    words_on (first ++ flat_map step_text steps) ≡ first ∷ map step_word steps
steps_words first [] none small = rw (append-nil first) (parts_last 32 first none)
steps_words first (s ∷ ss) none small =
    let next = step_has_no 32 (omega arith) s (All-head IsSmall s ss small) in
    rw (parts_at 32 first (step_word s ++ flat_map step_text ss) none)
    (ap (λ (ws : List (List ℕ)). first ∷ ws) (steps_words (step_word s) ss next (All-tail IsSmall s ss small)))

-- the number after this first word, and the words of steps after it
after_back : (first : List ℕ) (number : ℕ) (steps : List ProofStep) → HasNo 32 first → number < 2 ^ 32 →
    All IsSmall steps → number_after first (words_on (first ++ (32 ∷ (decimal number ++ flat_map step_text steps))))
    ≡ Ok (number, map step_word steps)
after_back first number steps none low small =
    let begins = parts_at 32 first (decimal number ++ flat_map step_text steps) none in
    let digits = decimal_has_no 32 (λ d l e. omega arith) number (omega arith) in
    let rest = steps_words (decimal number) steps digits small in
    rw (begins, rest, (bytes_eq-Decides first first).1 refl, number_back (decimal number) number low refl) refl

-- ---- lists of two parts

-- what is in two lists together before the first one's end is in the first
in_front : {X : Type 0} (xs ys : List X) (k : ℕ) (x : X) → k < length xs → slice_get (xs ++ ys) k ≡ Some x →
    slice_get xs k ≡ Some x
in_front [] ys k x low at = absurd (omega arith)
in_front (y ∷ xs) ys zero x low at = at
in_front (y ∷ xs) ys (suc k) x low at = in_front xs ys k x (omega arith) at

-- the first element of the second list comes right after the first list
at_seam : {X : Type 0} (xs ys : List X) (x : X) → slice_get (xs ++ x ∷ ys) (length xs) ≡ Some x
at_seam [] ys x = refl
at_seam (y ∷ xs) ys x = at_seam xs ys x

-- it is related to all before it
seam_related : {X : Type 0} (R : X → X → Type 0) (xs ys : List X) (x : X) → AllPairs R (xs ++ x ∷ ys) → (y : X) →
    Contains xs y → R y x
seam_related R xs ys x all y (k, low, is) =
    rw (get_or_append_left xs (x ∷ ys) y k low, is, get_or_at xs x ys y (length xs) refl)
    at (all k (length xs) y low (omega (arith, length-append xs (x ∷ ys))))

-- ---- lines of a proof are read

module _ (graph : Graph) where
  -- the next step of a line fits
  fits_back : (entry : ℕ) (steps : List ProofStep) (t : ProofStep) (ts : List ProofStep) →
      IsBegun graph (line_with entry (steps ++ t ∷ ts)) → Fits graph (line_with entry steps) t
  fits_back entry steps t ts is =
      let whole : Line = line_with entry (steps ++ t ∷ ts) in
      let at = at_seam steps ts t in
      let reached = is.reached (length steps) t at in
      let low = is.inside t.ancestor (inr (place_listed whole.steps (length steps) t at)) in
      let low_via = is.inside t.via (reached_on_line whole (length steps) t.via reached) in
      let below = seam_related (λ (a b : ProofStep). b.ancestor < a.ancestor) steps ts t is.falls in
      ((low, low_via), (below, (on reached, is.arrows (length steps) t at)))
    where
      -- what is reached before it is on the shorter line
      on : IsReached (line_with entry (steps ++ t ∷ ts)) (length steps) t.via → IsOnLine (line_with entry steps) t.via
      on (inl same) = inl same
      on (inr (j, earlier, low, there, same)) =
          inr (rw same at (place_listed steps j earlier (in_front steps (t ∷ ts) j earlier low there)))

  -- so do all that follow
  steps_back : (entry : ℕ) (steps more : List ProofStep) → All IsSmall more →
      IsBegun graph (line_with entry (steps ++ more)) →
      steps_read graph (line_with entry steps) (map step_word more) ≡ Ok (line_with entry (steps ++ more))
  steps_back entry steps [] small is = rw (append-nil steps) refl
  steps_back entry steps (t ∷ ts) small is =
      let same : steps ++ t ∷ ts ≡ (steps ++ t ∷ []) ++ ts = sym (append_assoc steps (t ∷ []) ts) in
      let fits = (fits_is graph (line_with entry steps) t).1 (fits_back entry steps t ts is) in
      rw (step_back t (All-head IsSmall t ts small), fits, same)
      (steps_back entry (steps ++ t ∷ []) ts (All-tail IsSmall t ts small) (rw same at is))

  module _ (few : graph.count ≤ 16384) where
    -- the numbers of a line are small
    small_steps : (line : Line) → IsBegun graph line → All IsSmall line.steps
    small_steps line begun k d low = let small = numbers_inside graph line begun k d low in (omega arith, omega arith)

    -- a line that rises is read
    past_back : (rises : ℕ → Bool) (line : Line) → IsLineOf graph line → rises line.entry ≡ true →
        past_read graph rises (full (line_words line)) ≡ Ok line
    unfolding past_read
    past_back rises line is above =
        let low = is.begun.inside line.entry (inl refl) in
        let small = small_steps line is.begun in
        let ends = (end_is graph true line line).1 (refl, (is.closed, refl)) in
        rw (after_back (codes "past") line.entry line.steps refl (omega arith) small)
        ((entry_is graph rises true line.entry (map step_word line.steps) line).1
        (low, (above, rw (steps_back line.entry [] line.steps small is.begun) ends)))

    -- so are the lines of a proof
    pasts_back : (lines more : List Line) → IsProofOf graph (lines ++ more) →
        lines_read graph lines (map full (map line_words more)) ≡ Ok (lines ++ more)
    pasts_back lines [] is = rw (append-nil lines) refl
    pasts_back lines (l ∷ ls) is =
        let same : lines ++ l ∷ ls ≡ (lines ++ l ∷ []) ++ ls = sym (append_assoc lines (l ∷ []) ls) in
        let own = All-contains (IsLineOf graph) (lines ++ l ∷ ls) l is.each (Contains-middle lines l ls) in
        let above : is_above lines l.entry ≡ true =
        list_all_from_each (λ (k : Line). nat_lt k.entry l.entry) lines
        (λ k c. lt-ltb k.entry l.entry (seam_related (λ (a b : Line). a.entry < b.entry) lines ls l is.rises k c)) in
        rw (past_back (is_above lines) l own above, same) (pasts_back (lines ++ l ∷ []) ls (rw same at is))

-- ---- the text

-- the bytes of an ended line
abbrev ended : List ℕ → List ℕ
ended bytes = bytes ++ 10 ∷ []

-- the line of the number of survivors
abbrev entries : ℕ → List ℕ
entries count = codes "entries " ++ decimal count

-- the lines of a proof's text
abbrev texts : ℕ → List Line → List (List ℕ)
texts count lines = codes "proof 1" ∷ entries count ∷ map line_words lines

-- a proof's text is these lines, ended
text_is : (count : ℕ) (lines : List Line) → proof_text count lines ≡ flat_map ended (texts count lines)
text_is count lines =
    rw (flat_map-map ended line_words lines) (append_assoc form_line (survivors_line count) (flat_map line_text lines)
    ∙ ap (λ (xs : List ℕ). form_line ++ (xs ++ flat_map line_text lines))
    (sym (append_assoc (codes "entries ") (decimal count) (10 ∷ []))))

-- a text of lines without newlines has these lines
lines_have : (ws : List (List ℕ)) → All (HasNo 10) ws → lines_in (flat_map ended ws) ≡ map full ws
lines_have [] none = refl
lines_have (w ∷ ws) none =
    let first = lines_at w (flat_map ended ws) (All-head (HasNo 10) w ws none) in
    rw (append_assoc w (10 ∷ []) (flat_map ended ws), first, lines_have ws (All-tail (HasNo 10) w ws none)) refl

-- no line of a proof's text has one
text_has_no : (graph : Graph) → graph.count ≤ 16384 → (lines : List Line) → IsProofOf graph lines →
    All (HasNo 10) (texts graph.count lines)
text_has_no graph few lines proof =
    All-cons (HasNo 10) (codes "proof 1") (entries graph.count ∷ map line_words lines) refl
    (All-cons (HasNo 10) (entries graph.count) (map line_words lines)
    (decimal_has_no 10 (λ d l e. omega arith) graph.count (omega arith))
    (All-map (HasNo 10) line_words lines (All-weaker (IsLineOf graph) (λ line. HasNo 10 (line_words line)) (λ line is.
    let low = is.begun.inside line.entry (inl refl) in
    line_has_no line (omega arith) (small_steps graph few line is.begun)) lines proof.each)))

-- the second line is read
count_back : (count : ℕ) → count ≤ 16384 → count_read count (full (entries count)) ≡ Ok tt
unfolding count_read
count_back count few =
    subst (λ (xs : List ℕ). count_read count (full (codes "entries " ++ xs)) ≡ Ok tt) (append-nil (decimal count))
    (rw (after_back (codes "entries") count [] refl (omega arith) (All-nil IsSmall), eq-eqb count count refl) refl)

-- and nothing else is
form_said : (line : TextLine) → form_read line ≡ Ok tt → line ≡ full (codes "proof 1")
unfolding form_read
form_said line e =
    let (words, is_ended) = (needed _ Form (Decides-and _ _ (bytes_eq-Decides line.bytes (codes "proof 1"))
    (itself line.is_ended))).0 e in
    λ i. text_line (words i) (is_ended i)

count_said : (count : ℕ) (line : TextLine) → count_read count line ≡ Ok tt → line ≡ full (entries count)
unfolding count_read
count_said count line e =
    let (said, is_said, rest) = followed (number_after (codes "entries") (words_on line.bytes)) _ tt e in
    let (same, (none, is_ended)) = (needs _ WrongCount _ tt (Decides-eqb said.0 count)
    (needed _ Form (Decides-and _ _ (Decides-eqb (length said.1) 0) (itself line.is_ended)))).0 rest in
    let bytes : line.bytes ≡ entries count =
    rw (nil_from_length said.1 none, same, append-nil (decimal count)) at (words_back line.bytes (codes "entries")
    (decimal said.0 ∷ said.1) (after_said (codes "entries") (words_on line.bytes) said is_said)) in
    λ i. text_line (bytes i) (is_ended i)

-- what comes after a line that is read
after_line_said : (read : TextLine → ProofRead (Unit {0})) (lines left : List TextLine) →
    after_line read lines ≡ Ok left → (line : TextLine) × (read line ≡ Ok tt) × (lines ≡ line ∷ left)
after_line_said read [] left e = cc
after_line_said read (line ∷ lines) left e =
    let (it, is, rest) = followed (read line) _ left e in
    let same : lines ≡ left = cc in (line, is, cc)

-- what is read as a proof is its text
pub text_said : (graph : Graph) (bytes : List ℕ) (lines : List Line) → proof_of graph bytes ≡ Ok lines →
    IsTextFor graph bytes lines
unfolding proof_of
text_said graph bytes lines e =
    let (second, first, rest) = followed_at 1 (after_line form_read (lines_in bytes)) _ lines e in
    let (pasts, next, others) = followed_at 2 (after_line (count_read graph.count) second) _ lines rest in
    let (form, is_form, in_bytes) = after_line_said form_read (lines_in bytes) second first in
    let (count, is_count, in_second) = after_line_said (count_read graph.count) second pasts next in
    let (more, are, in_pasts, proof) = pasts_said graph [] pasts lines others (proof_none graph) in
    let all : lines_in bytes ≡ map full (texts graph.count lines) =
    in_bytes ∙ cc (
      form_said form is_form,
      count_said graph.count count is_count,
      ap (λ (ls : List Line). map full (map line_words ls)) are,
    ) in (
      sym (lines_back bytes) ∙ ap (flat_map line_bytes) all
          ∙ flat_map-map line_bytes full (texts graph.count lines) ∙ sym (text_is graph.count lines),
      proof,
    )

-- and a proof's text is read as the proof
pub text_back : (graph : Graph) → graph.count ≤ 16384 → (bytes : List ℕ) (lines : List Line) →
    IsTextFor graph bytes lines → proof_of graph bytes ≡ Ok lines
unfolding proof_of form_read
text_back graph few bytes lines (text, proof) =
    let have = lines_have (texts graph.count lines) (text_has_no graph few lines proof) in
    let are = ap lines_in (text ∙ text_is graph.count lines) ∙ have in
    rw (are, count_back graph.count few, pasts_back graph few [] lines proof) refl

-- the law of texts
pub texts_of_proofs_are_read : TextsOfProofsAreRead
texts_of_proofs_are_read graph few bytes lines = (text_said graph bytes lines, text_back graph few bytes lines)

-- what is answered of a text is what it is read as, unless memory runs out
pub read_as : (graph : Graph) → graph.count ≤ 16384 → (bytes : List ℕ) (answer : Result (List Line) ProofFault) →
    IsReadAnswer graph bytes answer → answer ≢ Err Memory → proof_of graph bytes ≡ answer
read_as graph few bytes (Ok lines) is some = text_back graph few bytes lines is
read_as graph few bytes (Err (At line why)) is some = is
read_as graph few bytes (Err Memory) is some = absurd (some refl)

-- so there is one answer
pub proofs_are_read_in_one_way : TextsAreReadInOneWay
proofs_are_read_in_one_way graph few bytes answer again is some also others =
    sym (read_as graph few bytes answer is some) ∙ read_as graph few bytes again also others
