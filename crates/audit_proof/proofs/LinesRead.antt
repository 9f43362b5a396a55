-- The lines of a text, read by their places: on each, words one by one, what is reached standing in a table.
use Rattle.audit_proof.proofs.Imports
use Imports.{All-push, At, Bool, Decides-like, Decides-ltb, Err, Form, Graph, IsListedTable, IsReadAnswer, IsReading}
use Imports.{IsReadingLines, IsWordsAnswer, Line, LineAt, List, Memory, Ok, ProofFault, ProofRead, ProofStep, ProofWhy}
use Imports.{Result, TextLine, Told, Unread, [], after_line, and_right, arith, at_number, bytes_eq, cases_lt, closed_at}
use Imports.{count_read, decimal_read, drop, drop_all, drop_more, false, false_from_ne_true, fault_of}
use Imports.{first_from, form_read, inl, inr, is_above, is_on_line, lacks_no_parent, le-leb, le-ltb, leb-true, length}
use Imports.{length-set, length-slice_split, line_from, line_of_entry, line_with, lines_in, lines_read, list_all}
use Imports.{list_all-append, list_any, listed_in, lt-leb, lt-ltb, ltb-true, nat_le, nat_lt, ne_eqb, need, number_after}
use Imports.{past_read, position_or_len, proof_of, refl, same_from_decides, slice_set, spaced, step_fits, step_of_word}
use Imports.{step_tests, steps_read, sym, take, text_line, true, words_on, ℕ, ◌&&◌, ◌++◌, ◌+◌, ◌-◌, ◌<◌, ◌==◌, ◌>>=◌}
use Imports.{◌∙◌, ◌∷◌, ◌≡◌, ◌≢◌, ◌≤◌}
use Rattle.audit_proof.proofs.LineFacts.{Fits, all_decides, in_decides, listed_below, listed_new, more_on, on_decides}
use Rattle.audit_proof.proofs.LineFacts.{on_more, set_says}
use Rattle.audit_proof.proofs.Parts.{is_byte, next_line, next_word, words_taken}
use Rattle.audit_proof.proofs.ReadTexts.{fits_is, past_said, text_said}
use Rattle.audit_proof.specs.declared.reading.Unread.TheVariants.{Why, Memory as OutOfMemory}

-- ---- the words after a line's entry

module _ {graph : Graph} {entry : ℕ} {words : List ℕ} {steps : List ProofStep} {reached : List Bool} {bound at : ℕ}
    (reading : IsReading graph entry words steps reached bound at) where
  -- by the table and the bound a step is tried as by the line
  tests_fit : (step : ProofStep) →
      step_tests graph reached bound step ≡ step_fits graph (line_with entry steps) step
  unfolding step_tests step_fits
  tests_fit step =
      elim (nat_lt step.ancestor graph.count) as (λ low. nat_lt step.ancestor graph.count ≡ low →
      step_tests graph reached bound step ≡ step_fits graph (line_with entry steps) step) [
        | true ↦ λ low.
            rw (reading.bounded step.ancestor (ltb-true step.ancestor graph.count low), reading.shows step.via) refl
        | false ↦ λ over. rw over refl
      ] refl

  -- a step that fits
  fitting : (step : ProofStep) → step_tests graph reached bound step ≡ Ok tt → Fits graph (line_with entry steps) step
  fitting step fits = (fits_is graph (line_with entry steps) step).0 (sym (tests_fit step) ∙ fits)

  -- is within the table
  pub fits_below : (step : ProofStep) → step_tests graph reached bound step ≡ Ok tt → step.ancestor < length reached
  fits_below step fits = let low = (fitting step fits).0.0 in omega (arith, reading.each)

  module _ {end : ℕ} {word : List ℕ} (starts : at < length words) (ends : end ≡ first_from 32 (at + 1) words)
      (is : word ≡ take (end - (at + 1)) (drop (at + 1) words)) where
    -- this word is the next
    at_word : steps_read graph (line_with entry []) (spaced words)
        ≡ steps_read graph (line_with entry steps) (word ∷ spaced (drop end words))
    at_word = reading.goes_on ∙ rw (next_word words at starts, sym ends, sym is) refl

    -- it is no step
    pub word_refused : (why : ProofWhy) → step_of_word word ≡ Err why →
        steps_read graph (line_with entry []) (spaced words) ≡ Err why
    word_refused why e = at_word ∙ rw e refl

    module _ (step : ProofStep) (said : step_of_word word ≡ Ok step) where
      -- it is a step that doesn't fit
      pub step_refused : (why : ProofWhy) → step_tests graph reached bound step ≡ Err why →
          steps_read graph (line_with entry []) (spaced words) ≡ Err why
      step_refused why e = at_word ∙ rw (said, sym (tests_fit step) ∙ e) refl

      -- it is one that fits
      pub reading_more : step_tests graph reached bound step ≡ Ok tt → step.ancestor < step.via → end ≤ length words →
          IsReading graph entry words (steps ++ step ∷ []) (slice_set reached step.ancestor true) step.ancestor end
      reading_more fits lower inside_end =
          let (low, (falls, (on, _))) = fitting step fits in
          let more = line_with entry (steps ++ step ∷ []) in
          let falls_all = (all_decides _ (λ (s : ProofStep). step.ancestor < s.ancestor) steps
          (λ s. Decides-ltb step.ancestor s.ancestor)).1 falls in
          let inside_bound = ltb-true step.ancestor bound (sym (reading.bounded step.ancestor low.0) ∙ falls_all) in
          record {
            within = inside_end;
            goes_on = at_word ∙ rw (said, sym (tests_fit step) ∙ fits) refl;
            each = length-set reached step.ancestor true ∙ reading.each;
            shows = λ x. set_says (λ b. b) (is_on_line (line_with entry steps)) (is_on_line more) reached step.ancestor
                true false (omega (arith, reading.each))
                (sym ((on_decides more step.ancestor).1 (inr (listed_new entry steps step))))
                (λ y other. same_from_decides _ _ (on_decides (line_with entry steps) y) (Decides-like _
                (λ it. elim (on_more entry steps step y it) [ inl old ↦ old | inr new ↦ absurd (other (sym new)) ])
                (more_on entry steps step y) (on_decides more y))) x (reading.shows x);
            bounded = λ x inside.
                rw (list_all-append (λ earlier. nat_lt x earlier.ancestor) steps (step ∷ []), reading.bounded x inside)
                (elim (cases_lt x step.ancestor) [
                  | inl less ↦ rw (lt-ltb x step.ancestor less, lt-ltb x bound (omega arith)) refl
                  | inr over ↦ rw (le-ltb x step.ancestor over) (and_right (nat_lt x bound) false refl)
                ]);
            below = All-push (λ (s : ProofStep). s.ancestor < entry) steps step reading.below (elim on [
              | inl same ↦ omega arith
              | inr c ↦ omega (arith, listed_below steps entry step.via reading.below c)
            ]);
          }

  -- without the entry the table shows what is listed
  pub listed_table : entry < graph.count → IsListedTable steps (slice_set reached entry false)
  listed_table inside x =
      set_says (λ b. b) (is_on_line (line_with entry steps)) (λ y. list_any (λ z. z == y) (listed_in steps)) reached
      entry false false (omega (arith, reading.each))
      (sym (false_from_ne_true _ (λ e.
      omega (arith, listed_below steps entry entry reading.below ((in_decides (listed_in steps) entry).0 e)))))
      (λ y other. rw (ne_eqb y entry other) refl) x (reading.shows x)

  -- after the last word all are read
  pub words_end : length words ≤ at →
      steps_read graph (line_with entry []) (spaced words) ≡ Ok (line_with entry steps)
  words_end over = reading.goes_on ∙ rw (drop_all at words over) refl

-- ---- words

module _ (first line : List ℕ) where
  abbrev space : ℕ
  space = position_or_len (is_byte 32) line

  -- a line of one word
  pub one_word : space ≡ length line → number_after first (words_on line) ≡ Err Form
  one_word over = rw (words_taken line, drop_all space line (omega arith)) refl

  -- a line of more
  pub two_words : space < length line → number_after first (words_on line)
      ≡ (need (bytes_eq (take space line) first) Form
      >>= λ it. decimal_read (take (first_from 32 (space + 1) line - (space + 1)) (drop (space + 1) line))
      >>= λ value. Ok (value, spaced (drop (first_from 32 (space + 1) line) line)))
  two_words inside = rw (words_taken line, next_word line space inside) refl

-- words follow a number exactly where the line goes on
pub words_follow : (line : List ℕ) (end : ℕ) → (length (spaced (drop end line)) == 0) ≡ nat_le (length line) end
words_follow line end = elim (cases_lt end (length line)) [
  | inl inside ↦
      let size = length-slice_split (is_byte 32) (drop (end + 1) line) in
      rw (drop_more line end 0 inside, lt-leb (length line) end inside)
      (ne_eqb (length (words_on (drop (end + 1) line))) 0 (λ none. omega arith))
  | inr over ↦ rw (drop_all end line over, le-leb (length line) end over) refl
]

-- ---- the first two lines

-- one of them, by its place: no line is as little one as a line of nothing
first_line : (bytes : List ℕ) (start : ℕ) (found : LineAt) → found ≡ line_from bytes start →
    (read : TextLine → ProofRead (Unit {0})) → read (text_line [] false) ≡ Err Form →
    after_line read (lines_in (drop start bytes))
    ≡ (read (text_line (take (found.end - start) (drop start bytes)) found.is_ended)
    >>= λ it. Ok (lines_in (drop found.next bytes)))
first_line bytes start found is read nothing = elim (cases_lt start (length bytes)) [
  | inl inside ↦ rw (next_line bytes start found is inside) refl
  | inr over ↦
      let size : start + 0 - start ≡ 0 = omega arith in
      rw (is, drop_all start bytes over, le-ltb (start + 0) (length bytes) (omega arith), size, nothing) refl
]

-- ---- the line of an entry

-- a table of what is listed shows whether a parent is missing
pub closed_by : (graph : Graph) (entry : ℕ) (steps : List ProofStep) (listed : List Bool) → IsListedTable steps listed →
    lacks_no_parent graph (line_with entry steps)
    ≡ (closed_at listed (graph.parents entry) && list_all (λ y. closed_at listed (graph.parents y)) (listed_in steps))
closed_by graph entry steps listed table = simp table

-- what is read of words that are refused
pub words_refused : (graph : Graph) (rises : ℕ → Bool) (ended : Bool) (entry : ℕ) (bytes words : List ℕ)
    (unread : Unread) → words ≡ bytes → entry < graph.count → rises entry ≡ true →
    IsWordsAnswer graph entry words (Err unread) →
    Told (line_of_entry graph rises ended (entry, spaced bytes)) (Err unread)
unfolding line_of_entry
words_refused graph rises ended entry bytes words (Why why) same low above is =
    rw (lt-ltb entry graph.count low, above, rw same at is) refl
words_refused graph rises ended entry bytes words OutOfMemory same low above is = tt

-- ---- the lines of survivors

module _ {graph : Graph} {bytes : List ℕ} {start : ℕ} {lines : List Line} {least at : ℕ}
    (reading : IsReadingLines graph bytes start lines least at) {found : LineAt} (is : found ≡ line_from bytes at)
    (inside : at < length bytes) {piece : List ℕ} (taken : piece ≡ take (found.end - at) (drop at bytes)) where
  -- this line is the next
  at_line : (read : ProofRead Line) → past_read graph (nat_le least) (text_line piece found.is_ended) ≡ read →
      lines_read graph [] (lines_in (drop start bytes)) ≡ (at_number (length lines + 3) read
      >>= λ line. lines_read graph (lines ++ line ∷ []) (lines_in (drop found.next bytes)))
  at_line read e =
      let rises : is_above lines ≡ nat_le least = λ i x. reading.rises x i in
      reading.goes_on ∙ rw (next_line bytes at found is inside, sym taken, rises, e) refl

  -- it is refused
  pub line_refused : (unread : Unread) (n : ℕ) → n ≡ length lines →
      Told (past_read graph (nat_le least) (text_line piece found.is_ended)) (Err unread) →
      ◌≢◌ {A = Result (List Line) ProofFault} (Err (fault_of (n + 3) unread)) (Err Memory) →
      Err (fault_of (n + 3) unread) ≡ lines_read graph [] (lines_in (drop start bytes))
  line_refused (Why why) n same e some = rw same (sym (at_line (Err why) e))
  line_refused OutOfMemory n same e some = absurd (some refl)

  -- it is read
  pub lines_more : (line : Line) → past_read graph (nat_le least) (text_line piece found.is_ended) ≡ Ok line →
      found.next ≤ length bytes → IsReadingLines graph bytes start (lines ++ line ∷ []) (line.entry + 1) found.next
  lines_more line e inside_next =
      let low = leb-true least line.entry (past_said graph (nat_le least) _ line e).2 in
      record {
        within = inside_next;
        goes_on = at_line (Ok line) e;
        rises = λ x.
            rw (list_all-append (λ (l : Line). nat_lt l.entry x) lines (line ∷ []), reading.rises x)
            (elim (cases_lt line.entry x) [
              | inl less ↦
                  let above = le-leb (line.entry + 1) x (omega arith) in
                  rw (lt-ltb line.entry x less, le-leb least x (omega arith), above) refl
              | inr over ↦
                  rw (le-ltb line.entry x over, lt-leb (line.entry + 1) x (omega arith))
                  (and_right (nat_le least x) false refl)
            ]);
      }

-- ---- the entire text

-- nothing has not the form of the first line
no_form : form_read (text_line [] false) ≡ Err Form
unfolding form_read
no_form = refl

-- and not of the second
no_count : (count : ℕ) → count_read count (text_line [] false) ≡ Err Form
unfolding count_read
no_count count = refl

module _ (graph : Graph) (bytes : List ℕ) {first : LineAt} (is_first : first ≡ line_from bytes 0) {line : List ℕ}
    (is_line : line ≡ take (first.end - 0) bytes) where
  -- a text by what is read of its first line
  pub by_form : (form : ProofRead (Unit {0})) → form ≡ form_read (text_line line first.is_ended) → proof_of graph bytes
      ≡ (at_number 1 (form >>= λ it. Ok (lines_in (drop first.next bytes)))
      >>= λ second. at_number 2 (after_line (count_read graph.count) second) >>= λ pasts. lines_read graph [] pasts)
  unfolding proof_of
  by_form form is = rw (first_line bytes 0 first is_first form_read no_form, sym is_line, sym is) refl

  -- and of its second
  pub by_count : Ok tt ≡ form_read (text_line line first.is_ended) → {second : LineAt} →
      second ≡ line_from bytes first.next → {other : List ℕ} →
      other ≡ take (second.end - first.next) (drop first.next bytes) → {count : ℕ} → count ≡ graph.count →
      (head : ProofRead (Unit {0})) → head ≡ count_read count (text_line other second.is_ended) → proof_of graph bytes
      ≡ (at_number 2 (head >>= λ it. Ok (lines_in (drop second.next bytes))) >>= λ pasts. lines_read graph [] pasts)
  by_count form is_second is_other same head is =
      let next = first_line bytes first.next _ is_second (count_read graph.count) (no_count graph.count) in
      by_form (Ok tt) form ∙ rw (next, sym is_other, sym same, sym is) refl

-- the answer to a text is right if it is what the text is read as
pub answered : (graph : Graph) (bytes : List ℕ) (answer : Result (List Line) ProofFault) →
    (answer ≢ Err Memory → answer ≡ proof_of graph bytes) → IsReadAnswer graph bytes answer
answered graph bytes (Ok lines) is = text_said graph bytes lines (sym (is (λ e. cc)))
answered graph bytes (Err (At line why)) is = sym (is (λ e. cc))
answered graph bytes (Err Memory) is = tt

-- what the answers to an entire text need
pub ruleset answers = (by_form, by_count, answered)
