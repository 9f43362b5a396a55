-- Tables of a proof's lines, and the table of one line, step by step.
use Rattle.audit_proof.proofs.Imports
use Imports.{All, AllPairs, Bool, Contains, Falls, Graph, IsListingOf, IsProofOf, Line, List, Listing, None, ProofStep}
use Imports.{Row, Some, Trees, [], all_at, and-true, and_right, ap, append-nil, arith, before_by, cases_lt, cond}
use Imports.{eq-eqb, false, false_from_ne_true, false≢true, filter, filter_of_map_range_with_len_more, find-append}
use Imports.{first_value, get_or, get_or-append-add, get_or-replicate, get_or-set_other, get_or-take}
use Imports.{get_or_from_slice_get, get_or_past, inl, inr, is_whole_line, length, length-append, length-replicate}
use Imports.{length-set, length-take, list_all, list_all_each, list_all_from_each, list_any, list_any-append, listed_in}
use Imports.{listing_before, listing_whole, map-append, map-id, ne_eqb, not, not_from_false, option_or, or-false}
use Imports.{own_line, range_with_len, refl, replicate, same_values, slice_get, slice_get_within, slice_set, step_in}
use Imports.{steps_from, suc, sym, take, taken_more, three_by, true, unbound, unpacked, values, whole_by, zero, ℕ, ◌&&◌}
use Imports.{◌++◌, ◌+◌, ◌-◌, ◌<◌, ◌==◌, ◌||◌, ◌∙◌, ◌∷◌, ◌≡◌, ◌≢◌, ◌≤◌}
use Rattle.audit_proof.proofs.LineFacts.{a_step, falls_at, falls_to, in_decides, listed_place, numbers_inside}
use Rattle.audit_proof.proofs.LineFacts.{place_listed, set_says}
use Rattle.audit_proof.proofs.Trusted.{is_of, line_found, line_or_none}

-- ---- searching steps that fall

module _ (steps : List ProofStep) (y : ℕ) where
  -- y is at no place before `low` and at none from `high` on
  abbrev pub StandsBetween : ℕ → ℕ → Type 0
  StandsBetween low high =
      (low ≤ high) × (high ≤ length steps)
      × ((k : ℕ) (step : ProofStep) → slice_get steps k ≡ Some step → k < low → y < step.ancestor)
      × ((k : ℕ) (step : ProofStep) → slice_get steps k ≡ Some step → high ≤ k → step.ancestor < y)

  -- a step with y is found
  pub listed_at : (k : ℕ) (step : ProofStep) → slice_get steps k ≡ Some step → step.ancestor ≡ y →
      list_any (λ z. z == y) (listed_in steps) ≡ true
  listed_at k step at same = (in_decides (listed_in steps) y).1 (rw same at (place_listed steps k step at))

  -- where nothing is left between, y isn't listed
  pub none_between : (k : ℕ) → StandsBetween k k → list_any (λ z. z == y) (listed_in steps) ≡ false
  none_between k (_, _, above, below) = false_from_ne_true _ (λ is.
      let (j, step, at, same) = listed_place steps y ((in_decides (listed_in steps) y).0 is) in
      elim (cases_lt j k)
      [ inl low ↦ omega (arith, above j step at low) | inr high ↦ omega (arith, below j step at high) ])

  module _ (falls : Falls steps) (low high middle : ℕ) (step : ProofStep) (at : slice_get steps middle ≡ Some step)
      (inside : low ≤ middle) (below : middle < high) (between : StandsBetween low high) where
    -- above y the search goes on after the middle
    pub go_up : y < step.ancestor → StandsBetween (middle + 1) high
    go_up above = (
      omega arith,
      between.1,
      λ k other there l.
          omega (arith, falls_to steps falls k middle other step (omega arith) there at),
      between.3,
    )

    -- below y the search goes on before the middle
    pub go_down : step.ancestor < y → StandsBetween low middle
    go_down under = (
      inside,
      omega arith,
      between.2,
      λ k other there l.
          omega (arith, falls_to steps falls middle k step other l at there),
    )

-- ---- the table of all lines

module _ (ragged : ℕ → Bool) (lines : List Line) (count : ℕ) where
  -- what the first k lines say of each survivor
  pub record IsTable (numbers : List ℕ) (wholes : List Bool) (k : ℕ) : Type 0 where
    pub numbers_all : length numbers ≡ count
    pub wholes_all : length wholes ≡ count
    pub found : (x : ℕ) → x < count → slice_get lines (get_or numbers x 0) ≡ own_line (take k lines) x
    pub whole : (x : ℕ) → x < count → get_or wholes x false ≡ is_whole_line ragged (own_line (take k lines) x)

  module _ (rises : AllPairs (λ (earlier later : Line). earlier.entry < later.entry) lines) (k : ℕ) (line : Line)
      (at : slice_get lines k ≡ Some line) where
    -- with one line more, what is found for x is what was, or else this line where it is of x
    found_more : (x : ℕ) → own_line (take (k + 1) lines) x
        ≡ option_or (own_line (take k lines) x) (cond (line.entry == x) (Some line) None)
    found_more x =
        let is = sym (get_or_from_slice_get lines k line line at) in
        rw (taken_more lines k line (slice_get_within lines k line at) is)
        (find-append (is_of x) (take k lines) (line ∷ []))

    -- another survivor has the line that it had
    other_line : (x : ℕ) → x ≢ line.entry → own_line (take k lines) x ≡ own_line (take (k + 1) lines) x
    other_line x apart =
        rw (found_more x, ne_eqb line.entry x (λ e. apart (sym e)))
        (elim (own_line (take k lines) x) as (λ o. o ≡ option_or o None) [ None ↦ refl | Some found ↦ refl ])

    -- its own survivor had none, and has it now
    own_now : Some line ≡ own_line (take (k + 1) lines) line.entry
    own_now = elim (line_or_none (own_line (take k lines) line.entry)) [
      | inl none ↦ rw (found_more line.entry, none, eq-eqb line.entry line.entry refl) refl
      | inr (other, is) ↦
          let ((j, low, there), same) = line_found (take k lines) line.entry other is in
          let before : j < k = omega (arith, low, length-take k lines) in
          let less = rises j k other before (slice_get_within lines k line at) in
          let risen =
          rw (sym (get_or-take k lines j other before) ∙ there, get_or_from_slice_get lines k line other at) at less in
          absurd (omega (arith, risen, same))
    ]

    -- so its number and whether it is whole are entered for its survivor
    pub table_more : (numbers : List ℕ) (wholes : List Bool) → line.entry < count → IsTable numbers wholes k →
        IsTable (slice_set numbers line.entry k) (slice_set wholes line.entry (is_whole_line ragged (Some line)))
        (k + 1)
    table_more numbers wholes inside table =
        let was = own_line (take k lines) in
        let now = own_line (take (k + 1) lines) in
        let whole = is_whole_line ragged in
        record {
          numbers_all = length-set numbers line.entry k ∙ table.numbers_all;
          wholes_all = length-set wholes line.entry (whole (Some line)) ∙ table.wholes_all;
          found = λ x l. set_says (slice_get lines) was now numbers line.entry k 0 (omega arith) (at ∙ own_now)
              other_line x (table.found x l);
          whole = λ x l. set_says (λ b. b) (λ z. whole (was z)) (λ z. whole (now z)) wholes line.entry
              (whole (Some line)) false (omega arith) (ap whole own_now) (λ z apart. ap whole (other_line z apart)) x
              (table.whole x l);
        }

-- what is in a place of a proof is a line of survivors
pub line_inside : (graph : Graph) (lines : List Line) → IsProofOf graph lines → (k : ℕ) (line : Line) →
    k < length lines → line ≡ get_or lines k line →
    (line.entry < graph.count) × All (λ step. step.ancestor < graph.count) line.steps
line_inside graph lines proof k line low is =
    let begun = (rw (sym is) at (proof.each k line low)).begun in
    (begun.inside line.entry (inl refl), λ j d within. (numbers_inside graph line begun j d within).0)

-- by a table of a proof's lines a rule has the value that it has by the proof
pub by_listing : (rows : List Row) (graph : Graph) (lines : List Line) (listing : Listing) →
    length rows ≡ graph.count → IsListingOf graph lines listing → (rule : Trees) →
    first_value (values rows (listing_before listing) (listing_whole listing) rule unbound)
    ≡ three_by rows graph.ragged lines rule
by_listing rows graph lines listing as_many is rule =
    ap first_value (same_values rows (listing_before listing) (before_by graph.ragged lines) (listing_whole listing)
    (whole_by graph.ragged lines) (λ y x l. rw (is.found x (omega arith), is.whole x (omega arith)) refl)
    (λ x l. is.whole x (omega arith)) rule unbound (λ v. tt))

-- ---- the places of a kind

-- one place more
pub kinds_more : (p : ℕ → Bool) (i : ℕ) →
    filter p (range_with_len 0 (i + 1)) ≡ filter p (range_with_len 0 i) ++ cond (p i) (i ∷ []) []
kinds_more p i =
    rw (map-id (range_with_len 0 (i + 1)), map-id (range_with_len 0 i))
    at (filter_of_map_range_with_len_more p (λ (j : ℕ). j) 0 i i (omega arith))

-- ---- what the table of a line lists

-- the first place of a table lists itself, if a step is there
first_lists : (place y code : ℕ) (codes : List ℕ) →
    list_any (λ z. z == y) (listed_in (steps_from place (code ∷ codes)))
    ≡ (list_any (λ z. z == y) (listed_in (steps_from (place + 1) codes)) || (not (code == 0) && (place == y)))
first_lists place y code codes =
    ap (list_any (λ z. z == y)) (map-append (λ (s : ProofStep). s.ancestor) (steps_from (place + 1) codes) _)
    ∙ list_any-append (λ z. z == y) (listed_in (steps_from (place + 1) codes)) _
    ∙ ap (λ (b : Bool). list_any (λ z. z == y) (listed_in (steps_from (place + 1) codes)) || b)
    (elim (code == 0) as (λ b. list_any (λ z. z == y) (listed_in (cond b [] (a_step place (code - 1) ∷ [])))
    ≡ (not b && (place == y))) [ true ↦ refl | false ↦ or-false (place == y) ])

-- nothing before its first place is listed
none_earlier : (codes : List ℕ) (place y : ℕ) → y < place →
    list_any (λ z. z == y) (listed_in (steps_from place codes)) ≡ false
none_earlier [] place y less = refl
none_earlier (code ∷ codes) place y less =
    first_lists place y code codes
    ∙ rw (none_earlier codes (place + 1) y (omega arith), ne_eqb place y (λ e. omega arith))
    (and_right (not (code == 0)) false refl)

-- a place is listed if and only if something is there
listed_from : (codes : List ℕ) (place j y : ℕ) → y ≡ place + j →
    list_any (λ z. z == y) (listed_in (steps_from place codes)) ≡ not (get_or codes j 0 == 0)
listed_from [] place j y is = refl
listed_from (code ∷ codes) place zero y is =
    first_lists place y code codes
    ∙ rw (none_earlier codes (place + 1) y (omega arith), eq-eqb place y (omega arith)) (and-true (not (code == 0)))
listed_from (code ∷ codes) place (suc j) y is =
    let rest = listed_from codes (place + 1) j y (omega arith) in
    first_lists place y code codes
    ∙ rw (rest, ne_eqb place y (λ e. omega arith), and_right (not (code == 0)) false refl)
    (or-false (not (get_or codes j 0 == 0)))

-- so it is with the whole table
pub table_lists : (codes : List ℕ) (y : ℕ) →
    not (get_or codes y 0 == 0) ≡ list_any (λ z. z == y) (listed_in (unpacked codes))
table_lists codes y = sym (listed_from codes 0 y y (omega arith))

-- what is listed is within the table
pub listed_inside : (codes : List ℕ) (y : ℕ) → Contains (listed_in (unpacked codes)) y → y < length codes
listed_inside codes y c = elim (cases_lt y (length codes)) [
  | inl inside ↦ inside
  | inr over ↦
      let there = table_lists codes y ∙ (in_decides (listed_in (unpacked codes)) y).1 c in
      absurd (false≢true (rw (get_or_past codes y 0 over) at there))
]

-- where something that is listed is ragged, not all is even
pub ragged_listed : (ragged : ℕ → Bool) (xs : List ℕ) (y : ℕ) → list_any (λ z. z == y) xs ≡ true → ragged y ≡ true →
    list_all (λ z. not (ragged z)) xs ≡ false
ragged_listed ragged xs y there is = false_from_ne_true _ (λ all.
    let even = list_all_each (λ z. not (ragged z)) xs all y ((in_decides xs y).0 there) in
    false≢true (rw is at even))

-- where nothing is of what the table's places list, all is
pub even_table : (ragged : ℕ → Bool) (codes : List ℕ) → ((y : ℕ) → y < length codes →
    list_any (λ z. z == y) (listed_in (unpacked codes)) ≡ true → ragged y ≡ false) →
    list_all (λ y. not (ragged y)) (listed_in (unpacked codes)) ≡ true
even_table ragged codes each = list_all_from_each _ _ (λ y c.
    not_from_false (ragged y) (each y (listed_inside codes y c) ((in_decides (listed_in (unpacked codes)) y).1 c)))

-- ---- a table of a line that is made, step by step

-- a blank table has no steps
blank_table : (n place : ℕ) → steps_from place (replicate n 0) ≡ []
blank_table zero place = refl
blank_table (suc n) place = append-nil (steps_from (place + 1) (replicate n 0)) ∙ blank_table n (place + 1)

-- the step that is entered at a place
entered_here : (place via : ℕ) → step_in place (via + 1) ≡ a_step place via ∷ []
entered_here place via =
    let less : via + 1 - 1 ≡ via = omega arith in rw (ne_eqb (via + 1) 0 (λ e. omega arith), less) refl

-- a step that is entered below all others comes last
entered_last : (codes : List ℕ) (place a via : ℕ) → a < length codes → ((j : ℕ) → j ≤ a → get_or codes j 0 ≡ 0) →
    steps_from place (slice_set codes a (via + 1)) ≡ steps_from place codes ++ a_step (place + a) via ∷ []
entered_last [] place a via within blank = absurd (omega arith)
entered_last (code ∷ codes) place zero via within blank =
    let none : code ≡ 0 = blank 0 (omega arith) in
    let same : place + 0 ≡ place = omega arith in
    rw (entered_here place via, none, same, append-nil (steps_from (place + 1) codes)) refl
entered_last (code ∷ codes) place (suc a) via within blank =
    let none : code ≡ 0 = blank 0 (omega arith) in
    let same : place + suc a ≡ place + 1 + a = omega arith in
    let rest = entered_last codes (place + 1) a via (omega arith) (λ j l. blank (suc j) (omega arith)) in
    rw (none, same, append-nil, append-nil) rest

module _ (steps : List ProofStep) where
  -- the table of the first i steps, with room for the others
  pub record IsTableOf (codes : List ℕ) (i : ℕ) : Type 0 where
    pub room : All (λ step. step.ancestor < length codes) steps
    pub done : unpacked codes ≡ take i steps
    pub blank : (k : ℕ) (step : ProofStep) → i ≤ k → slice_get steps k ≡ Some step → (j : ℕ) → j ≤ step.ancestor →
        get_or codes j 0 ≡ 0

  -- before the first step
  pub table_blank : (n : ℕ) → All (λ step. step.ancestor < n) steps → IsTableOf (replicate n 0) 0
  table_blank n within = record {
    room = rw (length-replicate {A = ℕ} n 0) within;
    done = blank_table n 0;
    blank = λ k step low at j below.
        let inside = all_at (λ (s : ProofStep). s.ancestor < n) steps k step within at in
        get_or-replicate n j 0 0 (omega arith);
  }

  -- one step more
  pub table_step : (codes : List ℕ) (i : ℕ) (step : ProofStep) → Falls steps → slice_get steps i ≡ Some step →
      IsTableOf codes i → IsTableOf (slice_set codes step.ancestor (step.via + 1)) (i + 1)
  table_step codes i step falls at made =
      let inside = all_at (λ (s : ProofStep). s.ancestor < length codes) steps i step made.room at in
      let here : 0 + step.ancestor ≡ step.ancestor = omega arith in
      record {
        room = rw (length-set codes step.ancestor (step.via + 1)) made.room;
        done = entered_last codes 0 step.ancestor step.via inside (made.blank i step (omega arith) at)
            ∙ rw (here, made.done) (sym (taken_more steps i step (slice_get_within steps i step at)
            (sym (get_or_from_slice_get steps i step step at))));
        blank = λ k other low there j below.
            let less = falls_at steps falls i k step other (omega arith) at there in
            get_or-set_other codes step.ancestor j (step.via + 1) 0 (λ e. omega arith)
            ∙ made.blank k other (omega arith) there j below;
      }

-- the first ancestor of steps that fall is the greatest
pub first_greatest : (steps : List ProofStep) (none : ProofStep) → Falls steps →
    All (λ step. step.ancestor < (get_or steps 0 none).ancestor + 1) steps
first_greatest [] none falls k d low = absurd (omega arith)
first_greatest (s ∷ ss) none falls zero d low = omega arith
first_greatest (s ∷ ss) none falls (suc k) d low =
    let less = falls zero (suc k) d (omega arith) low in omega arith

-- ---- lists of two parts

module _ (first second : List ProofStep) where
  -- what holds of all holds of the second part
  pub all_second : (P : ProofStep → Type 0) → All P (first ++ second) → All P second
  all_second P all k d low =
      rw (get_or-append-add first second k d)
      at (all (length first + k) d (omega (arith, length-append first second)))

  -- if all steps fall, those of the second part do
  pub second_falls : Falls (first ++ second) → Falls second
  second_falls falls i j d less within =
      rw (get_or-append-add first second i d, get_or-append-add first second j d)
      at (falls (length first + i) (length first + j) d (omega arith) (omega (arith, length-append first second)))
