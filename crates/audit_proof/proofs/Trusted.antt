-- A line lists exactly the ancestors of its entry. So by a proof a rule has the value that it has by the graph,
-- or none.
use Rattle.audit_proof.proofs.Imports
use Imports.{All-contains, Bool, Contains, Decides, Decides-and, Decides-like, Descends, False, FullProofsSayAll, Graph}
use Imports.{HasEachLine, IsAncestor, IsLess, IsLineOf, IsOnLine, IsProofOf, IsWalk, Line, LinesListAncestors, List}
use Imports.{Node, None, Option, ProofStep, ProofsAreRight, ProofsSayNoMore, Row, Some, Three, True, Unknown, []}
use Imports.{ancestor_from_reaches, ap, arith, before, before_by, before_on, clean_ancestor, clean_itself, cond, eq-eqb}
use Imports.{eqb-true, false, false≢true, find-append, find_at, first_value, get_or_from_slice_get, inl, inr, is_whole}
use Imports.{is_whole_from_clean, is_whole_line, length, length-map, less_is_known, listed_in, lists, map, member_at}
use Imports.{member_split, not, not-true, not_from_false, option_or, own_line, passes_at_first, position_or_len}
use Imports.{reaches, reaches_from_walk, refl, rules_are_settled, same_from_decides, same_values, slice_get}
use Imports.{slice_get_within, suc, sym, true, unbound, walk_on, whole_by, zero, ℕ, ◌++◌, ◌+◌, ◌<◌, ◌==◌, ◌∙◌, ◌∷◌, ◌≡◌}
use Imports.{◌⊎◌}
use Rattle.audit_proof.proofs.LineFacts.{all_decides, in_decides, listed_place}

-- ---- a line says of its entry's ancestors what the graph does

module _ (graph : Graph) (line : Line) (is : IsLineOf graph line) where
  -- the ancestor at each step is one of the line's entry
  step_ancestor : (n k : ℕ) (step : ProofStep) → k < n → slice_get line.steps k ≡ Some step →
      IsAncestor graph.parents step.ancestor line.entry
  step_ancestor zero k step l at = absurd (omega arith)
  step_ancestor (suc n) k step l at = elim (is.begun.reached k step at) [
    | inl here ↦ ([], rw here at (is.begun.arrows k step at))
    | inr (j, earlier, less, there, same) ↦
        let (zs, walk) = step_ancestor n j earlier (omega arith) there in (
          zs ++ step.via ∷ [],
          walk_on graph.parents line.entry zs step.via step.ancestor (simp same at walk) (is.begun.arrows k step at),
        )
  ]

  -- each survivor that is listed is an ancestor of the line's entry
  pub listed_ancestor : (y : ℕ) → Contains (listed_in line.steps) y → IsAncestor graph.parents y line.entry
  listed_ancestor y c =
      let (k, step, at, same) = listed_place line.steps y c in
      rw same at (step_ancestor (k + 1) k step (omega arith) at)

  -- and each ancestor of what is on the line is listed
  walked_listed : (x y : ℕ) (zs : List ℕ) → IsOnLine line x → IsWalk graph.parents x zs y →
      Contains (listed_in line.steps) y
  walked_listed x y [] on w = is.closed x y on w
  walked_listed x y (z ∷ zs) on (arrow, walk) = walked_listed z y zs (inr (is.closed x z on arrow)) walk

  pub ancestor_listed : (y : ℕ) → IsAncestor graph.parents y line.entry → Contains (listed_in line.steps) y
  ancestor_listed y (zs, walk) = walked_listed line.entry y zs (inl refl) walk

  module _ (descends : Descends graph.parents) where
    -- y is listed if and only if it is reached
    lists_same : (y : ℕ) → lists (Some line) y ≡ reaches graph.parents line.entry y line.entry
    lists_same y =
        same_from_decides _ _ (Decides-like _ (listed_ancestor y) (ancestor_listed y)
        (in_decides (listed_in line.steps) y)) (
          ancestor_from_reaches graph.parents line.entry y line.entry,
          λ (zs, walk). reaches_from_walk graph.parents descends line.entry y line.entry zs (omega arith) walk,
        )

    -- the line is whole if and only if its entry is
    whole_same : is_whole_line graph.ragged (Some line) ≡ is_whole graph.parents graph.ragged line.entry line.entry
    whole_same =
        same_from_decides _ _ (Decides-like _ (λ w. (w.0, λ y a. w.1 y (ancestor_listed y a)))
        (λ w. (w.0, λ y c. w.1 y (listed_ancestor y c)))
        (Decides-and _ _ (even line.entry) (all_decides _ (λ y. graph.ragged y ≡ false) (listed_in line.steps) even))) (
          λ w. (
            clean_itself graph.parents descends graph.ragged line.entry line.entry w,
            λ y (zs, walk).
                clean_ancestor graph.parents descends graph.ragged line.entry line.entry (omega arith) w y zs walk,
          ),
          is_whole_from_clean graph.parents descends graph.ragged line.entry line.entry,
        )
      where
        -- of one survivor
        even : (y : ℕ) → Decides (not (graph.ragged y)) (graph.ragged y ≡ false)
        even y = (not-true (graph.ragged y), not_from_false (graph.ragged y))

    -- the line says of the order before its entry what the graph says
    order_same : (y : ℕ) →
        before_on (Some line) (is_whole_line graph.ragged (Some line)) y
        ≡ before graph.parents graph.ragged y line.entry
    order_same y = rw (lists_same y, whole_same) refl

-- the law of lines
pub lines_list_ancestors : LinesListAncestors
lines_list_ancestors graph line is y = (listed_ancestor graph line is y, ancestor_listed graph line is y)

-- ---- the line of a survivor

-- whether a line is that of x
abbrev pub is_of : ℕ → Line → Bool
is_of x line = line.entry == x

-- the line that is found for x is a line, and x's
pub line_found : (lines : List Line) (x : ℕ) (line : Line) → own_line lines x ≡ Some line →
    Contains lines line × (line.entry ≡ x)
line_found lines x line is =
    let n = position_or_len (is_of x) lines in
    let at : slice_get lines n ≡ Some line = sym (find_at (is_of x) lines) ∙ is in
    let passes = passes_at_first (is_of x) lines line (slice_get_within lines n line at) in
    (member_at lines n line at, eqb-true line.entry x (rw (get_or_from_slice_get lines n line line at) at passes))

-- where some line is x's, one is found
line_there : (lines : List Line) (x : ℕ) (line : Line) → Contains lines line → line.entry ≡ x →
    (found : Line) × (own_line lines x ≡ Some found)
line_there lines x line c same =
    let (front, rest, is) = member_split lines line c in
    rw (is, find-append (is_of x) front (line ∷ rest), eq-eqb line.entry x same)
    (elim (own_line front x) as (λ o. (found : Line) × (option_or o (Some line) ≡ Some found)) [
      | None ↦ (line, refl)
      | Some earlier ↦ (earlier, refl)
    ])

-- there is a line, or none
pub line_or_none : (o : Option Line) → (o ≡ None) ⊎ ((line : Line) × (o ≡ Some line))
line_or_none None = inl refl
line_or_none (Some line) = inr (line, refl)

-- ---- rules

-- what is settled isn't unknown
settled_known : (l w : Bool) → w ≡ true → cond l True (cond w False Unknown) ≡ Unknown → ⊥
settled_known true w e u = cc
settled_known false true e u = cc
settled_known false false e u = cc

module _ (graph : Graph) (lines : List Line) (descends : Descends graph.parents) (is : IsProofOf graph lines) where
  -- the order by the graph, and what is whole by it
  abbrev order : ℕ → ℕ → Three
  order = before graph.parents graph.ragged

  abbrev wholes : ℕ → Bool
  wholes x = is_whole graph.parents graph.ragged x x

  -- the proof says of x what the graph says
  abbrev IsSaid : ℕ → Type 0
  IsSaid x =
      ((y : ℕ) → before_by graph.ragged lines y x ≡ order y x) × (whole_by graph.ragged lines x ≡ wholes x)

  -- it does where there is a line of x
  found_says : (x : ℕ) (line : Line) → own_line lines x ≡ Some line → IsSaid x
  found_says x line found =
      let (among, same) = line_found lines x line found in
      let own = All-contains (IsLineOf graph) lines line is.each among in
      rw (found, sym same) (order_same graph line own descends, whole_same graph line own descends)

  -- what the proof says is less than what the graph says
  less_by : IsLess graph.count (before_by graph.ragged lines) (whole_by graph.ragged lines) order wholes
  less_by = record {
    orders = λ y x l. elim (line_or_none (own_line lines x)) [
      | inl none ↦ inl (rw none refl)
      | inr (line, at) ↦ inr ((found_says x line at).0 y)
    ];
    whole = λ x l w. elim (line_or_none (own_line lines x)) [
      | inl none ↦ absurd (false≢true (rw none at w))
      | inr (line, at) ↦ sym (found_says x line at).1 ∙ w
    ];
    settled = λ y x l w. settled_known (lists (own_line lines x) y) (whole_by graph.ragged lines x) w;
  }

  -- where each survivor has a line, it says of each what the graph says
  full_says : HasEachLine graph lines → (x : ℕ) → x < graph.count → IsSaid x
  full_says full x l =
      let (line, c, same) = full x l in
      let (found, at) = line_there lines x line c same in found_says x found at

-- the law of all proofs
pub proofs_say_no_more : ProofsSayNoMore
proofs_say_no_more rows graph lines as_many descends is rule =
    less_is_known rows (before_by graph.ragged lines) (whole_by graph.ragged lines)
    (before graph.parents graph.ragged) (λ x. is_whole graph.parents graph.ragged x x)
    (rw as_many (less_by graph lines descends is)) rule

-- the law of full proofs
pub full_proofs_say_all : FullProofsSayAll
full_proofs_say_all rows graph lines as_many descends is full rule =
    let said = λ (x : ℕ) (l : x < length rows). full_says graph lines descends is full x (omega arith) in
    ap first_value (same_values rows (before_by graph.ragged lines) (before graph.parents graph.ragged)
    (whole_by graph.ragged lines) (λ x. is_whole graph.parents graph.ragged x x)
    (λ y x l. (said x l).0 y) (λ x l. (said x l).1) rule unbound (λ v. tt))

-- by any proof a rule's value, if known, is right of every completion
pub proofs_are_right : {T : Type 0} (node : T → Node) (row : T → Row) → ProofsAreRight node row
proofs_are_right node row machines S G parents ragged lines single graph completion is rule =
    let nodes : Graph = record { count = length S; parents = parents; ragged = ragged } in
    let less = proofs_say_no_more (map row S) nodes lines (length-map S row) graph.descends is rule in
    let settled = rules_are_settled node row machines S G parents ragged single graph completion rule in (
      λ t. settled.0 (elim less [ inl u ↦ cc | inr e ↦ cc ]),
      λ f. settled.1 (elim less [ inl u ↦ cc | inr e ↦ cc ]),
    )
