-- Tests of a line, what stands at the places of lists, and a line with one step more.
use Rattle.audit_proof.proofs.Imports
use Imports.{All, All-push, AllPairs, Bool, Contains, Contains-append_left, Contains-get_or, Contains-map}
use Imports.{Contains-map_cases, Contains-none, Contains-push, Contains-push_cases, Decides, Decides-and, Decides-eqb}
use Imports.{Decides-like, Decides-or, Falls, Graph, IsBegun, IsLineOf, IsOnLine, IsProofOf, IsReached, LacksNoParent}
use Imports.{Line, List, ProofStep, Some, [], all_at, all_pairs_push, ap, arith, cases_eq, eq-eqb, eqb-true, get_or}
use Imports.{get_or-set_other, get_or-set_same, get_or_from_slice_get, inl, inr, is_on_line, lacks_no_parent, length}
use Imports.{line_with, list_all, list_all_each, list_all_from_each, list_any, list_any_of, list_any_some, listed_in}
use Imports.{lists_parents, map_push, member_at, one_at, place_of, push_before, refl, same_Some, slice_get}
use Imports.{slice_get-get_or, slice_get_within, slice_set, suc, sym, true, with_step, zero, ℕ, ◌++◌, ◌<◌, ◌==◌, ◌∙◌}
use Imports.{◌∷◌, ◌≡◌, ◌≢◌, ◌≤◌, ◌⊎◌}

-- ---- tests

-- a test means that it holds
pub itself : (test : Bool) → Decides test (test ≡ true)
itself test = (λ e. e, λ e. e)

-- a number is found exactly in lists that contain it
pub in_decides : (xs : List ℕ) (x : ℕ) → Decides (list_any (λ z. z == x) xs) (Contains xs x)
in_decides xs x = (
  λ e. let (z, c, same) = list_any_some (λ z. z == x) xs e in rw (eqb-true z x same) at c,
  λ c. list_any_of (λ z. z == x) xs x c (eq-eqb x x refl),
)

-- a test that each passes
pub all_decides : {X : Type 0} (p : X → Bool) (P : X → Type 0) (xs : List X) → ((x : X) → Decides (p x) (P x)) →
    Decides (list_all p xs) ((x : X) → Contains xs x → P x)
all_decides p P xs each =
    (λ e x c. (each x).0 (list_all_each p xs e x c), λ all. list_all_from_each p xs (λ x c. (each x).1 (all x c)))

-- what is on a line
pub on_decides : (line : Line) (x : ℕ) → Decides (is_on_line line x) (IsOnLine line x)
on_decides line x = Decides-or _ _ (Decides-eqb x line.entry) (in_decides (listed_in line.steps) x)

-- whether it lacks no parent
pub closed_decides : (graph : Graph) (line : Line) → Decides (lacks_no_parent graph line) (LacksNoParent graph line)
closed_decides graph line =
    Decides-like _
    (λ w x p on c. elim on [ inl same ↦ w.0 p (rw same at c) | inr listed ↦ w.1 x listed p c ])
    (λ closed. (λ p. closed line.entry p (inl refl), λ x listed p. closed x p (inr listed)))
    (Decides-and _ _ (parents line.entry) (all_decides (lists_parents graph line) _ (listed_in line.steps) parents))
  where
    -- of one survivor
    parents : (x : ℕ) → Decides (lists_parents graph line x)
        ((p : ℕ) → Contains (graph.parents x) p → Contains (listed_in line.steps) p)
    parents x = all_decides _ (Contains (listed_in line.steps)) (graph.parents x) (in_decides (listed_in line.steps))

-- ---- places

-- an ancestor, via an entry
abbrev pub a_step : ℕ → ℕ → ProofStep
a_step ancestor via = record { ancestor = ancestor; via = via }

-- in a list whose pairs are related, what is at two places is related
pub pair_at : {X : Type 0} (R : X → X → Type 0) (xs : List X) (i j : ℕ) (x y : X) → AllPairs R xs → i < j →
    slice_get xs i ≡ Some x → slice_get xs j ≡ Some y → R x y
pair_at R xs i j x y all less at_i at_j =
    rw (get_or_from_slice_get xs i x x at_i, get_or_from_slice_get xs j y x at_j)
    at (all i j x less (slice_get_within xs j y at_j))

-- of steps that fall the earlier one has the greater ancestor
pub falls_at : (steps : List ProofStep) → Falls steps → (i j : ℕ) (s t : ProofStep) → i < j →
    slice_get steps i ≡ Some s → slice_get steps j ≡ Some t → t.ancestor < s.ancestor
falls_at steps falls i j s t = pair_at (λ (a b : ProofStep). b.ancestor < a.ancestor) steps i j s t falls

-- and no later one a greater
pub falls_to : (steps : List ProofStep) → Falls steps → (i j : ℕ) (s t : ProofStep) → i ≤ j →
    slice_get steps i ≡ Some s → slice_get steps j ≡ Some t → t.ancestor ≤ s.ancestor
falls_to steps falls i j s t low at_s at_t = elim (cases_eq i j) [
  | inl same ↦ rw (one_at steps j s t (rw same at at_s) at_t) (omega arith)
  | inr apart ↦ let less = falls_at steps falls i j s t (omega arith) at_s at_t in omega arith
]

-- what is in a longer list was in the shorter, or is the new one at the end
push_places : {X : Type 0} (xs : List X) (y : X) (i : ℕ) (x : X) → slice_get (xs ++ y ∷ []) i ≡ Some x →
    (slice_get xs i ≡ Some x) ⊎ ((i ≡ length xs) × (y ≡ x))
push_places [] y zero x at = inr (refl, same_Some y x at)
push_places [] y (suc i) x at = cc
push_places (z ∷ xs) y zero x at = inl at
push_places (z ∷ xs) y (suc i) x at =
    elim (push_places xs y i x at) [ inl old ↦ inl old | inr new ↦ inr (ap suc new.0, new.1) ]

-- once one place is set, a table says of all places what is to be said, if it did of the others and does there
pub set_says : {A B : Type 0} (f : A → B) (was is : ℕ → B) (xs : List A) (i : ℕ) (new d : A) → i < length xs →
    f new ≡ is i → ((x : ℕ) → x ≢ i → was x ≡ is x) → (x : ℕ) → f (get_or xs x d) ≡ was x →
    f (get_or (slice_set xs i new) x d) ≡ is x
set_says f was is xs i new d inside here others x said = elim (cases_eq x i) [
  | inl same ↦ rw (same, get_or-set_same xs i new d inside) here
  | inr apart ↦ rw (get_or-set_other xs i x new d apart) (said ∙ others x apart)
]

-- what is listed is the ancestor of a step
pub listed_place : (steps : List ProofStep) (x : ℕ) → Contains (listed_in steps) x →
    (k : ℕ) × (step : ProofStep) × (slice_get steps k ≡ Some step) × (step.ancestor ≡ x)
listed_place steps x c =
    let (step, among, same) = Contains-map_cases (λ (s : ProofStep). s.ancestor) steps x c in
    let (k, at) = place_of steps step among in (k, step, at, same)

-- and the ancestor of a step is listed
pub place_listed : (steps : List ProofStep) (k : ℕ) (step : ProofStep) → slice_get steps k ≡ Some step →
    Contains (listed_in steps) step.ancestor
place_listed steps k step at = Contains-map (λ (s : ProofStep). s.ancestor) steps step (member_at steps k step at)

-- what all steps are below is above each that they list
pub listed_below : (steps : List ProofStep) (n y : ℕ) → All (λ step. step.ancestor < n) steps →
    Contains (listed_in steps) y → y < n
listed_below steps n y all c =
    let (k, step, at, same) = listed_place steps y c in
    rw same at (all_at (λ (s : ProofStep). s.ancestor < n) steps k step all at)

-- what was reached before a step is on the line
pub reached_on_line : (line : Line) (k x : ℕ) → IsReached line k x → IsOnLine line x
reached_on_line line k x (inl same) = inl same
reached_on_line line k x (inr (j, earlier, low, at, same)) = inr (rw same at (place_listed line.steps j earlier at))

-- all numbers on a line are of survivors
pub numbers_inside : (graph : Graph) (line : Line) → IsBegun graph line →
    All (λ step. (step.ancestor < graph.count) × (step.via < graph.count)) line.steps
numbers_inside graph line begun k d low =
    let at = slice_get-get_or line.steps k d low in (
      begun.inside _ (inr (place_listed line.steps k _ at)),
      begun.inside _ (reached_on_line line k _ (begun.reached k _ at)),
    )

-- ---- a line with one step more

module _ (entry : ℕ) (steps : List ProofStep) (step : ProofStep) where
  -- its steps
  abbrev more : List ProofStep
  more = steps ++ step ∷ []

  -- and what they list
  listed_is : listed_in more ≡ listed_in steps ++ step.ancestor ∷ []
  listed_is = map_push (λ (s : ProofStep). s.ancestor) steps step

  -- what is on the longer line is on the shorter, or is the new ancestor
  pub on_more : (x : ℕ) → IsOnLine (line_with entry more) x → IsOnLine (line_with entry steps) x ⊎ (step.ancestor ≡ x)
  on_more x (inl same) = inl (inl same)
  on_more x (inr c) = elim (Contains-push_cases (listed_in steps) step.ancestor x (rw listed_is at c)) [
    | inl old ↦ inl (inr old)
    | inr same ↦ inr same
  ]

  -- what is listed on the shorter is listed on the longer
  pub listed_more : (x : ℕ) → Contains (listed_in steps) x → Contains (listed_in more) x
  listed_more x c = rw listed_is (Contains-append_left (listed_in steps) (step.ancestor ∷ []) x c)

  -- the new ancestor is listed on the longer line
  pub listed_new : Contains (listed_in more) step.ancestor
  listed_new = rw listed_is (Contains-push (listed_in steps) step.ancestor)

  -- what is on the shorter is on the longer
  pub more_on : (x : ℕ) → IsOnLine (line_with entry steps) x → IsOnLine (line_with entry more) x
  more_on x (inl same) = inl same
  more_on x (inr c) = inr (listed_more x c)

  -- what was reached before a step is reached still
  reach_more : (k x : ℕ) → IsReached (line_with entry steps) k x → IsReached (line_with entry more) k x
  reach_more k x (inl same) = inl same
  reach_more k x (inr (j, earlier, low, there, same)) =
      inr (j, earlier, low, push_before steps step j earlier there, same)

  -- what is on the shorter is reached before the new step
  reach_new : (x : ℕ) → IsOnLine (line_with entry steps) x → IsReached (line_with entry more) (length steps) x
  reach_new x (inl same) = inl same
  reach_new x (inr c) =
      let (j, s, there, same) = listed_place steps x c in
      inr (j, s, slice_get_within steps j s there, push_before steps step j s there, same)

-- a step may be the next on a line
abbrev pub Fits : Graph → Line → ProofStep → Type 0
Fits graph line step =
    ((step.ancestor < graph.count) × (step.via < graph.count))
    × (((s : ProofStep) → Contains line.steps s → step.ancestor < s.ancestor)
    × (IsOnLine line step.via × Contains (graph.parents step.via) step.ancestor))

-- on a line of an entry alone is the entry
pub entry_only : (entry x : ℕ) → IsOnLine (line_with entry []) x → x ≡ entry
entry_only entry x (inl same) = same
entry_only entry x (inr c) = absurd (Contains-none x c)

module _ (graph : Graph) where
  -- an entry alone is the beginning of a line
  pub begun_none : (entry : ℕ) → entry < graph.count → IsBegun graph (line_with entry [])
  begun_none entry low = record {
    inside = λ x on. omega (arith, entry_only entry x on);
    falls = λ i j d l m. absurd (omega arith);
    reached = λ k s at. cc;
    arrows = λ k s at. cc;
  }

  -- with the next step it is one still
  pub begun_more : (line : Line) (step : ProofStep) → Fits graph line step → IsBegun graph line →
      IsBegun graph (with_step line step)
  begun_more line step (low, (below, (on, arrow))) begun = record {
    inside = λ x on_it. elim (on_more line.entry line.steps step x on_it) [
      | inl old ↦ begun.inside x old
      | inr new ↦ omega (arith, low.0)
    ];
    falls = all_pairs_push (λ (a b : ProofStep). b.ancestor < a.ancestor) line.steps step begun.falls
        (λ k d inside. below _ (Contains-get_or line.steps k d inside));
    reached = λ k s there. (each k s there).0;
    arrows = λ k s there. (each k s there).1;
  }
    where
      -- each step is a parent of its via, which was reached before
      each : (k : ℕ) (s : ProofStep) → slice_get (line.steps ++ step ∷ []) k ≡ Some s →
          IsReached (with_step line step) k s.via × Contains (graph.parents s.via) s.ancestor
      each k s there = elim (push_places line.steps step k s there) [
        | inl old ↦ (reach_more line.entry line.steps step k s.via (begun.reached k s old), begun.arrows k s old)
        | inr new ↦ rw (new.0, sym new.1) (reach_new line.entry line.steps step step.via on, arrow)
      ]

  -- no lines are a proof
  pub proof_none : IsProofOf graph []
  proof_none = record { rises = λ i j d l m. absurd (omega arith); each = λ i d l. absurd (omega arith) }

  -- and a line more above the others
  pub proof_more : (lines : List Line) (line : Line) → ((l : Line) → Contains lines l → l.entry < line.entry) →
      IsLineOf graph line → IsProofOf graph lines → IsProofOf graph (lines ++ line ∷ [])
  proof_more lines line above own proof = record {
    rises = all_pairs_push (λ (a b : Line). a.entry < b.entry) lines line proof.rises
        (λ k d low. above _ (Contains-get_or lines k d low));
    each = All-push (IsLineOf graph) lines line proof.each own;
  }
