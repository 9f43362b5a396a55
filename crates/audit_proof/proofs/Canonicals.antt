-- The line of a survivor, made from its parents down. A graph has one canonical proof.
use Rattle.audit_proof.proofs.Imports
use Imports.{All, All-contains, All-nil, All-push, Bool, Contains, Contains-cons_cases, Contains-head, Contains-later}
use Imports.{Contains-map_cases, Contains-none, Descends, Falls, Graph, HasEachLine, IsCanonicalProof, IsCanonicalText}
use Imports.{IsGreatest, IsLineOf, IsNoted, IsOnLine, IsWalking, Line, List, None, OneTextIsCanonical, Option}
use Imports.{ProofStep, Some, WrittenProofsSayAll, [], all_at, ap, arith, cases_eq, cond, decimal, element_at, eq-eqb}
use Imports.{false, flat_map, get_or, get_or-map-range_with_len, get_or-set_other, get_or-set_same}
use Imports.{get_or_from_slice_get, head_text, inl, inr, length, length-append, length-decimal-le, length-flat_map-take}
use Imports.{length-map-range_with_len, length-replicate, length-set, line_text, line_with, list_any, listed_in}
use Imports.{made_line, made_lines, member_at, ne_eqb, none-some, noted_all, noted_one, option_or, place_of, proof_text}
use Imports.{refl, replicate, same_Some, same_lists, slice_get-get_or, slice_get_within, suc, sym, take}
use Imports.{take-map-range_with_len, true, via_at, visited, walked, zero, ℕ, ◌++◌, ◌<◌, ◌==◌, ◌||◌, ◌∙◌, ◌∷◌, ◌≡◌, ◌≤◌}
use Imports.{◌⊎◌}
use Rattle.audit_proof.proofs.LineFacts.{a_step, begun_more, begun_none, entry_only, in_decides, listed_more}
use Rattle.audit_proof.proofs.LineFacts.{listed_new, listed_place, more_on, on_more, place_listed, reached_on_line}
use Rattle.audit_proof.proofs.ReadTexts.{read_as, text_back}
use Rattle.audit_proof.proofs.Trusted.{ancestor_listed, full_proofs_say_all, listed_ancestor}

-- ---- notes

-- as many places are noted of
pub length-noted_all : (vias : List (Option ℕ)) (parents : List ℕ) (via : ℕ) →
    length (noted_all vias parents via) ≡ length vias
length-noted_all vias [] via = refl
length-noted_all vias (p ∷ parents) via = length-noted_all (noted_one vias p via) parents via ∙ length-set vias p _

-- at first nothing is noted
none_yet : (n p : ℕ) → via_at (replicate n None) p ≡ None
none_yet zero p = refl
none_yet (suc n) zero = refl
none_yet (suc n) (suc p) = none_yet n p

-- a note that is made twice is made once
note_step : (a b : Bool) (o : Option ℕ) (via : ℕ) →
    cond b (option_or (cond a (option_or o (Some via)) o) (Some via)) (cond a (option_or o (Some via)) o)
    ≡ cond (a || b) (option_or o (Some via)) o
note_step false b o via = refl
note_step true false o via = refl
note_step true true None via = refl
note_step true true (Some v) via = refl

-- of each of these a note is kept or made, and of no other
noted_is : (parents : List ℕ) (vias : List (Option ℕ)) (via q : ℕ) → ((p : ℕ) → Contains parents p → p < length vias) →
    via_at (noted_all vias parents via) q
    ≡ cond (list_any (λ p. p == q) parents) (option_or (via_at vias q) (Some via)) (via_at vias q)
noted_is [] vias via q below = refl
noted_is (p ∷ parents) vias via q below =
    let value = option_or (via_at vias p) (Some via) in
    let inside = below p (Contains-head p parents) in
    let one : via_at (noted_one vias p via) q ≡ cond (p == q) (option_or (via_at vias q) (Some via)) (via_at vias q) =
    elim (cases_eq q p) [
      | inl same ↦ rw (same, get_or-set_same vias p value None inside, eq-eqb p p refl) refl
      | inr apart ↦ rw (get_or-set_other vias p q value None apart, ne_eqb p q (λ e. apart (sym e))) refl
    ] in
    noted_is parents (noted_one vias p via) via q
    (λ r c. omega (arith, below r (Contains-later p parents r c), length-set vias p value))
    ∙ rw one (note_step (p == q) _ (via_at vias q) via)

-- what is noted then was, or is new
note_cases : (b : Bool) (o : Option ℕ) (via v : ℕ) → cond b (option_or o (Some via)) o ≡ Some v →
    (o ≡ Some v) ⊎ ((v ≡ via) × (b ≡ true))
note_cases false o via v is = inl is
note_cases true None via v is = inr (sym (same_Some via v is), refl)
note_cases true (Some u) via v is = inl is

-- of one of these something is
note_made : (o : Option ℕ) (via : ℕ) → (v : ℕ) × (option_or o (Some via) ≡ Some v)
note_made None via = (via, refl)
note_made (Some v) via = (v, refl)

-- what notes say
all_noted : (parents : List ℕ) (vias : List (Option ℕ)) (via : ℕ) →
    ((p : ℕ) → Contains parents p → p < length vias) → IsNoted vias (noted_all vias parents via) parents via
all_noted parents vias via below = record {
  each = length-noted_all vias parents via;
  kept = λ p v is. noted_is parents vias via p below
      ∙ rw is (elim (list_any (λ r. r == p) parents) as (λ b. cond b (Some v) (Some v) ≡ Some v)
      [ true ↦ refl | false ↦ refl ]);
  all = λ p c. rw (noted_is parents vias via p below, (in_decides parents p).1 c) (note_made (via_at vias p) via);
  fresh = λ p v is. elim (note_cases _ (via_at vias p) via v (sym (noted_is parents vias via p below) ∙ is))
      [ inl old ↦ inl old | inr (new, there) ↦ inr (new, (in_decides parents p).0 there) ];
}

-- ---- the line of a survivor

module _ (graph : Graph) (entry : ℕ) where
  -- from the entry's parents
  walk_starts : entry < graph.count → ((p : ℕ) → Contains (graph.parents entry) p → p < entry) →
      IsWalking graph entry entry (noted_all (replicate entry None) (graph.parents entry) entry) []
  walk_starts inside below =
      let size = length-replicate {A = Option ℕ} entry None in
      let noted = all_noted (graph.parents entry) (replicate entry None) entry
      (λ p c. omega (arith, below p c, size)) in
      let own : (p v : ℕ) → via_at (noted_all (replicate entry None) (graph.parents entry) entry) p ≡ Some v →
      (v ≡ entry) × Contains (graph.parents entry) p = λ p v is. elim (noted.fresh p v is) [
        | inl old ↦ absurd (none-some v (sym (none_yet entry p) ∙ old))
        | inr fresh ↦ fresh
      ] in
      record {
        each = noted.each ∙ size;
        begun = begun_none graph entry inside;
        above = All-nil _;
        noted = λ p v is. let (same, c) = own p v is in (inl same, rw same c);
        done = λ p v high is. absurd (omega (arith, below p (own p v is).1));
        next = λ y p on c. let parent = rw (entry_only entry y on) at c in (below p parent, noted.all p parent);
        kept = All-nil _;
        greatest = λ p v is y on c. omega (arith, entry_only entry y on, (own p v is).0);
      }

  module _ (a : ℕ) (vias : List (Option ℕ)) (steps : List ProofStep)
      (walking : IsWalking graph entry (suc a) vias steps) where
    -- past a place that isn't noted
    walk_past : via_at vias a ≡ None → IsWalking graph entry a vias steps
    walk_past none =
        let above : All (λ step. a ≤ step.ancestor) steps =
        λ k d low. let high = walking.above k d low in omega arith in
        let done : (p v : ℕ) → a ≤ p → via_at vias p ≡ Some v → Contains (listed_in steps) p =
        λ p v high is. elim (cases_eq p a) [
          | inl same ↦ absurd (none-some v (sym none ∙ rw same at is))
          | inr apart ↦ walking.done p v (omega arith) is
        ] in assumption (above, done)

    -- with one that is
    walk_with : (v : ℕ) → via_at vias a ≡ Some v → ((p : ℕ) → Contains (graph.parents a) p → p < a) →
        IsWalking graph entry a (noted_all vias (graph.parents a) a) (steps ++ a_step a v ∷ [])
    walk_with v is below =
        let step = a_step a v in
        let noted = all_noted (graph.parents a) vias a (λ p c. omega (arith, below p c, low, walking.each)) in
        let own = walking.noted a v is in
        let inside = walking.begun.inside entry (inl refl) in
        record {
          each = noted.each ∙ walking.each;
          begun = begun_more graph (line_with entry steps) step
              ((omega (arith, low), walking.begun.inside v own.0), (above, own)) walking.begun;
          above = All-push (λ (s : ProofStep). a ≤ s.ancestor) steps step
              (λ k d l. let high = walking.above k d l in omega arith) (omega arith);
          noted = λ p u there. elim (noted.fresh p u there) [
            | inl old ↦ let was = walking.noted p u old in (more_on entry steps step u was.0, was.1)
            | inr fresh ↦ rw fresh.0 (inr (listed_new entry steps step), fresh.1)
          ];
          done = λ p u high there. elim (cases_eq p a) [
            | inl same ↦ rw same (listed_new entry steps step)
            | inr apart ↦ elim (noted.fresh p u there) [
              | inl old ↦ listed_more entry steps step p (walking.done p u (omega arith) old)
              | inr fresh ↦ absurd (omega (arith, below p fresh.1))
            ]
          ];
          next = λ y p on c. elim (on_more entry steps step y on) [
            | inl old ↦ let (inside, (u, was)) = walking.next y p old c in (inside, (u, noted.kept p u was))
            | inr same ↦ let parent = rw (sym same) at c in (omega (arith, below p parent, low), noted.all p parent)
          ];
          kept = All-push
              (λ (s : ProofStep). via_at (noted_all vias (graph.parents a) a) s.ancestor ≡ Some s.via) steps step
              (λ k d l. noted.kept _ _ (walking.kept k d l)) (noted.kept a v is);
          greatest = λ p u there y on c. elim (on_more entry steps step y on) [
            | inl before ↦
                let (inside, (w, was)) = walking.next y p before c in
                let same = same_Some w u (sym (noted.kept p w was) ∙ there) in
                omega (arith, walking.greatest p w was y before c)
            | inr same ↦ elim (noted.fresh p u there) [
              | inl old ↦ omega (arith, all_above u (walking.noted p u old).0)
              | inr fresh ↦ omega (arith, fresh.0)
            ]
          ];
        }
      where
        low : a < entry
        low = let own = walking.noted a v is in (walking.next v a own.0 own.1).0

        -- what is listed already is above the new ancestor
        above : (s : ProofStep) → Contains steps s → a < s.ancestor
        above s c = All-contains (λ (s : ProofStep). suc a ≤ s.ancestor) steps s walking.above c

        -- and so is what is on the line
        all_above : (u : ℕ) → IsOnLine (line_with entry steps) u → a < u
        all_above u (inl same) = omega (arith, low)
        all_above u (inr c) =
            let (s, among, same) = Contains-map_cases (λ (s : ProofStep). s.ancestor) steps u c in
            omega (arith, above s among)

  -- from place to place down to the last
  walk_down : Descends graph.parents → (x : ℕ) (vias : List (Option ℕ)) (steps : List ProofStep) →
      IsWalking graph entry x vias steps →
      (new : List (Option ℕ)) × IsWalking graph entry 0 new (walked graph.parents x vias steps)
  walk_down descends zero vias steps walking = (vias, walking)
  walk_down descends (suc a) vias steps walking =
      elim (via_at vias a) as (λ o. via_at vias a ≡ o → (new : List (Option ℕ))
      × IsWalking graph entry 0 new (visited (walked graph.parents a) graph.parents a o vias steps)) [
        | None ↦ λ none. walk_down descends a vias steps (walk_past a vias steps walking none)
        | Some v ↦ λ is. walk_down descends a _ _ (walk_with a vias steps walking v is (descends a))
      ] refl

  -- the line that is made is the survivor's, with the greatest vias
  pub made_is : Descends graph.parents → entry < graph.count →
      IsLineOf graph (made_line graph entry) × IsGreatest graph (made_line graph entry)
  made_is descends inside =
      let (vias, walking) = walk_down descends entry _ [] (walk_starts inside (descends entry)) in (
        record {
          begun = walking.begun;
          closed = λ y p on c. let (low, (v, is)) = walking.next y p on c in walking.done p v (omega arith) is;
        },
        λ k step there v on c.
            walking.greatest step.ancestor step.via (all_at (λ (s : ProofStep). via_at vias s.ancestor ≡ Some s.via)
            (made_line graph entry).steps k step walking.kept there) v on c,
      )

-- ---- every graph has one canonical proof

-- the first two lines are short
pub head_short : (count : ℕ) → count ≤ 16384 → length (head_text count) ≤ 67108864
head_short count few =
    let digits = length-decimal-le 5 count (omega arith) (omega arith) (omega arith) in
    omega (arith, length-append (decimal count) (10 ∷ []))

module _ (graph : Graph) (descends : Descends graph.parents) where
  -- where a line is
  at_line : (k : ℕ) (d : Line) → k < graph.count → get_or (made_lines graph graph.count) k d ≡ made_line graph k
  at_line k d low = get_or-map-range_with_len (made_line graph) 0 graph.count k k d low (omega arith)

  -- the lines that are made are canonical
  made_canonical : IsCanonicalProof graph (made_lines graph graph.count)
  made_canonical =
      let size = length-map-range_with_len (made_line graph) 0 graph.count in
      record {
        proof = record {
          rises = λ i j d less within. rw (at_line i d (omega arith), at_line j d (omega arith)) less;
          each = λ k d low. rw (at_line k d (omega arith)) (made_is graph k descends (omega arith)).0;
        };
        count = size;
        entries = λ k line at.
            let low = slice_get_within (made_lines graph graph.count) k line at in
            ap (λ (l : Line). l.entry) (sym (get_or_from_slice_get _ k line line at) ∙ at_line k line (omega arith));
        greatest = λ k d low. rw (at_line k d (omega arith)) (made_is graph k descends (omega arith)).1;
      }

  -- and their text is
  pub made_text : IsCanonicalText graph (proof_text graph.count (made_lines graph graph.count))
  made_text = (made_lines graph graph.count, made_canonical, refl)

  -- if what is written with a line is too long, so is the text
  pub too_long : (limit k : ℕ) (bytes : List ℕ) → k < graph.count →
      bytes ≡ proof_text graph.count (made_lines graph k) ++ line_text (made_line graph k) → limit < length bytes →
      (text : List ℕ) × IsCanonicalText graph text × (limit < length text)
  too_long limit k bytes low is over =
      let all = made_lines graph graph.count in
      let size = length-map-range_with_len (made_line graph) 0 graph.count in
      let grows = length-flat_map-take line_text all k (made_line graph k) (omega arith) in
      let first : take k all ≡ made_lines graph k =
      take-map-range_with_len (made_line graph) 0 graph.count k (omega arith) in
      let more = rw (first, at_line k (made_line graph k) low) at grows in (
        proof_text graph.count all,
        made_text,
        omega (
          arith,
          ap (λ (xs : List ℕ). length xs) is,
          length-append (proof_text graph.count (made_lines graph k)) (line_text (made_line graph k)),
          length-append (head_text graph.count) (flat_map line_text (made_lines graph k)),
          length-append (head_text graph.count) (flat_map line_text all),
        ),
      )

-- ---- and no other

-- below the first of steps that fall
head_falls : (x : ProofStep) (xs : List ProofStep) → Falls (x ∷ xs) → (s : ProofStep) → Contains xs s →
    s.ancestor < x.ancestor
head_falls x xs falls s (k, l, is) = rw is at (falls zero (suc k) s (omega arith) (omega arith))

-- and the others fall
tail_falls : (x : ProofStep) (xs : List ProofStep) → Falls (x ∷ xs) → Falls xs
tail_falls x xs falls i j d low within = falls (suc i) (suc j) d (omega arith) (omega arith)

-- where the first ones are one, the others of the one list are those of the other
others_to : (x y : ProofStep) (xs ys : List ProofStep) → x ≡ y → Falls (x ∷ xs) →
    ((s : ProofStep) → Contains (x ∷ xs) s → Contains (y ∷ ys) s) → (s : ProofStep) → Contains xs s → Contains ys s
others_to x y xs ys same falls to s c = elim (Contains-cons_cases y ys s (to s (Contains-later x xs s c))) [
  | inl here ↦ absurd (omega (arith, head_falls x xs falls s c, ap (λ (t : ProofStep). t.ancestor) (same ∙ here)))
  | inr there ↦ there
]

-- steps that fall are determined by which they are
same_falling : (xs ys : List ProofStep) → Falls xs → Falls ys → ((s : ProofStep) → Contains xs s → Contains ys s) →
    ((s : ProofStep) → Contains ys s → Contains xs s) → xs ≡ ys
same_falling [] [] falls_x falls_y to from = refl
same_falling [] (y ∷ ys) falls_x falls_y to from = absurd (Contains-none y (from y (Contains-head y ys)))
same_falling (x ∷ xs) [] falls_x falls_y to from = absurd (Contains-none x (to x (Contains-head x xs)))
same_falling (x ∷ xs) (y ∷ ys) falls_x falls_y to from =
    let first : x ≡ y = elim (Contains-cons_cases y ys x (to x (Contains-head x xs))) [
      | inl same ↦ sym same
      | inr in_ys ↦ elim (Contains-cons_cases x xs y (from y (Contains-head y ys))) [
        | inl same ↦ same
        | inr in_xs ↦ absurd (omega (arith, head_falls y ys falls_y x in_ys, head_falls x xs falls_x y in_xs))
      ]
    ] in
    let rest = same_falling xs ys (tail_falls x xs falls_x) (tail_falls y ys falls_y)
    (others_to x y xs ys first falls_x to) (others_to y x ys xs (sym first) falls_y from) in cc

module _ (graph : Graph) (a b : Line) (entries : a.entry ≡ b.entry) (is_a : IsLineOf graph a) (is_b : IsLineOf graph b)
  where
    -- what the one line lists the other does
    listed_other : (x : ℕ) → Contains (listed_in a.steps) x → Contains (listed_in b.steps) x
    listed_other x c = ancestor_listed graph b is_b x (rw entries at (listed_ancestor graph a is_a x c))

    -- so what is on the one is on the other
    on_other : (x : ℕ) → IsOnLine a x → IsOnLine b x
    on_other x (inl same) = inl (same ∙ entries)
    on_other x (inr c) = inr (listed_other x c)

    -- and with the greatest vias each step of the one is one of the other
    step_there : IsGreatest graph a → IsGreatest graph b → ((x : ℕ) → IsOnLine b x → IsOnLine a x) → (s : ProofStep) →
        Contains a.steps s → Contains b.steps s
    step_there greatest_a greatest_b back s c =
        let (k, at) = place_of a.steps s c in
        let (j, t, at_t, same) = listed_place b.steps s.ancestor
        (listed_other s.ancestor (place_listed a.steps k s at)) in
        let low = greatest_b j t at_t s.via (on_other s.via (reached_on_line a k s.via (is_a.begun.reached k s at)))
        (rw (sym same) at (is_a.begun.arrows k s at)) in
        let high = greatest_a k s at t.via (back t.via (reached_on_line b j t.via (is_b.begun.reached j t at_t)))
        (rw same at (is_b.begun.arrows j t at_t)) in
        let vias : t.via ≡ s.via = omega arith in
        let one : t ≡ s = λ i. a_step (same i) (vias i) in rw one at (member_at b.steps j t at_t)

-- lines of one entry with the greatest vias are one
same_line : (graph : Graph) (a b : Line) → a.entry ≡ b.entry → IsLineOf graph a → IsLineOf graph b →
    IsGreatest graph a → IsGreatest graph b → a ≡ b
same_line graph a b entries is_a is_b greatest_a greatest_b =
    let steps : a.steps ≡ b.steps =
    same_falling a.steps b.steps is_a.begun.falls is_b.begun.falls
    (step_there graph a b entries is_a is_b greatest_a greatest_b (on_other graph b a (sym entries) is_b is_a))
    (step_there graph b a (sym entries) is_b is_a greatest_b greatest_a (on_other graph a b entries is_a is_b)) in
    λ i. line_with (entries i) (steps i)

-- so canonical lines are one list
same_canonical : (graph : Graph) (xs ys : List Line) → IsCanonicalProof graph xs → IsCanonicalProof graph ys → xs ≡ ys
same_canonical graph xs ys of_x of_y =
    let size = of_x.count ∙ sym of_y.count in
    same_lists xs ys size (λ i d low.
    let within : i < length ys = omega arith in
    same_line graph _ _
    (of_x.entries i _ (slice_get-get_or xs i d low) ∙ sym (of_y.entries i _ (slice_get-get_or ys i d within)))
    (of_x.proof.each i d low) (of_y.proof.each i d within) (of_x.greatest i d low) (of_y.greatest i d within))

-- a line for each survivor, in order, is one for each
pub canonical_full : (graph : Graph) (lines : List Line) → IsCanonicalProof graph lines → HasEachLine graph lines
canonical_full graph lines is x low =
    let size = is.count in
    let (line, at) = element_at lines x (omega arith) in (line, member_at lines x line at, is.entries x line at)

-- the law of one text
pub one_text_is_canonical : OneTextIsCanonical
one_text_is_canonical graph descends = (
  (proof_text graph.count (made_lines graph graph.count), made_text graph descends),
  λ a b (xs, is_x, text_x) (ys, is_y, text_y).
      text_x ∙ ap (proof_text graph.count) (same_canonical graph xs ys is_x is_y) ∙ sym text_y,
)

-- what is written is read, and says all
pub written_proofs_say_all : WrittenProofsSayAll
written_proofs_say_all rows graph bytes answer size few descends (made, is, text) right some = (
  made,
  sym (read_as graph few bytes answer right some) ∙ text_back graph few bytes made (text, is.proof),
  is.proof,
  full_proofs_say_all rows graph made size descends is.proof (canonical_full graph made is),
)
