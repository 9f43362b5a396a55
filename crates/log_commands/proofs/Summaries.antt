-- What is said of entries, one after another.
use Rattle.log_commands.proofs.Imports
use Imports.{[], After, Agree, AllZip, ap, append-nil, append_assoc, AreJudged, AreSummaries, arith, at_cases}
use Imports.{cases_order, codes, element_at, EntriesGiveOneGraph, Err, false≢true, GivesSummaries, inl, inr, is_broken}
use Imports.{is_kept, is_unsettled, IsFirstTooWide, IsNarrowOver, IsTooWideAfter, IsTooWideOver, judged_is_narrow}
use Imports.{length, length-append, length-take-le, List, map, nodes_of, Ok, one_count, one_place, Post, refl, Refusal}
use Imports.{refused, Result, row_of, RuleSource, RuleTree, same_count, SameVerdict, SealedEntry, slice_get}
use Imports.{Some, source_word, standard, subst, suc, Summary, sym, take, take-take, verdicts_agree}
use Imports.{watch_line, watch_lines, ℕ, ◌++◌, ◌+◌, ◌<◌, ◌∙◌, ◌∷◌, ◌≡◌, ◌≤◌}
use Rattle.log_commands.proofs.FilesBegun.{same_found}

-- ---- one more

-- one more line
pub lines_more : (n : ℕ) (ss : List Summary) (s : Summary) →
    watch_lines n (ss ++ s ∷ []) ≡ watch_lines n ss ++ watch_line (n + length ss) s
lines_more n [] s = append-nil (watch_line n s) ∙ ap (λ k. watch_line k s) (let e : n ≡ n + 0 = omega arith in e)
lines_more n (t ∷ ss) s =
    ap (λ text. watch_line n t ++ text) (lines_more (n + 1) ss s)
    ∙ sym (append_assoc (watch_line n t) (watch_lines (n + 1) ss) (watch_line (n + 1 + length ss) s))
    ∙ ap (λ k. (watch_line n t ++ watch_lines (n + 1) ss) ++ watch_line k s)
    (let e : n + 1 + length ss ≡ n + suc (length ss) = omega arith in e)

module _ (machines : List Post) (rules : List RuleTree) (entries : List SealedEntry) where
  module _ (k : ℕ) (within : k < length entries) (ss : List Summary) (s : Summary)
      (so_far : AreSummaries machines rules (take k entries) ss)
      (next : After machines rules (take (k + 1) entries) s) where
    -- there are as many summaries as entries
    many : length ss ≡ k
    many = so_far.one_each ∙ length-take-le k entries (omega (arith, within))

    -- the summary at a place is of the entries up to there
    placed : (n : ℕ) (t : Summary) → slice_get (ss ++ s ∷ []) n ≡ Some t →
        After machines rules (take (n + 1) (take (k + 1) entries)) t
    placed n t at = elim (at_cases ss s n t at) [
      | inl (low, there) ↦
          subst (λ es. After machines rules es t)
          (take-take (n + 1) k entries (omega (arith, many, low))
          ∙ sym (take-take (n + 1) (k + 1) entries (omega (arith, many, low)))) (so_far.each n t there)
      | inr (last, is) ↦
          (let here : n ≡ k = last ∙ many in
          let up_to = take-take (n + 1) (k + 1) entries (omega (arith, here)) in
          coe 1 0 (i. After machines rules ((up_to ∙ ap (λ m. take (m + 1) entries) here) i) (is i)) next)
    ]

    -- one entry more is said
    pub said_more : AreSummaries machines rules (take (k + 1) entries) (ss ++ s ∷ [])
    said_more = record {
      one_each = (let count = length-take-le (k + 1) entries (omega (arith, within)) in
          omega (arith, length-append ss (s ∷ []), many, count));
      each = placed;
    }

-- ---- at most one answer

-- summaries that say the same have one line
pub same_line : (n : ℕ) (s t : Summary) → s.survivors ≡ t.survivors → s.gaps ≡ t.gaps →
    AllZip SameVerdict s.verdicts t.verdicts → watch_line n s ≡ watch_line n t
same_line n s t survivors gaps verdicts =
    let kept = same_count is_kept (λ v w same. (one_count v w same).kept) s.verdicts t.verdicts verdicts in
    let broken = same_count is_broken (λ v w same. (one_count v w same).broken) s.verdicts t.verdicts verdicts in
    let unsettled = same_count is_unsettled (λ v w same. (one_count v w same).unsettled) s.verdicts t.verdicts verdicts in
    rw (survivors, gaps, kept, broken, unsettled) refl

module _ (graphs : EntriesGiveOneGraph) (machines : List Post) (rules : List RuleTree) (entries : List SealedEntry) where
  -- entries are said in one way
  pub one_line : (s t : Summary) → After machines rules entries s → After machines rules entries t → (n : ℕ) →
      watch_line n s ≡ watch_line n t
  one_line s t a b n =
      let same = same_found (graphs entries (Ok a.graph) (Ok b.graph) a.graphed b.graphed) in
      same_line n s t (a.survivors ∙ ap (λ g. length g.survivors) same ∙ sym b.survivors)
      (a.gaps ∙ ap (λ g. g.gaps) same ∙ sym b.gaps)
      (verdicts_agree (map (row_of machines) a.graph.survivors) (nodes_of a.graph) standard rules (Ok s.verdicts)
      (Ok t.verdicts) a.judged
      (subst (λ g. AreJudged (map (row_of machines) g.survivors) (nodes_of g) rules t.verdicts) (sym same) b.judged))

  -- and where they are, no rule is too wide
  said_is_narrow : (s : Summary) → After machines rules entries s → (place : ℕ) →
      IsTooWideOver machines rules entries place → ⊥
  said_is_narrow s a place (graph, graphed, first) =
      let same = same_found (graphs entries (Ok graph) (Ok a.graph) graphed a.graphed) in
      false≢true (sym (judged_is_narrow (map (row_of machines) a.graph.survivors) (nodes_of a.graph) rules s.verdicts
      place first.rule a.judged first.stands) ∙ (rw same at first.too_wide))

  -- the first rule that is too wide has one place
  one_wide : (p q : ℕ) → IsTooWideOver machines rules entries p → IsTooWideOver machines rules entries q → p ≡ q
  one_wide p q (graph, graphed, first) (other, also, second) =
      let same = same_found (graphs entries (Ok graph) (Ok other) graphed also) in
      one_place (map (row_of machines) graph.survivors) rules p q first
      (subst (λ g. IsFirstTooWide (map (row_of machines) g.survivors) rules q) (sym same) second)

-- summaries that have the same line at each place have the same lines
same_lines : (ss ts : List Summary) → length ss ≡ length ts →
    ((n : ℕ) (s t : Summary) → slice_get ss n ≡ Some s → slice_get ts n ≡ Some t → (k : ℕ) →
    watch_line k s ≡ watch_line k t) →
    (k : ℕ) → watch_lines k ss ≡ watch_lines k ts
same_lines [] [] long each k = refl
same_lines (s ∷ ss) (t ∷ ts) long each k =
    λ i. each 0 s t refl refl k i ++ same_lines ss ts (omega (arith, long)) (λ n. each (suc n)) (k + 1) i
same_lines ss ts long each k = absurd (omega (arith, long))

module _ (graphs : EntriesGiveOneGraph) (machines : List Post) (rules : List RuleTree)
    (entries : List SealedEntry) where
  -- where the first entries are said, they are narrow after each
  pub none_wide : (k : ℕ) → k ≤ length entries → (ss : List Summary) → AreSummaries machines rules (take k entries) ss →
      (n : ℕ) → n < k → IsNarrowOver machines rules (take (n + 1) entries)
  none_wide k within ss said n less =
      let long = length-take-le k entries within in
      let (s, at) = element_at ss n (omega (arith, said.one_each, long, less)) in
      let a : After machines rules (take (n + 1) entries) s =
      subst (λ es. After machines rules es s) (take-take (n + 1) k entries (omega (arith, less))) (said.each n s at) in
      record {
        graph = a.graph;
        graphed = a.graphed;
        narrow = said_is_narrow graphs machines rules (take (n + 1) entries) s a;
      }

  -- entries that are all said aren't too wide after one of them
  all_narrow : (ss : List Summary) → AreSummaries machines rules entries ss → (place : ℕ) →
      IsTooWideAfter machines rules entries place → ⊥
  all_narrow ss said place late =
      let (s, at) = element_at ss late.before (subst (λ n. late.before < n) (sym said.one_each) late.within) in
      said_is_narrow graphs machines rules (take (late.before + 1) entries) s (said.each late.before s at) place
      late.too_wide

  -- the first that is too wide has one place, as entries are narrow after one before it
  one_late : (p q : ℕ) → IsTooWideAfter machines rules entries p → IsTooWideAfter machines rules entries q → p ≡ q
  one_late p q one other = elim (cases_order one.before other.before) [
    | inl same ↦ one_wide graphs machines rules (take (one.before + 1) entries) p q one.too_wide
        (subst (λ n. IsTooWideOver machines rules (take (n + 1) entries) q) (sym same) other.too_wide)
    | inr (inl less) ↦ absurd ((other.earlier one.before less).narrow p one.too_wide)
    | inr (inr more) ↦ absurd ((one.earlier other.before more).narrow q other.too_wide)
  ]

  -- entries give one answer
  pub summaries_agree : (source : RuleSource) (p q : Result (List Summary) Refusal) →
      GivesSummaries machines source rules entries p → GivesSummaries machines source rules entries q →
      Agree (λ ss ts. watch_lines 1 ss ≡ watch_lines 1 ts) p q
  summaries_agree source (Ok ss) (Ok ts) (few, a) (_, b) =
      same_lines ss ts (a.one_each ∙ sym b.one_each)
      (λ n s t at also. one_line graphs machines rules (take (n + 1) entries) s t (a.each n s at) (b.each n t also)) 1
  summaries_agree source (Ok ss) (Err r) (few, a) (inl (too, e)) = absurd (too few)
  summaries_agree source (Ok ss) (Err r) (few, a) (inr (_, (place, late, e))) = absurd (all_narrow ss a place late)
  summaries_agree source (Err r) (Ok ts) (inl (too, e)) (few, b) = absurd (too few)
  summaries_agree source (Err r) (Ok ts) (inr (_, (place, late, e))) (few, b) = absurd (all_narrow ts b place late)
  summaries_agree source (Err r) (Err s) (inl (too, e)) (inl (_, f)) = e ∙ sym f
  summaries_agree source (Err r) (Err s) (inl (too, e)) (inr (few, _)) = absurd (too few)
  summaries_agree source (Err r) (Err s) (inr (few, _)) (inl (too, f)) = absurd (too few)
  summaries_agree source (Err r) (Err s) (inr (_, (p, one, e))) (inr (_, (q, other, f))) =
      e ∙ ap (λ n. refused (source_word source) n (codes "TooWide")) (one_late p q one other) ∙ sym f
