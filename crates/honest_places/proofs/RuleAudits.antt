-- What is known of entries that an honest polling place sent, by themselves, and how wide rules are.
use Rattle.honest_places.proofs.Imports
use Imports.{[], ap, arith, Bool, cond, Contains, Contains-at, Contains-filter_cases, Contains-head, Contains-later}
use Imports.{count_by-le-length, count_of_rows, DigestsDiffer, Distinct, false, few_among, filter, fold-map, has_kind}
use Imports.{HasNoDouble, honest_entries_agree_in_orderly_worlds, is_too_wide, IsHonest, Kind, le-ltb, length}
use Imports.{length-filter, length-map, List, list_any, ltb-false, map, max_actions, mul-le-mul_left, mul-le-mul_right}
use Imports.{nat_lt, node_of_sealed, None, Option, or_from, or_parts, place_of, Post, quantified_kind, refl, Row}
use Imports.{row_of, rules_are_settled, SealedEntry, sent_in, Some, standard_rules, suc, Three, three_in, true}
use Imports.{unknown_only_by_gaps, WereSentIn, widens_by, World, zero, ℕ, ◌*◌, ◌+◌, ◌||◌, ◌∙◌, ◌∷◌, ◌≡◌, ◌≢◌, ◌≤◌}
use Rattle.entry_order.specs.declared.three.Three.TheVariants.{False, True, Unknown}
use Rattle.honest_places.proofs.Rules.{honest_entries_keep_the_rules, rule_p1}
use Rattle.honest_places.proofs.{Given.apart_filter, Lists.none_passes}
use Rattle.honest_places.specs.RulesKept.{HonestAuditsNeverSayBroken, HonestAuditsSayKept, StandardRulesAreNarrow}
use Rattle.rule_language.specs.Trees.{no_trees, RuleTree, tree_then, Trees}
use Rattle.rule_language.specs.declared.kind.Kind.TheVariants as kind

-- ---- what is known

-- what is neither false nor unknown is true
true_else : (x : Three) → x ≢ False → x ≢ Unknown → x ≡ True
true_else True broken unknown = refl
true_else False broken unknown = absurd (broken refl)
true_else Unknown broken unknown = absurd (unknown refl)

-- a rule that is known to be broken holds in no completion, and what was sent is one
pub honest_audits_never_say_broken : HonestAuditsNeverSayBroken
honest_audits_never_say_broken posts w honest distinct S were_sent single parents ragged graph rule standard broken =
    let agree = honest_entries_agree_in_orderly_worlds node_of_sealed w honest.orderly distinct S were_sent in
    let settled = rules_are_settled node_of_sealed (row_of posts) (length w) S (sent_in w) parents ragged single graph
    agree.completed rule.body in
    settled.1 broken (honest_entries_keep_the_rules posts w honest distinct S were_sent rule standard)

-- where all are given there is no gap, and so nothing is unknown
pub honest_audits_say_kept : HonestAuditsSayKept
honest_audits_say_kept posts w honest distinct S were_sent all single parents ragged graph rule standard =
    let agree = honest_entries_agree_in_orderly_worlds node_of_sealed w honest.orderly distinct S were_sent in
    true_else (three_in (map (row_of posts) S) parents ragged rule.body)
    (honest_audits_never_say_broken posts w honest distinct S were_sent single parents ragged graph rule standard)
    (λ unknown. (unknown_only_by_gaps node_of_sealed (row_of posts) S parents ragged graph rule.body unknown).1
    (agree.all_known all).no_gaps)

-- ---- the width of rules over the most rows of each kind

-- the most rows of each kind: one closing, and as many of any other kind as a script has actions
abbrev most : Kind → ℕ
most kind.Closed = 1
most other = 4096

-- over the most rows of its kind a quantifier is too wide, or what is inside is
abbrev exceeds_by : Option Kind → (ℕ → Bool) → ℕ → Bool
exceeds_by None inside width = inside width
exceeds_by (Some kind) inside width = nat_lt 268435456 (width * most kind) || inside (width * most kind)

-- over the most rows of each kind some formula is too wide
abbrev exceeds : Trees → ℕ → Bool
exceeds no_trees width = false
exceeds (tree_then form parts rest) width =
    exceeds_by (quantified_kind form) (exceeds parts) width || exceeds rest width

-- over the most rows of each kind no standard rule is too wide, which is computed
none_exceeds : list_any (λ (rule : RuleTree). exceeds rule.body 1) standard_rules ≡ false
none_exceeds = refl

module _ (rows : List Row) (few : (k : Kind) → count_of_rows rows k ≤ most k) where
  -- where a quantifier isn't too wide over the most rows, it isn't over these, in quantifiers that
  -- are no wider
  form_narrow : (o : Option Kind) (inside outer : ℕ → Bool) →
      ((n m : ℕ) → n ≤ m → outer m ≡ false → inside n ≡ false) → (n m : ℕ) → n ≤ m →
      exceeds_by o outer m ≡ false → widens_by rows o inside n ≡ false
  form_narrow None inside outer less n m le is = less n m le is
  form_narrow (Some k) inside outer less n m le is =
      let (first, rest) = or_parts (nat_lt 268435456 (m * most k)) (outer (m * most k)) is in
      let here : n * count_of_rows rows k ≤ m * most k =
      omega (arith, mul-le-mul_right (count_of_rows rows k) le, mul-le-mul_left m (few k)) in
      or_from (nat_lt 268435456 (n * count_of_rows rows k)) (inside (n * count_of_rows rows k))
      (le-ltb 268435456 (n * count_of_rows rows k)
      (omega (arith, here, ltb-false 268435456 (m * most k) first)))
      (less (n * count_of_rows rows k) (m * most k) here rest)

  -- where a formula isn't too wide over the most rows, it isn't over these
  rule_narrow : (rule : Trees) (n m : ℕ) → n ≤ m → exceeds rule m ≡ false → is_too_wide rows rule n ≡ false
  rule_narrow no_trees n m le is = refl
  rule_narrow (tree_then form parts rest) n m le is =
      let (first, later) = or_parts (exceeds_by (quantified_kind form) (exceeds parts) m) (exceeds rest m) is in
      or_from (widens_by rows (quantified_kind form) (is_too_wide rows parts) n) (is_too_wide rows rest n)
      (form_narrow (quantified_kind form) (is_too_wide rows parts) (exceeds parts) (rule_narrow parts) n m le first)
      (rule_narrow rest n m le later)

-- ---- the entries of an honest place

-- entries that stand once each differ in their digests, where only equal ones share one
apart : (S : List SealedEntry) → HasNoDouble S → Distinct node_of_sealed S → DigestsDiffer node_of_sealed S
apart [] single distinct = tt
apart (x ∷ xs) single distinct = (
  λ y c same.
      let is = distinct y x (Contains-later x xs y c) (Contains-head x xs) same in
      let (k, at) = place_of xs y c in
      absurd (omega (arith, single zero (suc k) x refl (at ∙ ap Some is))),
  apart xs (λ i j e at there. omega (arith, single (suc i) (suc j) e at there))
      (λ e f ce cf same. distinct e f (Contains-later x xs e ce) (Contains-later x xs f cf) same),
)

module _ (posts : List Post) (w : World SealedEntry) (honest : IsHonest posts w)
    (distinct : Distinct node_of_sealed (sent_in w)) (few_sent : length (sent_in w) ≤ max_actions)
    (S : List SealedEntry) (were_sent : WereSentIn w S) (single : HasNoDouble S) where
  -- their digests differ
  differ : DigestsDiffer node_of_sealed S
  differ = apart S single (λ e f ce cf same. distinct e f (were_sent e ce) (were_sent f cf) same)

  -- the entry is of the kind
  abbrev is_of : Kind → SealedEntry → Bool
  is_of k e = has_kind k (Some (row_of posts e))

  -- of no kind there are more rows than the most: all closings are one
  few_of : (k : Kind) → count_of_rows (map (row_of posts) S) k ≤ most k
  few_of kind.Closed =
      let closed = is_of kind.Closed in
      let rows = fold-map (λ a (row : Row). a + cond (has_kind kind.Closed (Some row)) 1 0) (row_of posts) 0 S in
      let alone =
      one (filter closed S) (apart_filter node_of_sealed closed S differ) (Contains-filter_cases closed S) in
      omega (arith, rows, alone, length-filter closed S)
    where
      -- of closings with different digests there is one at most
      one : (es : List SealedEntry) → DigestsDiffer node_of_sealed es →
          ((e : SealedEntry) → Contains es e → Contains S e × (is_of kind.Closed e ≡ true)) → length es ≤ 1
      one [] apart each = omega arith
      one (e ∷ es) apart each =
          let (ce, ke) = each e (Contains-head e es) in
          few_among node_of_sealed (e ∷ es) (e ∷ []) apart (λ f c.
          let (cf, kf) = each f c in
          Contains-at e [] f (rule_p1 honest distinct S were_sent e ce ke f cf kf))
  few_of k =
      let rows = map (row_of posts) S in
      let few = few_among node_of_sealed S (sent_in w) differ were_sent in
      let count = count_by-le-length (λ (row : Row). has_kind k (Some row)) rows in
      omega (arith, few_sent, few, count, length-map S (row_of posts))

-- no standard rule is too wide over entries that an honest place sent
pub standard_rules_are_narrow : StandardRulesAreNarrow
standard_rules_are_narrow posts w honest distinct few S were_sent single rule standard =
    rule_narrow (map (row_of posts) S) (few_of posts w honest distinct few S were_sent single) rule.body 1 1
    (omega arith) (none_passes (λ (r : RuleTree). exceeds r.body 1) standard_rules none_exceeds rule standard)

-- what is known of an honest place by its entries alone
pub ruleset rules_known = (honest_audits_never_say_broken, honest_audits_say_kept)
