-- Strays by the table of stamps, and sets of digests as ascending lists.
use Rattle.entry_graph.proofs.Imports.{◌≡◌, ℕ, ◌≤◌, Bool, true, false, cond, List, [], ◌∷◌, ◌++◌, refl, sym, ap}
use Rattle.entry_graph.proofs.Imports.{subst, ◌∙◌, inl, inr, Some, None, Option, ◌&&◌, ◌||◌, All, Contains, list_any}
use Rattle.entry_graph.proofs.Imports.{IsStrictlySortedBy, IsPermutation, slice_cmp, nat_cmp, is_at, BTreeSet}
use Rattle.entry_graph.proofs.Imports.{contains, Less, cases_Bool, true≢false, and_parts, and_from, le-leb, leb-true}
use Rattle.entry_graph.proofs.Imports.{false_from_ne_true, nat_list_cmp_total, eq_by_cmp_equiv, exact_bytes}
use Rattle.entry_graph.proofs.Imports.{btree_set_contains_iff, All-from_recursion, All-contains, Contains-permutation}
use Rattle.entry_graph.proofs.Imports.{IsPermutation-sym, sorted_head, sorted_tail, or-false, Node, IsAscending}
use Rattle.entry_graph.proofs.Imports.{IsStray, is_stray, survivors, list_any_some, list_any_of}
use Rattle.entry_graph.proofs.Imports.{survivors_are_no_strays, stamp_rises, is_stray_of, is_stray_from, AreStrays}
use Rattle.entry_graph.proofs.Imports.{HasNoDigestTwice, NamesLower, is_from, number_at, AreStamps}
use Rattle.entry_graph.proofs.Places.{any_push, equal_from, one_entry}

-- keys that rise strictly are ascending digests
pub ascending_from_sorted : (ds : List (List ℕ)) → IsStrictlySortedBy (slice_cmp nat_cmp) ds → IsAscending ds
ascending_from_sorted [] sorted = tt
ascending_from_sorted (d ∷ ds) sorted =
    let P : List ℕ → Type 0 = λ c. slice_cmp nat_cmp d c ≡ Less in
    let low : All P ds = All-from_recursion P ds (sorted_head (slice_cmp nat_cmp) d ds sorted) in
    ((λ c h. All-contains P ds c low h), ascending_from_sorted ds (sorted_tail (slice_cmp nat_cmp) d ds sorted))

-- a number that is found and is at least this one
from_parts : (least : ℕ) (found : Option ℕ) → is_from least found ≡ true → (n : ℕ) × (found ≡ Some n) × (least ≤ n)
from_parts least None t = absurd (true≢false (sym t))
from_parts least (Some n) t = (n, refl, leb-true least n t)

module _ {T : Type 0} (node : T → Node) where
  -- whether the table has a stamp that isn't lower at a digest that the entry names
  abbrev pub names_from : List (List ℕ × ℕ) → T → Bool
  names_from table e = list_any (λ d. is_from (node e).stamp (number_at table d)) (node e).names

  -- such a digest is that of a given entry with this stamp
  stray_by_table : (given : List T) (e : T) (table : List (List ℕ × ℕ)) → AreStamps node given table
      → names_from table e ≡ true → IsStray node given e
  stray_by_table given e table stamps t =
      let (d, named, test) = list_any_some (λ d. is_from (node e).stamp (number_at table d)) (node e).names t in
      let (n, found, high) = from_parts (node e).stamp (number_at table d) test in
      let (f, there, bears, stamp) = stamps.found d n found in (
        f,
        there,
        subst (λ d. Contains (node e).names d) (sym bears) named,
        subst (λ s. (node e).stamp ≤ s) (sym stamp) high,
      )

  -- and the stamp of each given entry that is named is found
  table_by_stray : (given : List T) (e : T) (table : List (List ℕ × ℕ)) → HasNoDigestTwice node given
      → AreStamps node given table → IsStray node given e → names_from table e ≡ true
  table_by_stray given e table single stamps (g, c, names, high) =
      let at : (o : Option ℕ) → number_at table (node g).digest ≡ o → is_from (node e).stamp o ≡ true =
      λ o. elim o as (λ o. number_at table (node g).digest ≡ o → is_from (node e).stamp o ≡ true) [
        | None ↦ λ is. absurd (stamps.lacks (node g).digest (node g).stamp is (g, c, refl, refl))
        | Some n ↦ λ is.
            let (f, there, bears, stamp) = stamps.found (node g).digest n is in
            let same : f ≡ g = one_entry node given f g single there c bears in
            le-leb (node e).stamp n
            (subst (λ s. (node e).stamp ≤ s) (sym (ap (λ z. (node z).stamp) same) ∙ stamp) high)
      ] in
      list_any_of (λ d. is_from (node e).stamp (number_at table d)) (node e).names (node g).digest names
      (at (number_at table (node g).digest) refl)

  -- the table decides which entries are strays
  pub stray_is_told : (given : List T) (e : T) (table : List (List ℕ × ℕ)) → HasNoDigestTwice node given
      → AreStamps node given table → names_from table e ≡ is_stray node given e
  stray_is_told given e table single stamps =
      elim (cases_Bool (is_stray node given e)) [
        | inl t ↦ table_by_stray given e table single stamps (is_stray_from node given e t) ∙ sym t
        | inr t ↦
            false_from_ne_true (names_from table e)
            (λ u. true≢false (sym (is_stray_of node given e (stray_by_table given e table stamps u)) ∙ t))
            ∙ sym t
      ]

  -- survivors, in any order, have higher stamps than those that they name
  pub survivors_name_lower : (given S : List T) → IsPermutation (survivors node given) S → NamesLower node S
  survivors_name_lower given S moved e f ce cf names =
      let back : (g : T) → Contains S g → Contains (survivors node given) g =
      λ g. Contains-permutation S (survivors node given) g (IsPermutation-sym (survivors node given) S moved) in
      stamp_rises node given e f ((survivors_are_no_strays node given e).0 (back e ce)).1
      ((survivors_are_no_strays node given f).0 (back f cf)).0 names

-- a test that comes first or last
last_first : (a b : Bool) → cond a true b ≡ (b || a)
last_first true true = refl
last_first true false = refl
last_first false true = refl
last_first false false = refl

-- a set of digests has this one exactly when the test of it passes
pub strays_from : {T : Type 0} (node : T → Node) (given : List T) (set : BTreeSet (List ℕ)) (strays : List (List ℕ))
    → ((d : List ℕ) → contains (slice_cmp nat_cmp) set d
    ≡ list_any (λ e. is_stray node given e && is_at (slice_cmp nat_cmp (node e).digest) d) given)
    → strays ≡ set.keys → IsStrictlySortedBy (slice_cmp nat_cmp) strays → AreStrays node given strays
strays_from {T} node given set strays are is rises = record {
  rises = ascending_from_sorted strays rises;
  members = λ d.
      let iff = btree_set_contains_iff nat_list_cmp_total exact_bytes set d in
      let test = λ (e : T). is_stray node given e && is_at (slice_cmp nat_cmp (node e).digest) d in (
        (λ c.
            let (e, there, test) = list_any_some test given (sym (are d) ∙ iff.1 (subst (λ ks. Contains ks d) is c)) in
            let parts = and_parts (is_stray node given e) (is_at (slice_cmp nat_cmp (node e).digest) d) test in (
              e,
              there,
              is_stray_from node given e parts.0,
              exact_bytes (node e).digest d
                  (equal_from (slice_cmp nat_cmp (node e).digest d) parts.1),
            )),
        (λ (e, c, stray, same).
            subst (λ ks. Contains ks d) (sym is)
            (iff.0
            (are d
            ∙ list_any_of test given e c
            (and_from (is_stray node given e) (is_at (slice_cmp nat_cmp (node e).digest) d)
            (is_stray_of node given e stray)
            (subst (λ x. is_at (slice_cmp nat_cmp (node e).digest) x ≡ true) same
            ((eq_by_cmp_equiv nat_list_cmp_total).refl (node e).digest)))))),
      );
}

module _ {T : Type 0} (node : T → Node) (given es : List T) (e : T) (d : List ℕ) where
  -- whether an entry is a stray with this digest
  abbrev pub is_stray_at : T → Bool
  is_stray_at f = is_stray node given f && is_at (slice_cmp nat_cmp (node f).digest) d

  -- one stray more
  pub stray_more : (before after : Bool) → is_stray node given e ≡ true → before ≡ list_any is_stray_at es
      → after ≡ cond (is_at (slice_cmp nat_cmp (node e).digest) d) true before
      → after ≡ list_any is_stray_at (es ++ e ∷ [])
  stray_more before after stray is set =
      set ∙ ap (cond (is_at (slice_cmp nat_cmp (node e).digest) d) true) is
      ∙ last_first (is_at (slice_cmp nat_cmp (node e).digest) d) (list_any is_stray_at es)
      ∙ ap (λ b. list_any is_stray_at es || (b && is_at (slice_cmp nat_cmp (node e).digest) d)) (sym stray)
      ∙ sym (any_push is_stray_at es e)

  -- one survivor more
  pub survivor_more : (before : Bool) → is_stray node given e ≡ false → before ≡ list_any is_stray_at es
      → before ≡ list_any is_stray_at (es ++ e ∷ [])
  survivor_more before kept is =
      is ∙ sym (or-false (list_any is_stray_at es))
      ∙ ap (λ b. list_any is_stray_at es || (b && is_at (slice_cmp nat_cmp (node e).digest) d)) (sym kept)
      ∙ sym (any_push is_stray_at es e)
