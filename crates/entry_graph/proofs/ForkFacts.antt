-- Forks by the pairs that were seen.
use Rattle.entry_graph.proofs.Imports.{◌≡◌, ℕ, ◌+◌, ◌<◌, Bool, true, false, List, [], ◌∷◌, ◌++◌, length, take, get_or}
use Rattle.entry_graph.proofs.Imports.{refl, sym, ap, subst, ◌∙◌, inl, inr, arith, ◌↔◌, ◌&&◌, ◌||◌, is_at, BTreeSet}
use Rattle.entry_graph.proofs.Imports.{contains, Contains, list_any, IsStrictlySortedBy, IsTotalOrder, on_total}
use Rattle.entry_graph.proofs.Imports.{then_total, nat_cmp, Equal, true≢false, or_cases, or_left, or_right, and_parts}
use Rattle.entry_graph.proofs.Imports.{and_from, nat_cmp_total, eq_by_cmp_equiv, length-take, get_or-take}
use Rattle.entry_graph.proofs.Imports.{Contains-push, Contains-push_cases, Contains-append_left, list_any_more}
use Rattle.entry_graph.proofs.Imports.{exact_pairs, exact_unsigned, btree_set_contains_iff, slice_get-get_or, Node}
use Rattle.entry_graph.proofs.Imports.{Contains-none, list_any_some, list_any_of, taken_more, pair_cmp, IsFork}
use Rattle.entry_graph.proofs.Imports.{AreForks, HasNoDigestTwice}
use Rattle.entry_graph.proofs.Places.{equal_from, one_place}

-- makers and then numbers are a total order of pairs
pair_total : IsTotalOrder pair_cmp
pair_total = then_total (on_total (λ (p : ℕ × ℕ). p.0) nat_cmp_total) (on_total (λ (p : ℕ × ℕ). p.1) nat_cmp_total)

-- and only equal pairs compare as equal in it
pair_exact : (p q : ℕ × ℕ) → pair_cmp p q ≡ Equal → p ≡ q
pair_exact = exact_pairs nat_cmp nat_cmp exact_unsigned exact_unsigned

-- a pair at which another is found is that other
same_pair : (p q : ℕ × ℕ) → is_at (pair_cmp p) q ≡ true → p ≡ q
same_pair p q t = pair_exact p q (equal_from (pair_cmp p q) t)

-- and a pair is found at its equal
passes_pair : (p q : ℕ × ℕ) → p ≡ q → is_at (pair_cmp p) q ≡ true
passes_pair p q same =
    subst (λ r. is_at (pair_cmp p) r ≡ true) same ((eq_by_cmp_equiv pair_total).refl p)

-- which of two tests comes first makes no difference to whether either passes
or_swapped : (a b : Bool) → (a || b) ≡ (b || a)
or_swapped true true = refl
or_swapped true false = refl
or_swapped false true = refl
or_swapped false false = refl

-- an entry of the first ones isn't that at their end
pub new_at : {T : Type 0} (node : T → Node) (es : List T) (i : ℕ) (d : T) → HasNoDigestTwice node es → i < length es
    → Contains (take i es) (get_or es i d) → ⊥
new_at node es i d single within (k, l, is) =
    let e = get_or es i d in
    let lower : k < i = omega (arith, length-take i es) in
    let there : get_or es k e ≡ e = sym (get_or-take i es k e lower) ∙ is in
    let one : k ≡ i =
    one_place node es k i (get_or es k e) e single (slice_get-get_or es k e (omega arith))
    (slice_get-get_or es i d within) (ap (λ z. (node z).digest) there) in
    omega arith

module _ {T : Type 0} (node : T → Node) where
  -- the maker and the number of an entry
  abbrev pub pair_of : T → ℕ × ℕ
  pair_of e = ((node e).maker, (node e).number)

  -- whether one of the entries has the pair
  abbrev pub has_pair : List T → ℕ × ℕ → Bool
  has_pair es q = list_any (λ e. is_at (pair_cmp (pair_of e)) q) es

  -- no entry has a pair, and there is no fork, before the first
  pub no_fork : (f : Bool) (m n : ℕ) → f ≡ false → (f ≡ true) ↔ IsFork node [] m n
  no_fork f m n none =
      ((λ t. absurd (true≢false (sym t ∙ none))), (λ fork. absurd (Contains-none fork.0 fork.2)))

  -- the forks of one entry more
  pub fork_more : (es : List T) (e : T) (m n : ℕ) (f g : Bool) → (Contains es e → ⊥)
      → (f ≡ true) ↔ IsFork node es m n
      → g ≡ ((has_pair es (pair_of e) && is_at (pair_cmp (pair_of e)) (m, n)) || f)
      → (g ≡ true) ↔ IsFork node (es ++ e ∷ []) m n
  fork_more es e m n f g new before is = (
    λ t. elim (or_cases (has_pair es (pair_of e) && is_at (pair_cmp (pair_of e)) (m, n)) f (sym is ∙ t)) [
      | inl both ↦
          (let (seen, at_pair) = and_parts (has_pair es (pair_of e)) (is_at (pair_cmp (pair_of e)) (m, n)) both in
          let (a, there, test) = list_any_some (λ x. is_at (pair_cmp (pair_of x)) (pair_of e)) es seen in
          let last : pair_of e ≡ (m, n) = same_pair (pair_of e) (m, n) at_pair in
          let first : pair_of a ≡ (m, n) = same_pair (pair_of a) (pair_of e) test ∙ last in (
            a,
            e,
            Contains-append_left es (e ∷ []) a there,
            Contains-push es e,
            (λ same. new (subst (λ x. Contains es x) same there)),
            ap (λ (maker, _). maker) first,
            ap (λ (_, number). number) first,
            ap (λ (maker, _). maker) last,
            ap (λ (_, number). number) last,
          ))
      | inr old ↦
          (let (a, b, in_a, in_b, ne, am, an, bm, bn) = before.0 old in
          let left : (x : T) → Contains es x → Contains (es ++ e ∷ []) x = Contains-append_left es (e ∷ []) in
          (a, b, left a in_a, left b in_b, ne, am, an, bm, bn))
    ],
    λ (a, b, ca, cb, ne, am, an, bm, bn).
        is
        ∙ (elim (Contains-push_cases es e a ca) [
          | inl a_before ↦ elim (Contains-push_cases es e b cb) [
            | inl b_before ↦
                or_right (has_pair es (pair_of e) && is_at (pair_cmp (pair_of e)) (m, n)) f
                (before.1 (a, b, a_before, b_before, ne, am, an, bm, bn))
            | inr b_last ↦ here a a_before am an (ap (λ z. (node z).maker) b_last ∙ bm)
                (ap (λ z. (node z).number) b_last ∙ bn)
          ]
          | inr a_last ↦ elim (Contains-push_cases es e b cb) [
            | inl b_before ↦ here b b_before bm bn (ap (λ z. (node z).maker) a_last ∙ am)
                (ap (λ z. (node z).number) a_last ∙ an)
            | inr b_last ↦ absurd (ne (sym a_last ∙ b_last))
          ]
        ]),
  )
    where
      -- an entry before has the pair, and so has the last
      here : (x : T) → Contains es x → (node x).maker ≡ m → (node x).number ≡ n → (node e).maker ≡ m
          → (node e).number ≡ n
          → ((has_pair es (pair_of e) && is_at (pair_cmp (pair_of e)) (m, n)) || f) ≡ true
      here x c xm xn em en =
          let first : pair_of x ≡ (m, n) = λ i. (xm i, xn i) in
          let last : pair_of e ≡ (m, n) = λ i. (em i, en i) in
          or_left (has_pair es (pair_of e) && is_at (pair_cmp (pair_of e)) (m, n)) f
          (and_from (has_pair es (pair_of e)) (is_at (pair_cmp (pair_of e)) (m, n))
          (list_any_of (λ z. is_at (pair_cmp (pair_of z)) (pair_of e)) es x c
          (passes_pair (pair_of x) (pair_of e) (first ∙ sym last)))
          (passes_pair (pair_of e) (m, n) last))

  -- whether a pair is a fork of the first entries and one more: it was before, or the last makes it
  -- one
  pub fork_step : (es : List T) (i : ℕ) (e : T) (m n : ℕ) (f g : Bool) → HasNoDigestTwice node es → i < length es
      → e ≡ get_or es i e → (f ≡ true) ↔ IsFork node (take i es) m n
      → g ≡ ((has_pair (take i es) (pair_of e) && is_at (pair_cmp (pair_of e)) (m, n)) || f)
      → (g ≡ true) ↔ IsFork node (take (i + 1) es) m n
  fork_step es i e m n f g single within is before note =
      subst (λ xs. (g ≡ true) ↔ IsFork node xs m n) (sym (taken_more es i e within is))
      (fork_more (take i es) e m n f g
      (λ c. new_at node es i e single within (subst (λ x. Contains (take i es) x) is c)) before note)

  -- whether a pair was seen among the first entries and one more: it was before, or the last has it
  pub seen_step : (es : List T) (i : ℕ) (e : T) (q : ℕ × ℕ) (f g : Bool) → i < length es → e ≡ get_or es i e
      → f ≡ has_pair (take i es) q → g ≡ (is_at (pair_cmp (pair_of e)) q || f) → g ≡ has_pair (take (i + 1) es) q
  seen_step es i e q f g within is before note =
      let test : T → Bool = λ x. is_at (pair_cmp (pair_of x)) q in
      note ∙ ap (λ b. is_at (pair_cmp (pair_of e)) q || b) before
      ∙ or_swapped (test e) (has_pair (take i es) q)
      ∙ ap (λ x. has_pair (take i es) q || test x) is
      ∙ sym (list_any_more test es i e within)

  -- the forked pairs as a list
  pub forks_from : (es : List T) (set : BTreeSet (ℕ × ℕ)) (forks : List (ℕ × ℕ))
      → ((m n : ℕ) → (contains pair_cmp set (m, n) ≡ true) ↔ IsFork node es m n) → forks ≡ set.keys
      → IsStrictlySortedBy pair_cmp forks → AreForks node es forks
  forks_from es set forks are is rises = record {
    rises = rises;
    members = λ m n.
        let iff = btree_set_contains_iff pair_total pair_exact set (m, n) in (
          (λ c. (are m n).0 (iff.1 (subst (λ ks. Contains ks (m, n)) is c))),
          (λ fork. subst (λ ks. Contains ks (m, n)) (sym is) (iff.0 ((are m n).1 fork))),
        );
  }
