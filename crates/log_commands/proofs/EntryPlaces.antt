-- Looking for an entry among survivors.
use Rattle.log_commands.proofs.Imports.{ap, arith, below_more, Bool, by_number, bytes_eq, bytes_eq-Decides, Equal}
use Rattle.log_commands.proofs.Imports.{get_or, Greater, is_lt, IsLowerAt, IsNamedBy, IsNumbered, IsPlaceOf, IsTrue}
use Rattle.log_commands.proofs.Imports.{length, Less, List, ltb-true, member_at, nat_cmp, nat_list_cmp_total, nat_lt}
use Rattle.log_commands.proofs.Imports.{None, one_at, Option, Ordering, ordering_reverse, Post, refl, SealedEntry}
use Rattle.log_commands.proofs.Imports.{slice_cmp, slice_get, slice_get-get_or, slice_get_within, Some, subst, sym}
use Rattle.log_commands.proofs.Imports.{true, ℕ, ◌+◌, ◌<◌, ◌↔◌, ◌∙◌, ◌≡◌, ◌≤◌}

-- e has a lower digest than f
abbrev pub IsUnder : SealedEntry → SealedEntry → Type 0
IsUnder e f = slice_cmp nat_cmp e.digest f.digest ≡ Less

-- no entry has a lower digest than itself
not_under_itself : (e : SealedEntry) → IsUnder e e → ⊥
not_under_itself e under =
    let no : Less ≡ Greater = sym under ∙ nat_list_cmp_total.antisymm e.digest e.digest
    ∙ ap ordering_reverse under in cc

module _ (P : SealedEntry → Type 0) (S : List SealedEntry) where
  -- P holds of no entry before this place
  abbrev pub NoneBefore : ℕ → Type 0
  NoneBefore at = (i : ℕ) → i < at → (f : SealedEntry) → slice_get S i ≡ Some f → ¬ P f

  -- P holds of no entry before the next place, where it doesn't hold of the entry at this one
  pub none_more : (at : ℕ) (e : SealedEntry) → slice_get S at ≡ Some e → ¬ P e → NoneBefore at → NoneBefore (at + 1)
  none_more at e is not_this before =
      below_more (λ i. (f : SealedEntry) → slice_get S i ≡ Some f → ¬ P f) at before
      (λ f same holds. not_this (subst P (sym (one_at S at e f is same)) holds))

  -- where all places are checked, it holds of no entry of S
  pub none_at_all : (at : ℕ) → length S ≤ at → NoneBefore at → IsPlaceOf P S None
  none_at_all at past before f (k, within, is) =
      before k (omega arith) f (slice_get-get_or S k f within ∙ ap Some is)

  -- of the entries before this place of which P holds, the one at the other place has the least
  -- digest, or there is none
  abbrev pub LeastBefore : ℕ → Option ℕ → Type 0
  LeastBefore at None = NoneBefore at
  LeastBefore at (Some place) =
      (e : SealedEntry) × (slice_get S place ≡ Some e) × P e
      × ((i : ℕ) → i < at → (f : SealedEntry) → slice_get S i ≡ Some f → P f → ¬ IsUnder f e)

  -- the entry at this place has a lower digest
  pub least_here : (at : ℕ) (least : Option ℕ) (e : SealedEntry) → slice_get S at ≡ Some e → P e →
      IsLowerAt S at least → LeastBefore at least → LeastBefore (at + 1) (Some at)
  least_here at least e is holds lower before = (
    e,
    is,
    holds,
    below_more _ at (by least lower before) (λ f same has under.
        not_under_itself e (subst (λ u. IsUnder u e) (sym (one_at S at e f is same)) under)),
  )
    where
      -- it has a lower one than those before it
      by : (least : Option ℕ) → IsLowerAt S at least → LeastBefore at least → (i : ℕ) → i < at → (f : SealedEntry) →
          slice_get S i ≡ Some f → P f → ¬ IsUnder f e
      by None lower before i low f same has under = before i low f same has
      by (Some place) (g, h, at_g, at_h, lower) (k, at_k, has_k, least) i low f same has under =
          least i low f same has (nat_list_cmp_total.trans f.digest e.digest k.digest under
          (coe 0 1 (j. IsUnder (one_at S at g e at_g is j) (one_at S place h k at_h at_k j)) lower))

  -- the entry at this place is none of them
  pub least_passes : (at : ℕ) (least : Option ℕ) (e : SealedEntry) → slice_get S at ≡ Some e → ¬ P e →
      LeastBefore at least → LeastBefore (at + 1) least
  least_passes at None e is not_this before = none_more at e is not_this before
  least_passes at (Some place) e is not_this (k, at_k, has_k, least) = (
    k,
    at_k,
    has_k,
    below_more _ at least
        (λ f same has. absurd (not_this (subst P (sym (one_at S at e f is same)) has))),
  )

  -- the entry with the least digest stays that where the one at this place doesn't have a lower
  -- digest
  pub least_stays : (at : ℕ) (least : Option ℕ) (e : SealedEntry) → slice_get S at ≡ Some e → ¬ IsLowerAt S at least →
      LeastBefore at least → LeastBefore (at + 1) least
  least_stays at None e is not_lower before = absurd (not_lower tt)
  least_stays at (Some place) e is not_lower (k, at_k, has_k, least) =
      (k, at_k, has_k, below_more _ at least (λ f same has under. not_lower (f, k, same, at_k, under)))

-- whether the machine at a place has a name
pub named_at : (posts machines : List Post) (place : ℕ) (post : Post) (shown machine : List ℕ) (answer : Bool) →
    posts ≡ machines → place < length posts → post ≡ get_or posts place post → shown ≡ post.name →
    answer ≡ bytes_eq shown machine →
    IsTrue answer ↔ ((p : Post) × (slice_get machines place ≡ Some p) × (p.name ≡ machine))
named_at posts machines place post shown machine answer same within is name told =
    let at : slice_get machines place ≡ Some post =
    subst (λ ps. slice_get ps place ≡ Some post) same (slice_get-get_or posts place post within ∙ ap Some (sym is)) in
    let decides = bytes_eq-Decides shown machine in (
      λ yes. (post, at, sym name ∙ decides.0 (sym told ∙ yes)),
      λ (p, at_p, named).
          let one : post ≡ p = one_at machines place post p at at_p in
          told ∙ decides.1 (name ∙ ap (λ (q : Post). q.name) one ∙ named),
    )

-- past the end there is none
pub none_named : (posts machines : List Post) (place : ℕ) (machine : List ℕ) (answer : Bool) → posts ≡ machines →
    (place < length posts → ⊥) → answer ≡ nat_lt place (length posts) →
    IsTrue answer ↔ ((p : Post) × (slice_get machines place ≡ Some p) × (p.name ≡ machine))
none_named posts machines place machine answer same past told = (
  λ yes. absurd (past (ltb-true place (length posts) (sym told ∙ yes))),
  λ (p, at_p, named).
      absurd (past (subst (λ ps. place < length ps) (sym same) (slice_get_within machines place p at_p))),
)

-- whether one digest is lower
pub lower_at : (S : List SealedEntry) (at other : ℕ) (e f : SealedEntry) (d c : List ℕ) (answer : Bool) →
    slice_get S at ≡ Some e → slice_get S other ≡ Some f → d ≡ e.digest → c ≡ f.digest →
    answer ≡ is_lt (slice_cmp nat_cmp d c) → IsTrue answer ↔ IsLowerAt S at (Some other)
lower_at S at other e f d c answer at_e at_f same_d same_c told =
    let told' : answer ≡ is_lt (slice_cmp nat_cmp e.digest f.digest) =
    told ∙ ap (λ b. is_lt (slice_cmp nat_cmp b c)) same_d
    ∙ ap (λ b. is_lt (slice_cmp nat_cmp e.digest b)) same_c in (
      λ yes. (e, f, at_e, at_f, less (slice_cmp nat_cmp e.digest f.digest) (sym told' ∙ yes)),
      λ (g, h, at_g, at_h, under).
          told'
          ∙ ap (λ (u : SealedEntry). is_lt (slice_cmp nat_cmp u.digest f.digest)) (one_at S at e g at_e at_g)
          ∙ ap (λ (u : SealedEntry). is_lt (slice_cmp nat_cmp g.digest u.digest)) (one_at S other f h at_f at_h)
          ∙ ap is_lt under,
    )
  where
    -- what passes the test for less is less
    less : (o : Ordering) → is_lt o ≡ true → o ≡ Less
    less Less e = refl
    less Equal e = cc
    less Greater e = cc

-- the place that is found among all entries is that of the entry that the machine and number name
pub number_found : (machines : List Post) (machine : List ℕ) (number : ℕ) (S : List SealedEntry) (at : ℕ)
    (least : Option ℕ) → length S ≤ at → LeastBefore (IsNumbered machines machine number) S at least →
    IsPlaceOf (IsNamedBy machines S (by_number machine number)) S least
number_found machines machine number S at None past before =
    λ f has (also, numbered, low). none_at_all (IsNumbered machines machine number) S at past before f has numbered
number_found machines machine number S at (Some place) past (e, is, numbered, least) = (
  e,
  is,
  (
    member_at S place e is,
    numbered,
    λ f (k, within, same) has.
        least k (omega arith) f (slice_get-get_or S k f within ∙ ap Some same) has,
  ),
)
