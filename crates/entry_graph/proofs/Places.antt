-- Places of entries, and entries of which no two have one digest.
use Rattle.entry_graph.proofs.Imports.{[], All, All-contains, All-filter, All-from_recursion, All-map, ap, arith, Bool}
use Rattle.entry_graph.proofs.Imports.{bytes_eq, bytes_eq-Decides, cond, Contains, Contains-get_or, Contains-map}
use Rattle.entry_graph.proofs.Imports.{Contains-map_cases, Equal, Err, false, false_from_ne_true, filter, get_or}
use Rattle.entry_graph.proofs.Imports.{Greater, HasNoDigestTwice, IfOk, is_eq, IsBorneIn, IsDistinct, IsDistinct-cons}
use Rattle.entry_graph.proofs.Imports.{IsDistinct-from_apart, IsDistinct-head, IsDistinct-push, IsDistinct-tail, Less}
use Rattle.entry_graph.proofs.Imports.{List, list_any, list_any-append, list_any_some, map, map_push, member_at}
use Rattle.entry_graph.proofs.Imports.{nat_list_eq_equiv, Node, none-some, Ok, or-false, Ordering, place_of}
use Rattle.entry_graph.proofs.Imports.{recursion_from_All, refl, Result, same_Some, slice_get, Some, subst, suc, sym}
use Rattle.entry_graph.proofs.Imports.{true, true≢false, zero, ℕ, ◌++◌, ◌||◌, ◌∙◌, ◌∷◌, ◌≡◌}

-- a test of equality that passes
pub equal_from : (o : Ordering) → is_eq o ≡ true → o ≡ Equal
equal_from Less t = absurd (true≢false (sym t))
equal_from Equal t = refl
equal_from Greater t = absurd (true≢false (sym t))

-- what one more passes or doesn't
pub any_push : {X : Type 0} (f : X → Bool) (xs : List X) (x : X) → list_any f (xs ++ x ∷ []) ≡ (list_any f xs || f x)
any_push f xs x = list_any-append f xs (x ∷ []) ∙ ap (λ b. list_any f xs || b) (or-false (f x))

-- what two clauses say of a result, taken together
pub if_ok_both : {A E : Type 0} (r : Result A E) {P Q R : A → Type 0} → IfOk r P → IfOk r Q
    → ((x : A) → P x → Q x → R x) → IfOk r R
if_ok_both (Ok x) p q both = both x p q
if_ok_both (Err e) p q both = tt

module _ {T : Type 0} (node : T → Node) where
  -- the first has another digest than each later one
  head_apart : (x : T) (es : List T) (e : T) → HasNoDigestTwice node (x ∷ es) → Contains es e
      → (node x).digest ≡ (node e).digest → ⊥
  head_apart x es e single c same =
      let digests = map (λ e. (node e).digest) es in
      let all : All (λ y. bytes_eq (node x).digest y ≡ false) digests =
      All-from_recursion (λ y. bytes_eq (node x).digest y ≡ false) digests
      (IsDistinct-head bytes_eq (node x).digest digests single) in
      let here : bytes_eq (node x).digest (node e).digest ≡ false =
      All-contains (λ y. bytes_eq (node x).digest y ≡ false) digests (node e).digest all
      (Contains-map (λ (e : T). (node e).digest) es e c) in
      true≢false (sym ((bytes_eq-Decides (node x).digest (node e).digest).1 same) ∙ here)

  -- a digest has one place
  pub one_place : (es : List T) (i j : ℕ) (e f : T) → HasNoDigestTwice node es → slice_get es i ≡ Some e
      → slice_get es j ≡ Some f → (node e).digest ≡ (node f).digest → i ≡ j
  one_place [] i j e f single ie jf same = absurd (none-some e ie)
  one_place (x ∷ es) zero zero e f single ie jf same = refl
  one_place (x ∷ es) zero (suc j) e f single ie jf same =
      absurd (head_apart x es f single (member_at es j f jf) (ap (λ z. (node z).digest) (same_Some x e ie) ∙ same))
  one_place (x ∷ es) (suc i) zero e f single ie jf same =
      absurd (head_apart x es e single (member_at es i e ie) (ap (λ z. (node z).digest) (same_Some x f jf) ∙ sym same))
  one_place (x ∷ es) (suc i) (suc j) e f single ie jf same =
      ap (λ n. suc n)
      (one_place es i j e f (IsDistinct-tail bytes_eq (node x).digest (map (λ e. (node e).digest) es) single) ie jf
      same)

  -- where no digest is there twice, a digest has one entry
  pub one_entry : (es : List T) (e f : T) → HasNoDigestTwice node es → Contains es e → Contains es f
      → (node e).digest ≡ (node f).digest → e ≡ f
  one_entry es e f single ce cf same =
      let (i, at_i) = place_of es e ce in
      let (j, at_j) = place_of es f cf in
      let one : i ≡ j = one_place es i j e f single at_i at_j same in
      same_Some e f (sym at_i ∙ ap (slice_get es) one ∙ at_j)

  -- a part of them too
  pub single_filter : (p : T → Bool) (es : List T) → HasNoDigestTwice node es → HasNoDigestTwice node (filter p es)
  single_filter p [] single = single
  single_filter p (x ∷ es) single =
      let digest : T → List ℕ = λ e. (node e).digest in
      let P : List ℕ → Type 0 = λ y. bytes_eq (digest x) y ≡ false in
      let all : All P (map digest es) =
      All-from_recursion P (map digest es) (IsDistinct-head bytes_eq (digest x) (map digest es) single) in
      let each : All (λ e. P (digest e)) es =
      λ k d within.
      All-contains P (map digest es) (digest (get_or es k d)) all
      (Contains-map digest es (get_or es k d) (Contains-get_or es k d within)) in
      let rest = single_filter p es (IsDistinct-tail bytes_eq (digest x) (map digest es) single) in
      elim (p x) as (λ b. IsDistinct bytes_eq (map digest (cond b (x ∷ filter p es) (filter p es)))) [
        | true ↦
            IsDistinct-cons bytes_eq (digest x) (map digest (filter p es))
            (recursion_from_All P (map digest (filter p es))
            (All-map P digest (filter p es) (All-filter p (λ e. P (digest e)) es each)))
            rest
        | false ↦ rest
      ]

  -- none, and one more whose digest is new
  pub single_none : HasNoDigestTwice node []
  single_none = IsDistinct-from_apart bytes_eq [] (λ i j d l within. absurd (omega arith))

  -- one more entry, whose digest none of them has, leaves each digest single
  pub single_push : (es : List T) (e : T) → HasNoDigestTwice node es → (IsBorneIn node es (node e).digest → ⊥)
      → HasNoDigestTwice node (es ++ e ∷ [])
  single_push es e single new =
      let digest : T → List ℕ = λ f. (node f).digest in
      let none : list_any (bytes_eq (digest e)) (map digest es) ≡ false =
      false_from_ne_true (list_any (bytes_eq (digest e)) (map digest es)) (λ t.
      let (d, there, test) = list_any_some (bytes_eq (digest e)) (map digest es) t in
      let (g, in_es, same) = Contains-map_cases digest es d there in
      new (g, in_es, same ∙ sym ((bytes_eq-Decides (digest e) d).0 test))) in
      subst (λ ds. IsDistinct bytes_eq ds) (sym (map_push digest es e))
      (IsDistinct-push nat_list_eq_equiv (map digest es) (digest e) single none)
