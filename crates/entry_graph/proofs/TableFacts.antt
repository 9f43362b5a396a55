-- Tables of numbers by digest, with one number more.
use Rattle.entry_graph.proofs.Imports.{◌≡◌, ℕ, true, false, cond, List, [], ◌∷◌, ◌++◌, length, take, get_or, ◌+◌, ◌<◌}
use Rattle.entry_graph.proofs.Imports.{arith, refl, sym, ap, subst, ◌∙◌, ◌⊎◌, inl, inr, Some, None, slice_get}
use Rattle.entry_graph.proofs.Imports.{Contains, bytes_eq, cases_Bool, cond-true, cond-false, length-take-le}
use Rattle.entry_graph.proofs.Imports.{Contains-push, Contains-push_cases, Contains-append_left, none-some, same_Some}
use Rattle.entry_graph.proofs.Imports.{bytes_eq-Decides, Node, last_at, push_before, push_cases}
use Rattle.entry_graph.proofs.Imports.{taken_more, number_at, IsTableOf, AreStamps, ArePlaces}

-- the table has this number at the digest, and all else as before
abbrev pub IsSet : List (List ℕ × ℕ) → List (List ℕ × ℕ) → List ℕ → ℕ → Type 0
IsSet before after digest n =
    (d : List ℕ) → number_at after d ≡ cond (bytes_eq digest d) (Some n) (number_at before d)

-- one number more that belongs to its digest
table_more : (Belongs More : List ℕ → ℕ → Type 0) (before after : List (List ℕ × ℕ)) (digest : List ℕ) (n : ℕ)
    → IsSet before after digest n → IsTableOf Belongs before → More digest n
    → ((d : List ℕ) (m : ℕ) → Belongs d m → More d m)
    → ((d : List ℕ) (m : ℕ) → More d m → Belongs d m ⊎ (digest ≡ d)) → IsTableOf More after
table_more Belongs More before after digest n set table here keeps parts = record {
  found = λ d m e. elim (cases_Bool (bytes_eq digest d)) [
    | inl t ↦
        (let is : n ≡ m =
        same_Some n m (sym (set d ∙ cond-true (bytes_eq digest d) (Some n) (number_at before d) t) ∙ e) in
        subst (λ k. More d k) is (subst (λ k. More k n) ((bytes_eq-Decides digest d).0 t) here))
    | inr t ↦ keeps d m
        (table.found d m (sym (set d ∙ cond-false (bytes_eq digest d) (Some n) (number_at before d) t) ∙ e))
  ];
  lacks = λ d m e more. elim (cases_Bool (bytes_eq digest d)) [
    | inl t ↦
        none-some n (sym e ∙ set d ∙ cond-true (bytes_eq digest d) (Some n) (number_at before d) t)
    | inr t ↦ elim (parts d m more) [
      | inl belongs ↦ table.lacks d m
          (sym (set d ∙ cond-false (bytes_eq digest d) (Some n) (number_at before d) t) ∙ e) belongs
      | inr same ↦
          (let u : true ≡ false = sym ((bytes_eq-Decides digest d).1 same) ∙ t in cc)
    ]
  ];
}

module _ {T : Type 0} (node : T → Node) where
  -- an empty table says the places of no entry
  pub no_places : (table : List (List ℕ × ℕ)) → ((d : List ℕ) → number_at table d ≡ None) → ArePlaces node [] table
  no_places table none = record {
    found = λ d n e. absurd (none-some n (sym (none d) ∙ e));
    lacks = λ d n e (f, at, is). none-some f at;
  }

  -- the stamps of one entry more
  pub stamps_more : (es : List T) (e : T) (before after : List (List ℕ × ℕ)) → AreStamps node es before
      → IsSet before after (node e).digest (node e).stamp → AreStamps node (es ++ e ∷ []) after
  stamps_more es e before after table set =
      table_more (λ d n. (f : T) × Contains es f × ((node f).digest ≡ d) × ((node f).stamp ≡ n))
      (λ d n. (f : T) × Contains (es ++ e ∷ []) f × ((node f).digest ≡ d) × ((node f).stamp ≡ n))
      before after (node e).digest (node e).stamp set table
      (e, Contains-push es e, refl, refl)
      (λ d m (f, c, is, stamp). (f, Contains-append_left es (e ∷ []) f c, is, stamp))
      (λ d m (f, c, is, stamp). elim (Contains-push_cases es e f c) [
        | inl h ↦ inl (f, h, is, stamp)
        | inr same ↦ inr (ap (λ z. (node z).digest) same ∙ is)
      ])

  -- the places of one entry more
  pub places_more : (es : List T) (e : T) (before after : List (List ℕ × ℕ)) → ArePlaces node es before
      → IsSet before after (node e).digest (length es) → ArePlaces node (es ++ e ∷ []) after
  places_more es e before after table set =
      table_more (λ d n. (f : T) × (slice_get es n ≡ Some f) × ((node f).digest ≡ d))
      (λ d n. (f : T) × (slice_get (es ++ e ∷ []) n ≡ Some f) × ((node f).digest ≡ d))
      before after (node e).digest (length es) set table
      (e, last_at es e, refl)
      (λ d m (f, at, is). (f, push_before es e m f at, is))
      (λ d m (f, at, is). elim (push_cases es e m f at) [
        | inl h ↦ inl (f, h, is)
        | inr same ↦ inr (ap (λ z. (node z).digest) same ∙ is)
      ])

  -- with one entry more, the table that was set says the stamps of the entries so far
  pub stamps_step : (es : List T) (i : ℕ) (e : T) (before after : List (List ℕ × ℕ)) → i < length es
      → e ≡ get_or es i e → AreStamps node (take i es) before
      → IsSet before after (node e).digest (node e).stamp → AreStamps node (take (i + 1) es) after
  stamps_step es i e before after within is table set =
      subst (λ xs. AreStamps node xs after) (sym (taken_more es i e within is))
      (stamps_more (take i es) e before after table set)

  -- with one entry more, the table that was set says the places of the entries so far
  pub places_step : (es : List T) (i : ℕ) (e : T) (before after : List (List ℕ × ℕ)) → i < length es
      → e ≡ get_or es i e → ArePlaces node (take i es) before → IsSet before after (node e).digest i
      → ArePlaces node (take (i + 1) es) after
  places_step es i e before after within is table set =
      subst (λ xs. ArePlaces node xs after) (sym (taken_more es i e within is))
      (places_more (take i es) e before after table
      (subst (λ n. IsSet before after (node e).digest n) (sym (length-take-le i es (omega arith))) set))
