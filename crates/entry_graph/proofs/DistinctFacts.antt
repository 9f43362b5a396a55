-- The distinct ones of some entries, and of one entry more.
use Rattle.entry_graph.proofs.Imports.{◌≡◌, ℕ, Bool, true, false, not, List, [], ◌∷◌, ◌++◌, append-nil, refl, sym, ap}
use Rattle.entry_graph.proofs.Imports.{◌∙◌, inl, inr, Contains, filter, bytes_eq, cases_Bool, true≢false}
use Rattle.entry_graph.proofs.Imports.{false_from_ne_true, not_from_false, not_from_true, cond-true, cond-false}
use Rattle.entry_graph.proofs.Imports.{filter-append, Contains-push_cases, bytes_eq-Decides, Node, IsBorneIn}
use Rattle.entry_graph.proofs.Imports.{has_digest, Contains-none, Contains-head, Contains-later, Contains-at}
use Rattle.entry_graph.proofs.Imports.{Contains-cons_cases, Contains-filter, Contains-filter_cases, has_digest_of}
use Rattle.entry_graph.proofs.Imports.{has_digest_from, distinct, HasNoCollision}
use Rattle.std.specs.Prelude.{◌≢◌}

-- one more element at the end of a filtered list
pub filter_keeps : {X : Type 0} (p : X → Bool) (xs : List X) (x : X) → p x ≡ true
    → filter p (xs ++ x ∷ []) ≡ filter p xs ++ x ∷ []
filter_keeps p xs x passes =
    filter-append p xs (x ∷ []) ∙ ap (λ ys. filter p xs ++ ys) (cond-true (p x) (x ∷ []) [] passes)

-- an element that fails the test adds nothing to the filtered list
pub filter_drops : {X : Type 0} (p : X → Bool) (xs : List X) (x : X) → p x ≡ false
    → filter p (xs ++ x ∷ []) ≡ filter p xs
filter_drops p xs x fails =
    filter-append p xs (x ∷ []) ∙ ap (λ ys. filter p xs ++ ys) (cond-false (p x) (x ∷ []) [] fails)
    ∙ append-nil (filter p xs)

module _ {T : Type 0} (node : T → Node) where
  -- whether the second has another digest than the first
  abbrev apart : T → T → Bool
  apart e f = not (bytes_eq (node f).digest (node e).digest)

  -- the test passes on two entries with different digests
  apart_of : (e f : T) → (node f).digest ≢ (node e).digest → apart e f ≡ true
  apart_of e f ne =
      not_from_false (bytes_eq (node f).digest (node e).digest)
      (false_from_ne_true (bytes_eq (node f).digest (node e).digest)
      (λ t. ne ((bytes_eq-Decides (node f).digest (node e).digest).0 t)))

  -- and fails on two entries with one digest
  not_apart : (e f : T) → (node f).digest ≡ (node e).digest → apart e f ≡ false
  not_apart e f same =
      not_from_true (bytes_eq (node f).digest (node e).digest)
      ((bytes_eq-Decides (node f).digest (node e).digest).1 same)

  -- the distinct ones are among those given
  pub distinct_given : (es : List T) (e : T) → Contains (distinct node es) e → Contains es e
  distinct_given [] e c = c
  distinct_given (x ∷ es) e c =
      elim (Contains-cons_cases x (filter (apart x) (distinct node es)) e c) [
        | inl is ↦ Contains-at x es e is
        | inr h ↦ Contains-later x es e
            (distinct_given es e (Contains-filter_cases (apart x) (distinct node es) e h).0)
      ]

  -- each given digest is that of a distinct one
  pub distinct_bears : (es : List T) (e : T) → Contains es e → IsBorneIn node (distinct node es) (node e).digest
  distinct_bears [] e c = absurd (Contains-none e c)
  distinct_bears (x ∷ es) e c =
      let rest = filter (apart x) (distinct node es) in
      let here : (g : T) → (node x).digest ≡ (node g).digest
      → IsBorneIn node (x ∷ rest) (node g).digest =
      λ g same. (x, Contains-head x rest, same) in
      elim (Contains-cons_cases x es e c) [
        | inl is ↦ here e (ap (λ z. (node z).digest) is)
        | inr h ↦
            (let (g, there, same) = distinct_bears es e h in
            elim (cases_Bool (bytes_eq (node g).digest (node x).digest)) [
              | inl t ↦ here e (sym ((bytes_eq-Decides (node g).digest (node x).digest).0 t) ∙ same)
              | inr t ↦ (
                g,
                Contains-later x rest g
                    (Contains-filter (apart x) (distinct node es) g there
                    (not_from_false (bytes_eq (node g).digest (node x).digest) t)),
                same,
              )
            ])
      ]

  -- an entry with a new digest is distinct from those before it
  pub distinct_new : (es : List T) (e : T) → ((g : T) → Contains es g → (node g).digest ≢ (node e).digest)
      → distinct node (es ++ e ∷ []) ≡ distinct node es ++ e ∷ []
  distinct_new [] e new = refl
  distinct_new (x ∷ es) e new =
      let rest = distinct_new es e (λ g c. new g (Contains-later x es g c)) in
      ap (λ ys. x ∷ filter (apart x) ys) rest
      ∙ ap (λ ys. x ∷ ys)
      (filter_keeps (apart x) (distinct node es) e
      (apart_of x e (λ same. new x (Contains-head x es) (sym same))))

  -- appending an entry whose digest an earlier one has leaves the distinct entries as they were
  pub distinct_again : (es : List T) (e g : T) → Contains es g → (node g).digest ≡ (node e).digest
      → distinct node (es ++ e ∷ []) ≡ distinct node es
  distinct_again [] e g c same = absurd (Contains-none g c)
  distinct_again (x ∷ es) e g c same =
      elim (cases_Bool (has_digest node es (node e).digest)) [
        | inl t ↦
            (let (g, there, same) = has_digest_from node es (node e).digest t in
            ap (λ ys. x ∷ filter (apart x) ys) (distinct_again es e g there same))
        | inr t ↦
            (let new : (f : T) → Contains es f → (node f).digest ≢ (node e).digest =
            λ f cf is. true≢false (sym (has_digest_of node es (node e).digest (f, cf, is)) ∙ t) in
            let head : (node e).digest ≡ (node x).digest =
            elim (Contains-cons_cases x es g c) [
              | inl is ↦ sym (ap (λ z. (node z).digest) is ∙ same)
              | inr h ↦ absurd (new g h same)
            ] in
            ap (λ ys. x ∷ filter (apart x) ys) (distinct_new es e new)
            ∙ ap (λ ys. x ∷ ys) (filter_drops (apart x) (distinct node es) e (not_apart x e head)))
      ]

  module _ (text : T → List ℕ) where
    -- one entry more, with a new digest
    pub no_collision_new : (es : List T) (e : T) → HasNoCollision node text es
        → ((g : T) → Contains es g → (node g).digest ≢ (node e).digest) → HasNoCollision node text (es ++ e ∷ [])
    no_collision_new es e none new f g cf cg same =
        elim (Contains-push_cases es e f cf) [
          | inl f_before ↦ elim (Contains-push_cases es e g cg) [
            | inl g_before ↦ none f g f_before g_before same
            | inr is ↦ absurd (new f f_before (same ∙ sym (ap (λ z. (node z).digest) is)))
          ]
          | inr f_last ↦ elim (Contains-push_cases es e g cg) [
            | inl g_before ↦ absurd (new g g_before (sym same ∙ sym (ap (λ z. (node z).digest) f_last)))
            | inr is ↦ sym (ap text f_last) ∙ ap text is
          ]
        ]

    -- one entry more, with the digest and the text of one before it
    pub no_collision_again : (es : List T) (e h : T) → HasNoCollision node text es → Contains es h
        → (node h).digest ≡ (node e).digest → text h ≡ text e → HasNoCollision node text (es ++ e ∷ [])
    no_collision_again es e h none ch same_digest same_text f g cf cg same =
        elim (Contains-push_cases es e f cf) [
          | inl f_before ↦ elim (Contains-push_cases es e g cg) [
            | inl g_before ↦ none f g f_before g_before same
            | inr is ↦
                none f h f_before ch (same ∙ sym (ap (λ z. (node z).digest) is) ∙ sym same_digest)
                ∙ same_text
                ∙ ap text is
          ]
          | inr f_last ↦ elim (Contains-push_cases es e g cg) [
            | inl g_before ↦
                sym (ap text f_last) ∙ sym same_text
                ∙ none h g ch g_before (same_digest ∙ ap (λ z. (node z).digest) f_last ∙ same)
            | inr is ↦ sym (ap text f_last) ∙ ap text is
          ]
        ]
