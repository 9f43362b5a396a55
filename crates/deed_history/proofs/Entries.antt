-- What one entry more says, and what a state that keeps marks and lists notes of it.
use Rattle.deed_history.specs.Held.{HoldsOwn, HoldsSome}
use Rattle.entry_format.specs.declared.{deed.Deed.Deed, entry.Entry.Entry}
use Rattle.std.proofs.Common.{[], ap, Bool, cond, false, inl, inr, List, refl, subst, sym, true, ℕ, ◌++◌, ◌||◌, ◌∷◌}
use Rattle.std.proofs.{Common.◌≡◌, Common.◌⊎◌, lemmas.List.Elements.Contains-append_left}
use Rattle.std.proofs.lemmas.List.{Elements.Contains-push, Elements.Contains-push_cases, Quantifiers.Any-push}
use Rattle.std.specs.Bool.{Decides}
use Rattle.std.specs.Prelude.{Any, Contains, IsTrue, None, Option, Some, ◌↔◌}

-- an own entry with such a deed
abbrev pub IsOwnSuch : ℕ → (Deed → Type 0) → Entry → Type 0
IsOwnSuch owner IsSuch entry = (entry.maker ≡ owner) × IsSuch entry.deed

-- an entry with such a deed
abbrev pub IsSuchEntry : (Deed → Type 0) → Entry → Type 0
IsSuchEntry IsSuch entry = IsSuch entry.deed

-- what holds of one of the entries holds of one after another entry is appended
pub any_kept : {X : Type 0} (P : X → Type 0) (xs : List X) (x : X) → Any P xs → Any P (xs ++ x ∷ [])
any_kept P xs x (k, y, within, is, holds) =
    let (i, inside, at) = Contains-append_left xs (x ∷ []) y (k, within, is) in (i, y, inside, at, holds)

-- what holds of one of them with another appended holds of one of them or of that
pub any_cases : {X : Type 0} (P : X → Type 0) (xs : List X) (x : X) → Any P (xs ++ x ∷ []) → Any P xs ⊎ P x
any_cases P xs x (k, y, within, is, holds) =
    elim (Contains-push_cases xs x y (k, within, is)) [
      | inl (i, inside, at) ↦ inl (i, y, inside, at, holds)
      | inr same ↦ inr (subst P (sym same) holds)
    ]

-- A note is true exactly when some entry is such. It stays so with one entry more, where the new
-- note is true exactly when the old one is or that entry is such.
noted : {X : Type 0} {A B : Type 0} (P : X → Type 0) (xs : List X) (x : X) → A ↔ Any P xs → B ↔ (A ⊎ P x) →
    B ↔ Any P (xs ++ x ∷ [])
noted P xs x before after = (
  λ b. elim (after.0 b) [ inl old ↦ any_kept P xs x (before.0 old) | inr new ↦ Any-push P xs x new ],
  λ any. after.1 (elim (any_cases P xs x any) [ inl old ↦ inl (before.1 old) | inr new ↦ inr new ]),
)

-- a mark, after an entry that sets it or doesn't
set_or_was : {A : Type 0} (such mark : Bool) → Decides such A → IsTrue (such || mark) ↔ (IsTrue mark ⊎ A)
set_or_was true mark is = (λ set. inr (is.0 refl), λ either. refl)
set_or_was false mark is = (λ was. inl was, λ either. elim either [ inl was ↦ was | inr a ↦ cc (is.1 a) ])

-- a mark, after an entry that sets it where it is an own one, or doesn't
own_or_was : {A B : Type 0} (such own mark : Bool) → Decides such A → Decides own B →
    IsTrue (cond such (mark || own) mark) ↔ (IsTrue mark ⊎ (B × A))
own_or_was true own true is same = (λ set. inl refl, λ either. refl)
own_or_was true own false is same = (
  λ set. inr (same.0 set, is.0 refl),
  λ either. elim either [ inl was ↦ cc | inr (b, _) ↦ same.1 b ],
)
own_or_was false own mark is same =
    (λ was. inl was, λ either. elim either [ inl was ↦ was | inr (_, a) ↦ cc (is.1 a) ])

-- a mark of such deeds, whoever did them
pub some_marked : (P : Deed → Type 0) (entries : List Entry) (entry : Entry) (such mark : Bool) →
    Decides such (P entry.deed) → IsTrue mark ↔ HoldsSome entries P →
    IsTrue (such || mark) ↔ HoldsSome (entries ++ entry ∷ []) P
some_marked P entries entry such mark is before =
    noted (IsSuchEntry P) entries entry before (set_or_was such mark is)

-- a mark of such deeds of the owner
pub own_marked : (owner : ℕ) (P : Deed → Type 0) (entries : List Entry) (entry : Entry) (such own mark : Bool) →
    Decides such (P entry.deed) → Decides own (entry.maker ≡ owner) → IsTrue mark ↔ HoldsOwn owner entries P →
    IsTrue (cond such (mark || own) mark) ↔ HoldsOwn owner (entries ++ entry ∷ []) P
own_marked owner P entries entry such own mark is same before =
    noted (IsOwnSuch owner P) entries entry before (own_or_was such own mark is same)

-- the list with the element that an entry adds, where it adds one
abbrev pub added : {Y : Type 0} → List Y → Option Y → List Y
added ys None = ys
added ys (Some y) = ys ++ y ∷ []

-- its members are those before and what is added
pub in_added : {Y : Type 0} (ys : List Y) (said : Option Y) (z : Y) →
    Contains (added ys said) z ↔ (Contains ys z ⊎ (said ≡ Some z))
in_added ys None z = (λ at. inl at, λ either. elim either [ inl at ↦ at | inr is ↦ cc ])
in_added ys (Some y) z = (
  λ at. elim (Contains-push_cases ys y z at) [ inl old ↦ inl old | inr new ↦ inr (ap Some new) ],
  λ either. elim either [
    | inl old ↦ Contains-append_left ys (y ∷ []) z old
    | inr is ↦ let same : y ≡ z = cc is in subst (Contains (ys ++ y ∷ [])) same (Contains-push ys y)
  ],
)

-- what an entry adds, where it adds it only as an own one
abbrev pub if_own : {Y : Type 0} → Bool → Option Y → Option Y
if_own own None = None
if_own own (Some y) = cond own (Some y) None

-- an own entry alone adds it
pub own_says : {Y A B : Type 0} (own : Bool) (said : Option Y) (z : Y) → Decides own A → (A → (said ≡ Some z) ↔ B) →
    (if_own own said ≡ Some z) ↔ (A × B)
own_says own None z same says = (λ is. cc, λ (a, b). cc ((says a).1 b))
own_says true (Some y) z same says = let a = same.0 refl in (λ is. (a, (says a).0 is), λ (_, b). (says a).1 b)
own_says false (Some y) z same says = (λ is. cc, λ (a, _). cc (same.1 a))

-- what follows for a list that such deeds add to, whoever did them
pub some_listed : {Y : Type 0} (P : Deed → Type 0) (entries : List Entry) (entry : Entry) (ys : List Y)
    (said : Option Y) (z : Y) → (said ≡ Some z) ↔ P entry.deed → Contains ys z ↔ HoldsSome entries P →
    Contains (added ys said) z ↔ HoldsSome (entries ++ entry ∷ []) P
some_listed P entries entry ys said z says before =
    let (of_added, to_added) = in_added ys said z in
    noted (IsSuchEntry P) entries entry before (
      λ at. elim (of_added at) [ inl old ↦ inl old | inr new ↦ inr (says.0 new) ],
      λ either. to_added (elim either [ inl old ↦ inl old | inr new ↦ inr (says.1 new) ]),
    )

-- what follows for a list that such deeds of the owner add to
pub own_listed : {Y : Type 0} (owner : ℕ) (P : Deed → Type 0) (entries : List Entry) (entry : Entry) (own : Bool)
    (ys : List Y) (said : Option Y) (z : Y) → (said ≡ Some z) ↔ P entry.deed → Decides own (entry.maker ≡ owner) →
    Contains ys z ↔ HoldsOwn owner entries P →
    Contains (added ys (if_own own said)) z ↔ HoldsOwn owner (entries ++ entry ∷ []) P
own_listed owner P entries entry own ys said z says same before =
    let (of_added, to_added) = in_added ys (if_own own said) z in
    let (of_own, to_own) = own_says own said z same (λ _. says) in
    noted (IsOwnSuch owner P) entries entry before (
      λ at. elim (of_added at) [ inl old ↦ inl old | inr new ↦ inr (of_own new) ],
      λ either. to_added (elim either [ inl old ↦ inl old | inr new ↦ inr (to_own new) ]),
    )

-- a test that is true decides what holds
pub decides_true : {A : Type 0} → A → Decides true A
decides_true a = (λ yes. a, λ _. refl)

-- a test that is false decides what doesn't hold
pub decides_false : {A : Type 0} → (A → ⊥) → Decides false A
decides_false none = (λ yes. cc, λ a. absurd (none a))
