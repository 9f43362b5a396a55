-- Two tables that answer alike where every deed is of version 1.
use Rattle.entry_format.specs.declared.deed.How.TheVariants as word
use Rattle.deed_history.specs.{Deeds.Ends, Deeds.Overrides, VersionOne.EndsInVersion1}
use Rattle.entry_format.specs.EntryText.{IsDeedIn}
use Rattle.entry_format.specs.declared.deed.{Deed.Deed, Deed.TheVariants.Challenge, Deed.TheVariants.Override, How.How}
use Rattle.item_list.specs.Causes.{IsFirstOf}
use Rattle.std.proofs.Common.{[], ap, arith, inl, inr, List, refl, subst, sym, ℕ, ◌∙◌, ◌∷◌, ◌≡◌}
use Rattle.std.specs.Prelude.{All, Any, Err, Result, ◌↔◌}

-- where all elements have R, and P and Q are alike for those
pub any_alike : {X : Type 0} (R P Q : X → Type 0) (xs : List X) → All R xs → ((x : X) → R x → P x ↔ Q x) →
    Any P xs ↔ Any Q xs
any_alike R P Q xs all alike = (
  λ (i, x, within, at, holds). (i, x, within, at, (alike x (subst R at (all i x within))).0 holds),
  λ (i, x, within, at, holds). (i, x, within, at, (alike x (subst R at (all i x within))).1 holds),
)

-- what is 1 isn't 2
not_2 : (n : ℕ) → n ≡ 1 → n ≡ 2 → ⊥
not_2 n one two = omega arith

-- version 1 has no challenge, and no override that says cast
pub no_challenge : (deed : Deed) (session : ℕ) (ballot : List ℕ) → IsDeedIn 1 deed → deed ≡ Challenge session ballot → ⊥
no_challenge deed session ballot in_version is = not_2 1 refl (subst (IsDeedIn 1) is in_version)

-- no override of version 1 says cast
pub no_cast_override : (deed : Deed) (session : ℕ) → IsDeedIn 1 deed → deed ≡ Override session word.Cast → ⊥
no_cast_override deed session in_version is = not_2 1 refl (subst (IsDeedIn 1) is in_version)

-- a deed of version 1 ends a session exactly when the table of version 1 says so
pub ends_alike : (deed : Deed) (session : ℕ) → IsDeedIn 1 deed → Ends session deed ↔ EndsInVersion1 session deed
ends_alike deed session in_version = (
  λ ends. elim ends [
    | inl cast ↦ inl cast
    | inr others ↦ elim others [
      | inl cancel ↦ inr cancel
      | inr challenge ↦ absurd (no_challenge deed session challenge.0 in_version challenge.1)
    ]
  ],
  λ ends. elim ends [ inl cast ↦ inl cast | inr cancel ↦ inr (inl cancel) ],
)

-- an override of version 1 says cancel
says_cancel : (deed : Deed) (session : ℕ) (how : How) → IsDeedIn 1 deed → deed ≡ Override session how →
    deed ≡ Override session word.Cancel
says_cancel deed session word.Cancel in_version is = is
says_cancel deed session word.Cast in_version is = absurd (no_cast_override deed session in_version is)

-- in version 1 every override of a session cancels
pub overrides_alike : (deed : Deed) (session : ℕ) → IsDeedIn 1 deed →
    Overrides session deed ↔ (deed ≡ Override session word.Cancel)
overrides_alike deed session in_version =
    (λ override. says_cancel deed session override.0 in_version override.1, λ is. (word.Cancel, is))

-- the causes of a row apply where those of another do, and those that it has beyond them don't
-- apply
abbrev pub IsAlike : {Cause : Type 0} → List (Type 0 × Cause) → List (Type 0 × Cause) → Type 0
IsAlike [] [] = Unit {0}
IsAlike [] (other ∷ others) = ⊥
IsAlike ((applies, cause) ∷ row) [] = (applies → ⊥) × IsAlike row []
IsAlike ((applies, cause) ∷ row) ((holds, other) ∷ others) = (applies ↔ holds) × (cause ≡ other) × IsAlike row others

-- the first cause of the one row is the first of the other
first_to : {Cause : Type 0} (row others : List (Type 0 × Cause)) (answer : Result (Unit {0}) Cause) →
    IsAlike row others → IsFirstOf row answer → IsFirstOf others answer
first_to [] [] answer alike first = first
first_to [] (other ∷ others) answer alike first = absurd alike
first_to (cause ∷ row) [] answer (never, rest) (inl (applies, told)) = absurd (never applies)
first_to (cause ∷ row) [] answer (never, rest) (inr (not, later)) = first_to row [] answer rest later
first_to (cause ∷ row) (other ∷ others) answer (both, same, rest) (inl (applies, told)) =
    inl (both.0 applies, told ∙ ap Err same)
first_to (cause ∷ row) (other ∷ others) answer (both, same, rest) (inr (not, later)) =
    inr (λ applies. not (both.1 applies), first_to row others answer rest later)

-- an answer that is the first cause of the second of two rows that are alike is that of the first
first_from : {Cause : Type 0} (row others : List (Type 0 × Cause)) (answer : Result (Unit {0}) Cause) →
    IsAlike row others → IsFirstOf others answer → IsFirstOf row answer
first_from [] [] answer alike first = first
first_from [] (other ∷ others) answer alike first = absurd alike
first_from (cause ∷ row) [] answer (never, rest) first = inr (never, first_from row [] answer rest first)
first_from (cause ∷ row) (other ∷ others) answer (both, same, rest) (inl (applies, told)) =
    inl (both.1 applies, told ∙ ap Err (sym same))
first_from (cause ∷ row) (other ∷ others) answer (both, same, rest) (inr (not, later)) =
    inr (λ applies. not (both.0 applies), first_from row others answer rest later)

-- rows that are alike have the same first cause
pub first_alike : {Cause : Type 0} (row others : List (Type 0 × Cause)) (answer : Result (Unit {0}) Cause) →
    IsAlike row others → IsFirstOf row answer ↔ IsFirstOf others answer
first_alike row others answer alike = (first_to row others answer alike, first_from row others answer alike)

-- a row doesn't have the cause
abbrev pub IsNoneOf : {Cause : Type 0} → List (Type 0 × Cause) → Cause → Type 0
IsNoneOf [] cause = Unit {0}
IsNoneOf (other ∷ others) cause = (cause ≡ other.1 → ⊥) × IsNoneOf others cause

-- a cause that a row doesn't have is never its first
pub never_told : {Cause : Type 0} (row : List (Type 0 × Cause)) (cause : Cause) → IsNoneOf row cause →
    IsFirstOf row (Err cause) → ⊥
never_told [] cause none first = cc
never_told (other ∷ others) cause none (inl here) = none.0 (cc (here.1))
never_told (other ∷ others) cause none (inr later) = never_told others cause none.1 later.1
