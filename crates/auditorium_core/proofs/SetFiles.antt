-- Files that are set, and names.
use Rattle.auditorium_core.proofs.Imports.{ap, Bool, bytes_eq, bytes_eq-Decides, cases_Bool, cond, eq_self, file_set}
use Rattle.auditorium_core.proofs.Imports.{Files, inl, inr, List, not_from_Decides, same_name, Some, ℕ, ◌≡◌, ◌≢◌, ◌⊎◌}

-- two names are one or not
pub same_or_not : (a b : List ℕ) → (a ≡ b) ⊎ (a ≢ b)
same_or_not a b =
    elim (cases_Bool (bytes_eq a b)) [
      | inl same ↦ inl (same_name a b same)
      | inr apart ↦ inr (not_from_Decides (bytes_eq a b) (bytes_eq-Decides a b) apart)
    ]

-- a set file has its bytes
pub set_here : (files : Files) (name bytes : List ℕ) → file_set files name bytes name ≡ Some bytes
set_here files name bytes = ap (λ (b : Bool). cond b (Some bytes) (files name)) (eq_self name)

-- every other one is as it was
pub set_elsewhere : (files : Files) (name bytes other : List ℕ) → other ≢ name →
    file_set files name bytes other ≡ files other
set_elsewhere files name bytes other differ =
    elim (cases_Bool (bytes_eq other name)) [
      | inl same ↦ absurd (differ (same_name other name same))
      | inr apart ↦ ap (λ (b : Bool). cond b (Some bytes) (files other)) apart
    ]
