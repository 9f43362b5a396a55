-- What a call on a file's bytes leaves of the rest.
use Rattle.std.proofs.Common.{◌≡◌, ℕ, true, false, cond, List, eqb-true, refl, ap, sym}
use Rattle.std.specs.Prelude.{nat_eq}
use Rattle.folder_calls.specs.World.{FolderMoment, holding, file_flushed}

pub regular_held : (w : FolderMoment) (i j : ℕ) (bytes : List ℕ)
    → ((holding i bytes w).node j).regular ≡ (w.node j).regular
regular_held w i j bytes = elim (nat_eq j i) as (λ t. nat_eq j i ≡ t
    → (cond t (record (w.node i) { bytes = bytes; flushed = false }) (w.node j)).regular ≡ (w.node j).regular) [
      | true ↦ λ e. ap (λ k. (w.node k).regular) (sym (eqb-true j i e))
      | false ↦ λ e. refl
    ] refl

pub regular_flushed : (w : FolderMoment) (i j : ℕ) → ((file_flushed i w).node j).regular ≡ (w.node j).regular
regular_flushed w i j = elim (nat_eq j i) as (λ t. nat_eq j i ≡ t
    → (cond t (record (w.node i) { flushed = true }) (w.node j)).regular ≡ (w.node j).regular) [
      | true ↦ λ e. ap (λ k. (w.node k).regular) (sym (eqb-true j i e))
      | false ↦ λ e. refl
    ] refl

pub bytes_flushed : (w : FolderMoment) (i j : ℕ) → ((file_flushed i w).node j).bytes ≡ (w.node j).bytes
bytes_flushed w i j = elim (nat_eq j i) as (λ t. nat_eq j i ≡ t
    → (cond t (record (w.node i) { flushed = true }) (w.node j)).bytes ≡ (w.node j).bytes) [
      | true ↦ λ e. ap (λ k. (w.node k).bytes) (sym (eqb-true j i e))
      | false ↦ λ e. refl
    ] refl
