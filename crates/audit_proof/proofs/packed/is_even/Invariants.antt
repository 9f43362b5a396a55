use Rattle.audit_proof.proofs.Imports.{false, list_any, listed_in, true, unpacked, ℕ, ◌<◌, ◌==◌, ◌≡◌}
use Rattle.audit_proof.proofs.packed.is_even.Given as goal

-- nothing is ragged of what the places so far list
abbrev pub invariant-loop-place : goal.invariant-loop-place
invariant-loop-place g l =
    (y : ℕ) → y < l.place → list_any (λ z. z == y) (listed_in (unpacked l.table)) ≡ true →
    (g.A.Arrows.graph l.graph).ragged y ≡ false
