use Rattle.live_auditor.proofs.Imports.{length, slice_get, Some, ℕ, ◌<◌, ◌≡◌, ◌≤◌}
use Rattle.live_auditor.proofs.appended.place_of.Given as goal

-- the digest is at no place from this one on
abbrev pub invariant-loop-place : goal.invariant-loop-place
invariant-loop-place l =
    (k : ℕ) → l.place ≤ k → k < length l.digests → slice_get l.digests k ≡ Some l.digest → ⊥
