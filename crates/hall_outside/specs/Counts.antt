-- Counts that never fall and stop at the greatest `u64`.
use Rattle.std.specs.Prelude.{ℕ, ◌+◌, ◌-◌, ◌^◌, ◌<◌, ◌≤◌, ◌≡◌, ◌⊎◌, Bool, if◌then◌else◌, max, min}

-- the count rose; one that is at the greatest `u64` counts as risen
abbrev pub HasRisen : ℕ → ℕ → Type 0
HasRisen before now = (before < now) ⊎ (2 ^ 64 ≤ now + 1)

-- the count with `n` more: it stops at the greatest `u64`, and never falls
abbrev pub raised : ℕ → ℕ → ℕ
raised count n = max count (min (count + n) (2 ^ 64 - 1))

-- a count of failures: it rises by one where a call fails, and only there
abbrev pub CountsFailures : ℕ → Bool → ℕ → Type 0
CountsFailures old ok new = new ≡ (if ok then old else raised old 1)

-- a count never falls, and the answer comes exactly when it rose: only then, and whenever it is
-- seen to rise
pub record HasCause (before now : ℕ) (answer : Type 0) : Type 0 where
  pub never_falls : before ≤ now
  pub only : answer → HasRisen before now
  pub always : before < now → answer

-- the answer comes exactly when a count rose: only then, and whenever it is seen to rise
pub record ComesExactly (before now : ℕ) (answer : Type 0) : Type 0 where
  pub only : answer → HasRisen before now
  pub always : before < now → answer
