use Rattle.hall_outside.proofs.Imports.{content_of, drop, IsPlaceOf, stored, ℕ, ◌+◌, ◌≡◌}
use Rattle.hall_outside.proofs.memory_store.find.Given as goal

-- what is left has the file where all have it
abbrev pub invariant-loop-i : goal.invariant-loop-i
invariant-loop-i l = record {
  content : content_of (stored (drop l.i l.files)) l.name ≡ content_of (stored l.files) l.name;
  place : (j : ℕ) → IsPlaceOf (stored (drop l.i l.files)) l.name j → IsPlaceOf (stored l.files) l.name (l.i + j);
}
