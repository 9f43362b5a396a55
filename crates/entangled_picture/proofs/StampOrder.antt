-- Columns rise with stamps.
use Rattle.entangled_picture.proofs.Imports.{◌≡◌, ◌⊎◌, ℕ, zero, suc, ◌+◌, ◌<◌, ◌≤◌, Bool, true, List, [], ◌∷◌}
use Rattle.entangled_picture.proofs.Imports.{map, arith, Some, slice_get, none-some, AllPairs, zip, SealedEntry}
use Rattle.entangled_picture.proofs.Imports.{node_of_sealed, IsLower, Spot, Seen, Placed, next_column, next_stamp}
use Rattle.entangled_picture.proofs.Imports.{placed_after, placed_as, seen_of}
use Rattle.std.proofs.lemmas.Bool.Decides.{nat_tests}
use Rattle.std.specs.List.{All}
use Rattle.entangled_picture.specs.ByStamps.{GoByStamps}

-- from a column and its stamp to others: both stay, or both rise
abbrev pub Goes : ℕ → ℕ → ℕ → ℕ → Type 0
Goes column stamp column_then stamp_then =
    ((column ≡ column_then) × (stamp ≡ stamp_then)) ⊎ ((column < column_then) × (stamp < stamp_then))

goes_on : (c s d t e u : ℕ) → Goes c s d t → Goes d t e u → Goes c s e u
goes_on c s d t e u p q = grind arith

-- from a column and its stamp each entry goes on to others, which are its own if it is drawn
abbrev pub Chain : ℕ → ℕ → List Placed → Type 0
Chain column stamp [] = Unit {0}
Chain column stamp (next ∷ rest) = record {
  column_then : ℕ;
  stamp_then : ℕ;
  goes : Goes column stamp column_then stamp_then;
  own : (a : Spot) → next.at ≡ Some a → (a.column ≡ column_then) × (next.seen.stamp ≡ stamp_then);
  after : Chain column_then stamp_then rest;
}

-- the survivors of a graph are such a chain, since their stamps rise
pub chained : (kept : List SealedEntry) (drawn : List Bool) (before : List Seen) (column stamp : ℕ) →
    All (λ (e : SealedEntry). stamp ≤ e.entry.stamp) kept → AllPairs (IsLower node_of_sealed) kept →
    Chain column stamp (placed_after before column stamp (zip (map seen_of kept) drawn))
chained [] drawn before column stamp low pairs = tt
chained (e ∷ es) [] before column stamp low pairs = tt
chained (e ∷ es) (d ∷ ds) before column stamp low pairs =
    let lowest = low 0 e (omega arith) in
    let next : Seen × Bool = (seen_of e, d) in
    record {
      column_then = next_column column stamp next;
      stamp_then = next_stamp stamp next;
      goes = grind (arith, nat_tests);
      own = λ a is. grind (arith, nat_tests);
      after = chained es ds _ _ _
          (λ k f within. let lower = pairs 0 (suc k) f (omega arith) (omega arith) in grind (arith, nat_tests))
          (λ i j f less within. pairs (suc i) (suc j) f (omega arith) (omega arith));
    }

-- it goes on to the column and the stamp of each that is drawn
later : (column stamp : ℕ) (ps : List Placed) → Chain column stamp ps → (j : ℕ) (q : Placed) (b : Spot) →
    slice_get ps j ≡ Some q → q.at ≡ Some b → Goes column stamp b.column q.seen.stamp
later column stamp [] chain j q b e at = absurd (none-some q e)
later column stamp (p ∷ ps) chain zero q b e at = grind arith
later column stamp (p ∷ ps) chain (suc j) q b e at =
    goes_on column stamp _ _ _ _ chain.goes (later _ _ ps chain.after j q b e at)

-- of two that are drawn one is further right if and only if its stamp is greater
pub ordered : (column stamp : ℕ) (ps : List Placed) → Chain column stamp ps → GoByStamps ps
ordered column stamp [] chain i j p q a b e f at bt = absurd (none-some p e)
ordered column stamp (x ∷ ps) chain zero zero p q a b e f at bt = grind arith
ordered column stamp (x ∷ ps) chain zero (suc j) p q a b e f at bt =
    let goes = later _ _ ps chain.after j q b f bt in grind arith
ordered column stamp (x ∷ ps) chain (suc i) zero p q a b e f at bt =
    let goes = later _ _ ps chain.after i p a e at in grind arith
ordered column stamp (x ∷ ps) chain (suc i) (suc j) p q a b e f at bt =
    ordered _ _ ps chain.after i j p q a b e f at bt
