-- What a read gives of the bytes of a file.
use Rattle.folder_calls.specs.World.{GivesPart, IsPieceFrom}
use Rattle.folder_tests.specs.{Memory.moments_of, Memory.now_of, declared.disk.Call.Call}
use Rattle.std.proofs.Common.{[], ap, arith, drop, length, List, min, None, refl, Some, subst, sym, take, ℕ, ◌++◌, ◌-◌}
use Rattle.std.proofs.Common.{◌<◌, ◌∙◌, ◌≡◌, ◌≤◌}
use Rattle.std.proofs.lemmas.List.{drop_at, length-drop, length-take-le, take_at}
use Rattle.std.specs.{Option.IsSomeAnd, Prelude.option_map}

-- past the end there is nothing
pub none_past : (bytes : List ℕ) (at : ℕ) → length bytes ≤ at → IsPieceFrom at [] bytes
none_past bytes at past = (refl, ((λ _. past), (λ _. refl)))

-- before the end there is as much as there is room for
pub some_before : (bytes into copied : List ℕ) (at count : ℕ) → at < length bytes
    → count ≡ min (length bytes - at) (length into) → 0 < length into → copied ≡ take count (drop at bytes)
    → (count ≤ length into) × (drop count (copied ++ drop count into) ≡ drop count into)
    × IsPieceFrom at (take count (copied ++ drop count into)) bytes
some_before bytes into copied at count before is some copy =
    let rest : count ≤ length (drop at bytes) = omega (arith, length-drop at bytes) in
    let long : length copied ≡ count = ap length copy ∙ length-take-le count (drop at bytes) rest in
    let part : IsPieceFrom at copied bytes = (
      copy ∙ ap (λ k. take k (drop at bytes)) (sym long),
      ((λ none. absurd (omega arith)), (λ past. absurd (omega arith))),
    ) in
    let P : List ℕ → Type 0 = λ p. IsPieceFrom at p bytes in (
      omega arith,
      drop_at copied (drop count into) count long,
      subst P (sym (take_at copied (drop count into) count long)) part,
    )

-- what a read gives of the file that has the name
pub gives : (calls : List Call) (name : List ℕ) (at : ℕ) (old new : List ℕ) (number n : ℕ)
    → Some number ≡ (now_of calls).at name → n ≤ length old → drop n new ≡ drop n old
    → IsPieceFrom at (take n new) ((now_of calls).node number).bytes
    → GivesPart (moments_of calls) name at old new (Some n)
gives calls name at old new number n there fits rest part = (
  fits,
  rest,
  subst (λ e. IsSomeAnd (option_map (λ i. ((now_of calls).node i).bytes) e) (IsPieceFrom at (take n new))) there part,
)

pub gives_none : (calls : List Call) (name : List ℕ) (at : ℕ) (into : List ℕ) → None ≡ (now_of calls).at name
    → GivesPart (moments_of calls) name at into into None
gives_none calls name at into free = (refl, ap (option_map (λ i. ((now_of calls).node i).bytes)) (sym free))
