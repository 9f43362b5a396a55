-- What the survivors of a graph stand for, one after another.
use Rattle.survivor_rows.proofs.Imports.{◌≡◌, ◌∙◌, ℕ, ◌+◌, ◌<◌, List, [], ◌∷◌, ◌++◌, length, take, get_or, map, ap}
use Rattle.survivor_rows.proofs.Imports.{sym, subst, Some, slice_get, Contains, Contains-get_or, Contains-map}
use Rattle.survivor_rows.proofs.Imports.{All-contains, take_more, map-append, get_or_from_slice_get, Post, SealedEntry}
use Rattle.survivor_rows.proofs.Imports.{Row, HaveMakers}

-- the rows of the first entries, and one more
pub rows_more : {T : Type 0} (seen : T → Row) (survivors : List T) (i : ℕ) (entry : T) (row : Row)
    (rows new : List Row) → i < length survivors → slice_get survivors i ≡ Some entry →
    rows ≡ map seen (take i survivors) → row ≡ seen entry → new ≡ rows ++ row ∷ [] →
    new ≡ map seen (take (i + 1) survivors)
rows_more seen survivors i entry row rows new within at so_far is added =
    added ∙ ap (λ (r : Row). rows ++ r ∷ [])
    (is ∙ ap seen (sym (get_or_from_slice_get survivors i entry entry at)))
    ∙ ap (λ (rs : List Row). rs ++ seen (get_or survivors i entry) ∷ []) so_far
    ∙ sym (ap (map seen) (take_more survivors i entry within)
    ∙ map-append seen (take i survivors) (get_or survivors i entry ∷ []))

-- the maker of what a survivor stands for
pub maker_at : {T : Type 0} (sealed : T → SealedEntry) (machines : List Post) (survivors : List T) →
    HaveMakers machines (map sealed survivors) → (i : ℕ) (e : T) → i < length survivors →
    slice_get survivors i ≡ Some e → (sealed e).entry.maker < length machines
maker_at sealed machines survivors makers i e within at =
    All-contains (λ (s : SealedEntry). s.entry.maker < length machines) (map sealed survivors) (sealed e) makers
    (Contains-map sealed survivors e
    (subst (λ x. Contains survivors x) (get_or_from_slice_get survivors i e e at) (Contains-get_or survivors i e within)))
