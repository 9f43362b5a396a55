-- What a call of the program leaves on a store that exposes its files.
use Rattle.auditorium_core.proofs.Imports.{[], absent, ap, arith, codes, file_set, Files, get_or, get_or-append-add}
use Rattle.auditorium_core.proofs.Imports.{inl, inr, length, length-append, List, Option, refl, Refusal, refusal_answer}
use Rattle.auditorium_core.proofs.Imports.{refused, same_Some, SetsSome, Some, sym, take, take_all, with_file}
use Rattle.auditorium_core.proofs.Imports.{with_files, ℕ, ◌++◌, ◌+◌, ◌∙◌, ◌∷◌, ◌≡◌, ◌≢◌, ◌⊎◌}
use Rattle.auditorium_core.proofs.SetFiles.{set_elsewhere}

-- the name of an office's file has another ending than those of the other files
pub office_is_no_other : (name other ending : List ℕ) → length ending ≡ 4 → get_or ending 3 0 ≢ 101 →
    name ++ codes ".office" ≢ other ++ ending
office_is_no_other name other ending four differs same =
    let long : length other + 3 ≡ length name + 6 =
    omega (arith, four, ap length same, length-append name (codes ".office"), length-append other ending) in
    differs (sym (get_or-append-add other ending 3 0) ∙ ap (λ (k : ℕ). get_or (other ++ ending) k 0) long
    ∙ ap (λ (n : List ℕ). get_or n (length name + 6) 0) (sym same) ∙ get_or-append-add name (codes ".office") 6 0)

-- files that are all set are set up to some place
pub set_whole : (old new : Option Files) (files : List (List ℕ × List ℕ)) → new ≡ with_files old files →
    SetsSome old files new
set_whole old new [] e = e
set_whole old new (file ∷ files) e = inr (set_whole (with_file old file.0 file.1) new files e)

-- a refusal writes no file
pub refusal_writes_none : (refusal : Refusal) → (refusal_answer refusal).files ≡ []
refusal_writes_none (absent file) = refl
refusal_writes_none (refused file place cause) = refl

-- what is left where two files are to be set: neither was touched, the first is a prefix, or the
-- first is whole and the second a prefix
abbrev pub IsLeftOfTwo : Files → List ℕ → List ℕ → List ℕ → List ℕ → Files → Type 0
IsLeftOfTwo before a x b y after =
    (after ≡ before)
    ⊎ ((n : ℕ) × (after ≡ file_set before a (take n x)))
    ⊎ ((n : ℕ) × (after ≡ file_set (file_set before a x) b (take n y)))

pub left_of_two : (before after : Files) (a x b y : List ℕ) →
    SetsSome (Some before) ((a, x) ∷ (b, y) ∷ []) (Some after) → IsLeftOfTwo before a x b y after
left_of_two before after a x b y (inl (inl e)) = inl (same_Some _ _ e)
left_of_two before after a x b y (inl (inr (n, e))) = inr (inl (n, same_Some _ _ e))
left_of_two before after a x b y (inr (inl (inl e))) =
    inr (inl (length x, same_Some _ _ e ∙ ap (file_set before a) (sym (take_all (length x) x (omega arith)))))
left_of_two before after a x b y (inr (inl (inr (n, e)))) = inr (inr (n, same_Some _ _ e))
left_of_two before after a x b y (inr (inr e)) =
    inr (inr (
      length y,
      same_Some _ _ e
          ∙ ap (file_set (file_set before a x) b) (sym (take_all (length y) y (omega arith))),
    ))

-- a file that is neither is as it was
pub left_elsewhere : (before after : Files) (a x b y other : List ℕ) → other ≢ a → other ≢ b →
    IsLeftOfTwo before a x b y after → after other ≡ before other
left_elsewhere before after a x b y other na nb (inl e) = ap (λ (f : Files). f other) e
left_elsewhere before after a x b y other na nb (inr (inl (n, e))) =
    ap (λ (f : Files). f other) e ∙ set_elsewhere before a (take n x) other na
left_elsewhere before after a x b y other na nb (inr (inr (n, e))) =
    ap (λ (f : Files). f other) e ∙ set_elsewhere (file_set before a x) b (take n y) other nb
    ∙ set_elsewhere before a x other na
