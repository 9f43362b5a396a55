-- A number that no call gave to a file is fresh.
use Rattle.std.proofs.Common.{◌≡◌, ◌∙◌, ℕ, true, false, cond, List, [], ◌∷◌, Option, Some, None, eq-eqb, refl, ap, sym, subst, inl, inr, ⊎_elim}
use Rattle.std.specs.Prelude.{◌⊎◌, string_bytes, unwrap_or, nat_eq}
use Rattle.std.specs.Str.{bytes_eq}
use Rattle.std.proofs.lemmas.Bool.{false≢true}
use Rattle.folder_calls.specs.World.{FolderMoment, Among, IsUnused, Does, does, Makes, stands, removed, created, name_flushed}
use Rattle.folder_calls.proofs.Steps.{same_name}
use Rattle.folder_tests.specs.declared.disk.Call.{Call}
use Rattle.folder_tests.specs.declared.disk.Call.TheVariants.{Put, Create, Append, Empty, FlushFile, Rename, Remove, FlushName}
use Rattle.folder_tests.specs.Memory.{effect_of, now_of, moments_of, numbers, is_numbered}

abbrev IsThere : Option ℕ → Type 0
IsThere None = ⊥
IsThere (Some i) = Unit {0}

-- one of what stands or stood under the name
abbrev Has : FolderMoment → List ℕ → ℕ → Type 0
Has w name i = Among (w.at name ∷ w.before name) (Some i)

no_number : (i : ℕ) → Some i ≡ None → ⊥
no_number i e = subst IsThere e tt

among_stands : (w : FolderMoment) (changed name : List ℕ) (entry : Option ℕ) (i : ℕ)
    → Has (stands changed entry w) name i → (Some i ≡ entry) ⊎ Has w name i
among_stands w changed name entry i = elim (bytes_eq name changed) as (λ t. bytes_eq name changed ≡ t
    → Among (cond t entry (w.at name) ∷ cond t (w.at changed ∷ w.before changed) (w.before name)) (Some i)
    → (Some i ≡ entry) ⊎ Has w name i) [
      | true ↦ λ is among. ⊎_elim (λ now. inl now)
          (λ earlier. inr (subst (λ n. Has w n i) (sym (same_name name changed is)) earlier)) among
      | false ↦ λ is among. inr among
    ] refl

among_flushed : (w : FolderMoment) (flushed name : List ℕ) (i : ℕ) → Has (name_flushed flushed w) name i → Has w name i
among_flushed w flushed name i = elim (bytes_eq name flushed) as (λ t.
    Among (w.at name ∷ cond t [] (w.before name)) (Some i)
    → Has w name i) [
      | true ↦ λ among. ⊎_elim (λ now. inl now) (λ none. absurd none) among
      | false ↦ λ among. among
    ]

not_numbered : (call : Call) (calls : List Call) (i : ℕ) → is_numbered (call ∷ calls) i ≡ false
    → (numbers call i ≡ false) × (is_numbered calls i ≡ false)
not_numbered call calls i = elim (numbers call i) as (λ t. cond t true (is_numbered calls i) ≡ false
    → (t ≡ false) × (is_numbered calls i ≡ false)) [
      | true ↦ λ e. absurd (false≢true (sym e))
      | false ↦ λ e. (refl, e)
    ]

other_number : (number i : ℕ) → nat_eq number i ≡ false → Some i ≡ Some number → ⊥
other_number number i differ e =
    false≢true (sym differ ∙ eq-eqb number i (sym (ap (λ o. unwrap_or o 0) e)))

pub is_fresh : (calls : List Call) (i : ℕ) → is_numbered calls i ≡ false → IsUnused i (now_of calls)
is_fresh [] i new name among = ⊎_elim (λ e. no_number i e) (λ none. none) among
is_fresh (Put put number bytes found ∷ calls) i new name among =
    let parts = not_numbered (Put put number bytes found) calls i new in
    ⊎_elim (λ e. other_number number i parts.0 e) (λ old. is_fresh calls i parts.1 name old)
    (among_stands (now_of calls) (string_bytes put) name (Some number) i
    (among_flushed (stands (string_bytes put) (Some number) (now_of calls)) (string_bytes put) name i among))
is_fresh (Create made number ∷ calls) i new name among =
    let parts = not_numbered (Create made number) calls i new in
    ⊎_elim (λ e. other_number number i parts.0 e) (λ old. is_fresh calls i parts.1 name old)
    (among_stands (now_of calls) (string_bytes made) name (Some number) i among)
is_fresh (Append number bytes ∷ calls) i new name among = is_fresh calls i new name among
is_fresh (Empty number ∷ calls) i new name among = is_fresh calls i new name among
is_fresh (FlushFile number ∷ calls) i new name among = is_fresh calls i new name among
is_fresh (Rename from to ∷ calls) i new name among =
    let w = now_of calls in
    ⊎_elim
    (λ e. is_fresh calls i new (string_bytes from) (inl e))
    (λ rest. ⊎_elim (λ e. no_number i e) (λ old. is_fresh calls i new name old)
    (among_stands w (string_bytes from) name None i rest))
    (among_stands (stands (string_bytes from) None w) (string_bytes to) name (w.at (string_bytes from)) i among)
is_fresh (Remove gone ∷ calls) i new name among =
    ⊎_elim (λ e. no_number i e) (λ old. is_fresh calls i new name old)
    (among_stands (now_of calls) (string_bytes gone) name None i among)
is_fresh (FlushName flushed ∷ calls) i new name among =
    is_fresh calls i new name (among_flushed (now_of calls) (string_bytes flushed) name i among)

-- a file that is made under a free name
pub makes : (name : List ℕ) (old new : List Call) (i : ℕ) (call : Call) → IsUnused i (now_of old)
    → effect_of call ≡ created name i → new ≡ call ∷ old → Makes name (moments_of old) (moments_of new) (Some i)
makes name old new i call fresh is did =
    (ap moments_of did ∙ ap (λ step. step (now_of old) ∷ moments_of old) is, fresh)

-- another program removed the name, or nothing was done
pub removed_meanwhile : (name : List ℕ) (old new : List Call) (call : Call) → effect_of call ≡ removed name
    → new ≡ call ∷ old → Does (removed name) false (moments_of old) (moments_of new)
removed_meanwhile name old new call is did =
    inr (ap moments_of did ∙ ap (λ step. step (now_of old) ∷ moments_of old) is)

pub not_removed : (name : List ℕ) (old new : List Call) → new ≡ old
    → Does (removed name) false (moments_of old) (moments_of new)
not_removed name old new same = inl (ap moments_of same)

-- a call that was made did its step
pub did : (old new : List Call) (call : Call) (step : FolderMoment → FolderMoment) → effect_of call ≡ step
    → new ≡ call ∷ old
    → moments_of new ≡ does step (moments_of old)
did old new call step is made = ap moments_of made ∙ ap (λ f. f (now_of old) ∷ moments_of old) is

-- a call that is answered as it went
pub done_or_not : (call : Call) (old new : List Call) → (new ≡ old) ⊎ (new ≡ call ∷ old)
    → Does (effect_of call) false (moments_of old) (moments_of new)
done_or_not call old new (inl same) = inl (ap moments_of same)
done_or_not call old new (inr did) = inr (ap moments_of did)
