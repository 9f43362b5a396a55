-- Which digests logs have, one record or log more.
use Rattle.log_files.specs.Logs.{LogRead}
use Rattle.report_page.proofs.Imports.{[], ap, Bool, get_or, length, List, map, map-append, sym, take, take_more, ℕ}
use Rattle.report_page.proofs.Imports.{◌++◌, ◌+◌, ◌<◌, ◌∙◌, ◌∷◌, ◌≡◌}
use Rattle.report_page.specs.{Entries.holder, Entries.is_in_log, Entries.number_if, inside.Held.has}
use Rattle.std.proofs.{Common.false, Common.refl, Common.true, lemmas.Option.same_Some, lemmas.Option.slice_get-map}
use Rattle.std.specs.List.{list_any}
use Rattle.std.specs.Prelude.{None, Option, option_map, slice_get, Some, ◌||◌}

or_false : (b : Bool) → (b || false) ≡ b
or_false true = refl
or_false false = refl

or_assoc : (a b c : Bool) → (a || (b || c)) ≡ ((a || b) || c)
or_assoc true b c = refl
or_assoc false b c = refl

or_comm : (a b : Bool) → (a || b) ≡ (b || a)
or_comm true true = refl
or_comm true false = refl
or_comm false true = refl
or_comm false false = refl

-- one of two lists' items passes where one of either's does
any_append : {A : Type 0} (f : A → Bool) (xs ys : List A) → list_any f (xs ++ ys) ≡ (list_any f xs || list_any f ys)
any_append f [] ys = refl
any_append f (x ∷ xs) ys =
    ap (λ (b : Bool). f x || b) (any_append f xs ys) ∙ or_assoc (f x) (list_any f xs) (list_any f ys)

-- one item more
pub any_more : {A : Type 0} (f : A → Bool) (xs : List A) (i : ℕ) (x : A) (now new : Bool) → i < length xs →
    x ≡ get_or xs i x → now ≡ list_any f (take i xs) → new ≡ (f x || now) → new ≡ list_any f (take (i + 1) xs)
any_more f xs i x now new within is so_far added =
    added ∙ or_comm (f x) now ∙ ap (λ (b : Bool). b || f x) so_far ∙ ap (λ (y : _). list_any f (take i xs) || f y) is
    ∙ sym (ap (list_any f) (take_more xs i x within) ∙ any_append f (take i xs) (get_or xs i x ∷ [])
    ∙ ap (λ (b : Bool). list_any f (take i xs) || b) (or_false (f (get_or xs i x))))

-- what is said of the first items and of the next one is said of one item more
pub said_more : {A B : Type 0} (f : A → Bool) (g : B → Bool) (xs : List A) (i : ℕ) (x : A) (now new : List B) (y : B) →
    i < length xs → x ≡ get_or xs i x → map g now ≡ map f (take i xs) → g y ≡ f x → new ≡ now ++ y ∷ [] →
    map g new ≡ map f (take (i + 1) xs)
said_more f g xs i x now new y within is so_far same added =
    ap (map g) added ∙ map-append g now (y ∷ []) ∙ ap (λ (bs : List Bool). bs ++ g y ∷ []) so_far
    ∙ ap (λ (b : Bool). map f (take i xs) ++ b ∷ []) (same ∙ ap f is)
    ∙ sym (ap (map f) (take_more xs i x within) ∙ map-append f (take i xs) (get_or xs i x ∷ []))

-- the number of a log of which this is known
by_test : (d : List ℕ) (place : ℕ) (log : Option LogRead) (b : Bool) → option_map (is_in_log d) log ≡ Some b →
    holder d place log ≡ number_if b place
by_test d place None b is = absurd (cc is)
by_test d place (Some log) b is = ap (λ (c : Bool). number_if c place) (same_Some (is_in_log d log) b is)

-- the number of the log at a place, by its digests
pub holder_at : (d : List ℕ) (place : ℕ) (logs : List LogRead) (held : List (List (List ℕ))) (one : List (List ℕ)) →
    map (λ other. has other d) held ≡ map (is_in_log d) logs → slice_get held place ≡ Some one →
    holder d place (slice_get logs place) ≡ number_if (has one d) place
holder_at d place logs held one same at =
    by_test d place (slice_get logs place) (has one d)
    (sym (slice_get-map (is_in_log d) logs place) ∙ ap (λ (bs : List Bool). slice_get bs place) (sym same)
    ∙ slice_get-map (λ other. has other d) held place
    ∙ ap (option_map (λ (other : List (List ℕ)). has other d)) at)
