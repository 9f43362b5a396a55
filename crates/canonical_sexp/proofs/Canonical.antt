-- Where bytes stop being exactly one text.
use Rattle.canonical_sexp.proofs.Imports.{◌≡◌, ◌∙◌, ℕ, inl, inr, List, [], length, ap, sym, refl, arith, append-nil}
use Rattle.canonical_sexp.proofs.Imports.{Read, text_of, Answers, IsCanonical, StopsAt}
use Rattle.canonical_sexp.specs.declared.read.Read.TheVariants as read
use Rattle.canonical_sexp.proofs.Exclusive.{whole_only, one_answer}

-- one text is answered whole, up to its end
pub canonical_is_whole : (bytes : List ℕ) (answer : Read) → Answers bytes answer → (canonical : IsCanonical bytes) →
    answer ≡ read.Whole canonical.0 (length bytes)
canonical_is_whole bytes answer is (tree, fits, text) =
    whole_only bytes answer tree [] is fits (text ∙ sym (append-nil (text_of tree)))
    ∙ ap (read.Whole tree) (sym (ap length text))

-- one text stops nowhere
pub stops_nowhere : (bytes : List ℕ) (at : ℕ) → IsCanonical bytes → StopsAt bytes at → ⊥
stops_nowhere bytes at canonical (inl (why, is)) =
    let same = canonical_is_whole bytes (read.Bad at why) is canonical in cc
stops_nowhere bytes at canonical (inr (inl (tree, is, more))) =
    let whole = canonical_is_whole bytes (read.Whole tree at) is canonical in
    let same : at ≡ length bytes = cc in omega arith
stops_nowhere bytes at canonical (inr (inr (is, end))) =
    let same = canonical_is_whole bytes read.Cut is canonical in cc

-- where an answer says that the bytes stop
abbrev stop_of : List ℕ → Read → ℕ
stop_of bytes (read.Whole value used) = used
stop_of bytes read.Cut = length bytes
stop_of bytes (read.Bad at why) = at

-- where bytes stop, some answer is right that says so
stop_answer : (bytes : List ℕ) (at : ℕ) → StopsAt bytes at →
    (answer : Read) × Answers bytes answer × (stop_of bytes answer ≡ at)
stop_answer bytes at (inl (why, is)) = (read.Bad at why, is, refl)
stop_answer bytes at (inr (inl (tree, is, more))) = (read.Whole tree at, is, refl)
stop_answer bytes at (inr (inr (is, end))) = (read.Cut, is, sym end)

-- bytes stop being one canonical text at one place
pub one_stop : (bytes : List ℕ) (at other : ℕ) → StopsAt bytes at → StopsAt bytes other → at ≡ other
one_stop bytes at other stops also =
    let (answer, right, here) = stop_answer bytes at stops in
    let (another, right', there) = stop_answer bytes other also in
    sym here ∙ ap (stop_of bytes) (one_answer bytes answer another right right') ∙ there

-- where they stop, with what it says of them
pub stops : (bytes : List ℕ) (at : ℕ) → StopsAt bytes at → StopsAt bytes at × (IsCanonical bytes → ⊥)
stops bytes at h = (h, λ canonical. stops_nowhere bytes at canonical h)
