-- The tokens from a place on: the one that begins there, and then those after it.
use Rattle.hall_text.specs.{Tokens.token_end, Tokens.tokens_from, declared.spans.Span.Span}
use Rattle.std.proofs.Common.{[], add-one, ap, arith, Bool, drop, drop-cons, false, get_or, length, List, refl, suc}
use Rattle.std.proofs.Common.{sym, true, zero, ℕ, ◌+◌, ◌-◌, ◌<◌, ◌∙◌, ◌∷◌, ◌≡◌, ◌≤◌}
use Rattle.std.proofs.lemmas.{Bool.le-ltb, Bool.lt-ltb, List.drop-drop}
use Rattle.std.specs.Prelude.{if◌then◌else◌, nat_lt}

-- the second of three where its test alone holds
second_of : {A : Type 0} (p q : Bool) (x y z : A) → p ≡ false → q ≡ true → (if p then x else if q then y else z) ≡ y
second_of p q x y z hp hq = rw (hp, hq) refl

-- the third where neither does
third_of : {A : Type 0} (p q : Bool) (x y z : A) → p ≡ false → q ≡ false → (if p then x else if q then y else z) ≡ z
third_of p q x y z hp hq = rw (hp, hq) refl

-- the bytes of a token are passed over
passed : (k at free : ℕ) (bytes : List ℕ) → at + k ≡ free
    → tokens_from at free bytes ≡ tokens_from free free (drop k bytes)
passed zero at free bytes is = let e : at ≡ free = omega (arith, is) in ap (λ n. tokens_from n free bytes) e
passed (suc k) at free [] is = refl
passed (suc k) at free (byte ∷ bytes) is =
    rw (lt-ltb at free (omega (arith, is))) (passed k (at + 1) free bytes (omega (arith, is)))

-- a token that begins at the place is followed by those after it
pub token_then : (text : List ℕ) (at end : ℕ) → at < length text → end ≡ token_end at (drop at text) → at < end
    → tokens_from at at (drop at text) ≡ record { start = at; end = end } ∷ tokens_from end end (drop end text)
token_then text at end within is some =
    let byte : ℕ = get_or text at 0 in
    let bytes : List ℕ = drop (at + 1) text in
    let split : drop at text ≡ byte ∷ bytes = rw add-one (drop-cons text at 0 within) in
    let ends : end ≡ token_end at (byte ∷ bytes) = is ∙ ap (token_end at) split in
    let k : ℕ = end - (at + 1) in
    let reach : at + 1 + k ≡ end = omega arith in
    ap (tokens_from at at) split
    ∙ second_of (nat_lt at at) (nat_lt at (token_end at (byte ∷ bytes))) _ _ _ (le-ltb at at (omega arith))
    (ap (nat_lt at) (sym ends) ∙ lt-ltb at end some)
    ∙ ap (λ (e : ℕ). record { start = at; end = e } ∷ tokens_from (at + 1) e bytes) (sym ends)
    ∙ ap (λ (tokens : List Span). record { start = at; end = end } ∷ tokens)
    (passed k (at + 1) end bytes reach
    ∙ ap (tokens_from end end) (drop-drop k (at + 1) text ∙ ap (λ n. drop n text) reach))

-- where none begins at the place all begin after it
pub no_token_there : (text : List ℕ) (at end : ℕ) → at < length text → end ≡ token_end at (drop at text) → end ≤ at
    → tokens_from at at (drop at text) ≡ tokens_from (at + 1) (at + 1) (drop (at + 1) text)
no_token_there text at end within is none =
    let byte : ℕ = get_or text at 0 in
    let bytes : List ℕ = drop (at + 1) text in
    let split : drop at text ≡ byte ∷ bytes = rw add-one (drop-cons text at 0 within) in
    let ends : end ≡ token_end at (byte ∷ bytes) = is ∙ ap (token_end at) split in
    ap (tokens_from at at) split
    ∙ third_of (nat_lt at at) (nat_lt at (token_end at (byte ∷ bytes))) _ _ _ (le-ltb at at (omega arith))
    (ap (nat_lt at) (sym ends) ∙ le-ltb at end none)
