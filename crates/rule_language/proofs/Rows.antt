-- The row of a text, from one place to the next.
use Rattle.hall_text.proofs.TokenLemmas.{between_after, between_none, some_bytes}
use Rattle.hall_text.specs.{Places.BeginsToken, Spans.IsParenthesis, Spans.IsToken, Spans.IsWordByte, Spans.piece}
use Rattle.hall_text.specs.Tokens.{is_parenthesis}
use Rattle.rule_language.proofs.Imports.{[], ap, arith, bad_byte, CutsNoWord, drop, drop_more, false, get_or, goes_on}
use Rattle.rule_language.proofs.Imports.{inl, inr, is_word_byte, IsNext, length, List, lt-ltb, nat_tests, ne_eqb, refl}
use Rattle.rule_language.proofs.Imports.{row_from, subst, suc, sym, token_then, true, zero, ℕ, ◌+◌, ◌-◌, ◌<◌, ◌∙◌, ◌∷◌}
use Rattle.rule_language.proofs.Imports.{◌==◌, ◌≡◌, ◌≤◌, ◌⊎◌}
use Rattle.rule_language.specs.Tokens.{is_separator}
use Rattle.std.proofs.{Common.take, lemmas.Bool.cases_lt, lemmas.Bool.le-ltb}
use Rattle.std.proofs.lemmas.List.{drop-drop, get_or-drop, length-drop}
unfoldable use Rattle.rule_language.specs.inside.Unread.{unread}

-- a byte of a word passes the test, and no other test
pub word_tested : (b : ℕ) → IsWordByte b → (is_separator b ≡ false) × (is_parenthesis b ≡ false)
    × (is_word_byte b ≡ true)
word_tested b word = (grind (arith, nat_tests), grind (arith, nat_tests), grind (arith, nat_tests))

-- what passes the test is a byte of a word
pub word_byte : (b : ℕ) → is_word_byte b ≡ true → IsWordByte b
word_byte b is = grind (arith, nat_tests)

-- a separator is passed over
pub separator_more : (text : List ℕ) (at : ℕ) → at < length text → is_separator (get_or text at 0) ≡ true →
    row_from at (drop at text) ≡ row_from (at + 1) (drop (at + 1) text)
separator_more text at within separates = rw (drop_more text at 0 within) (rw separates refl)

-- a separator begins no token
pub separator_begins : (b : ℕ) → is_separator b ≡ true → ¬ (IsWordByte b ⊎ IsParenthesis b)
separator_begins b separates = grind (arith, nat_tests)

-- what is known of a separator
pub ruleset separators = (separator_more, separator_begins, between_none)

-- whether a word goes on at a place
goes : (bytes : List ℕ) → 0 < length bytes → IsWordByte (get_or bytes 0 0) → goes_on bytes ≡ true
goes [] some word = absurd (omega arith)
goes (b ∷ bytes) some word = (word_tested b word).2

-- and whether it ends there
stops : (bytes : List ℕ) → (0 < length bytes → ¬ (IsWordByte (get_or bytes 0 0))) → goes_on bytes ≡ false
stops [] other = refl
stops (b ∷ bytes) other = let none : ¬ (IsWordByte b) = other (omega arith) in grind (arith, nat_tests)

-- bytes of a word, after which it ends, are a token
word_row : (n at : ℕ) (bytes : List ℕ) → suc n ≤ length bytes →
    ((i : ℕ) → i ≤ n → IsWordByte (get_or bytes i 0)) → goes_on (drop (suc n) bytes) ≡ false →
    row_from at bytes ≡ token_then at (take (suc n) bytes) (row_from (at + suc n) (drop (suc n) bytes))
word_row n at [] few all ends = absurd (omega arith)
word_row zero at (b ∷ bytes) few all ends =
    let (separates, alone, word) = word_tested b (all 0 (omega arith)) in
    rw separates (rw alone (rw word (rw ends refl)))
word_row (suc n) at (b ∷ bytes) few all ends =
    let (separates, alone, word) = word_tested b (all 0 (omega arith)) in
    let on : goes_on bytes ≡ true = goes bytes (omega arith) (all 1 (omega arith)) in
    let rest = word_row n (at + 1) bytes (omega arith) (λ i few. all (suc i) (omega arith)) ends in
    let place : at + 1 + suc n ≡ at + suc (suc n) = omega arith in
    rw separates (rw alone (rw word (rw on (rw rest (rw place refl)))))

-- a token, and what is after it
pub token_row : (text : List ℕ) (at end : ℕ) → at < end → IsToken text (record { start = at; end = end }) →
    row_from at (drop at text) ≡ token_then at (piece text (record { start = at; end = end }))
    (row_from end (drop end text))
token_row text at end some (inl word) =
    let inside : end ≤ length text = word.inside in
    let n : ℕ = end - at - 1 in
    let size : end - at ≡ suc n = omega arith in
    let place : at + suc n ≡ end = omega arith in
    let rest : drop (suc n) (drop at text) ≡ drop end text = drop-drop (suc n) at text ∙ ap (λ m. drop m text) place in
    let left : length (drop at text) ≡ length text - at = length-drop at text in
    let stop : goes_on (drop (suc n) (drop at text)) ≡ false = ap goes_on rest ∙ stops (drop end text) (λ more byte.
    word.ends (let some_left : length (drop end text) ≡ length text - end = length-drop end text in omega arith)
    (subst IsWordByte (get_or-drop end text 0 0 ∙ ap (λ m. get_or text m 0) (omega arith)) byte)) in
    word_row n at (drop at text) (omega arith) (λ i few.
    subst IsWordByte (sym (get_or-drop at text i 0)) (word.bytes (at + i) (omega arith) (omega arith))) stop
    ∙ rw (rest, place, ← size) refl
token_row text at end some (inr alone) =
    let inside : end ≤ length text = alone.inside in
    let one : end ≡ at + 1 = alone.one in
    let size : end - at ≡ 1 = omega arith in
    let byte : IsParenthesis (get_or text at 0) = alone.byte in
    let separates : is_separator (get_or text at 0) ≡ false = grind (arith, nat_tests) in
    let parenthesis : is_parenthesis (get_or text at 0) ≡ true = grind (arith, nat_tests) in
    let here : drop at text ≡ get_or text at 0 ∷ drop (at + 1) text = drop_more text at 0 (omega arith) in
    rw (size, one, here) (rw separates (rw parenthesis refl))

-- a byte that begins no token and separates none
pub bad_row : (text : List ℕ) (at : ℕ) → at < length text → is_separator (get_or text at 0) ≡ false →
    ¬ (BeginsToken text at) → row_from at (drop at text) ≡ bad_byte at
bad_row text at within separates none =
    let word : is_word_byte (get_or text at 0) ≡ false = grind (arith, nat_tests) in
    let parenthesis : is_parenthesis (get_or text at 0) ≡ false = grind (arith, nat_tests) in
    rw (drop_more text at 0 within) (rw separates (rw parenthesis (rw word refl)))

-- the token that begins there, or the bad byte
pub next_token : (text : List ℕ) (at end : ℕ) → at < length text → is_separator (get_or text at 0) ≡ false →
    CutsNoWord text at → (at < end → IsToken text (record { start = at; end = end })) →
    (end ≤ at → (end ≡ at) × ¬ (BeginsToken text at)) → IsNext text (record { start = at; end = end })
unfolding unread
next_token text at end within separates between token none = elim (cases_lt at end) [
  | inl some ↦ let (_, inside) = some_bytes text (record { start = at; end = end }) (token some) in record {
    order = omega arith;
    inside = inside;
    between = between_after text at end some (token some);
    row = token_row text at end some (token some) ∙ rw (lt-ltb at end some) refl;
  }
  | inr small ↦
      let (same, bad) = none small in
      let other : (at == length text) ≡ false = ne_eqb at (length text) (λ e. omega arith) in
      record {
        order = omega arith;
        inside = omega arith;
        between = subst (CutsNoWord text) (sym same) between;
        row = bad_row text at within separates bad ∙ rw (le-ltb at end small, other) refl;
      }
]
