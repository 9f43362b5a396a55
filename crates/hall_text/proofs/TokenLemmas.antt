-- The tokens that begin before a place, as the reader comes to it.
use Rattle.hall_text.proofs.SpanLists.{same_spans}
use Rattle.hall_text.specs.{Places.BeginsToken, Places.CutsNoWord, Spans.AreAll, Spans.IsAlone, Spans.IsParenthesis}
use Rattle.hall_text.specs.{Spans.IsToken, Spans.IsWord, Spans.IsWordByte, declared.spans.Span.Span}
use Rattle.std.proofs.Common.{arith, get_or, inl, inr, length, List, subst, ℕ, ⊎_elim, ◌+◌, ◌-◌, ◌<◌, ◌≡◌, ◌≤◌, ◌⊎◌}
use Rattle.std.proofs.lemmas.Bool.{cases_lt}

-- no parenthesis is a byte of a word
no_word_byte : (byte : ℕ) → IsWordByte byte → IsParenthesis byte → ⊥
no_word_byte byte word p = ⊎_elim (λ e. word.2 e) (λ e. word.3 e) p

module _ (text : List ℕ) where
  -- a token that begins before the place
  abbrev pub IsTokenBefore : ℕ → Span → Type 0
  IsTokenBefore at s = IsToken text s × (s.start < at)

  -- a token has a byte at least, and ends within the text
  pub some_bytes : (s : Span) → IsToken text s → (s.start < s.end) × (s.end ≤ length text)
  some_bytes s token = ⊎_elim (λ (w : IsWord text s). (w.some, w.inside))
      (λ (a : IsAlone text s). (omega (arith, a.one), a.inside)) token

  -- no token begins inside another
  none_inside : (start end : ℕ) (s : Span) → IsToken text (record { start = start; end = end }) → IsToken text s
      → start < s.start → s.start < end → ⊥
  none_inside start end s outer token from to =
      let new : Span = record { start = start; end = end } in
      ⊎_elim
      (λ (v : IsWord text new).
      ⊎_elim (λ (w : IsWord text s). w.begins (omega arith) (v.bytes (s.start - 1) (omega arith) (omega arith)))
      (λ (a : IsAlone text s). no_word_byte (get_or text s.start 0) (v.bytes s.start (omega arith) to) a.byte) token)
      (λ (b : IsAlone text new). let one : end ≡ start + 1 = b.one in omega arith) outer

  -- no token begins at the place
  pub none_there : (spans : List Span) (at : ℕ) → AreAll (IsTokenBefore at) spans → ¬ (BeginsToken text at)
      → AreAll (IsTokenBefore (at + 1)) spans
  none_there spans at all none =
      same_spans (IsTokenBefore at) (IsTokenBefore (at + 1)) spans
      (λ s. (
        (λ (token, before). (token, omega (arith, before))),
        (λ (token, before). (
          token,
          ⊎_elim (λ (lt : s.start < at). lt)
              (λ (ge : at ≤ s.start).
              let there : s.start ≡ at = omega (arith, before) in
              absurd (none (subst (λ k. BeginsToken text k) there (begins s token))))
              (cases_lt s.start at),
        )),
      ))
      all
    where
      -- where a token is, its first byte begins one
      begins : (s : Span) → IsToken text s → BeginsToken text s.start
      begins s token = ⊎_elim (λ (w : IsWord text s). inl (w.bytes s.start (omega arith) w.some))
          (λ (a : IsAlone text s). inr a.byte) token

  -- after a token, and after a byte of none, no word continues
  pub between_after : (at end : ℕ) → at < end → IsToken text (record { start = at; end = end }) → CutsNoWord text end
  between_after at end some token positive within byte =
      let new : Span = record { start = at; end = end } in
      ⊎_elim (λ (w : IsWord text new). absurd (w.ends within byte))
      (λ (a : IsAlone text new). let one : end ≡ at + 1 = a.one in let before : end - 1 ≡ at = omega arith in
      λ word. no_word_byte (get_or text at 0) (subst (λ k. IsWordByte (get_or text k 0)) before word) a.byte) token

  -- after a byte that begins no token no word continues
  pub between_none : (at : ℕ) → ¬ (BeginsToken text at) → CutsNoWord text (at + 1)
  between_none at none positive within byte word = let before : at + 1 - 1 ≡ at = omega arith in
      none (inl (subst (λ k. IsWordByte (get_or text k 0)) before word))
