-- What the tokens of a text are, and lists of all of them.
use Rattle.std.specs.Prelude.{◌≡◌, ◌≢◌, ◌↔◌, ◌⊎◌, ℕ, ◌+◌, ◌-◌, ◌<◌, ◌≤◌, List, length, take, drop, slice_index}
use Rattle.std.specs.Prelude.{Contains, AllPairs}
use Rattle.hall_text.specs.declared.spans.Span.{Span}

-- the text's bytes from a span's start up to and without its end
abbrev pub piece : List ℕ → Span → List ℕ
piece text span = take (span.end - span.start) (drop span.start text)

-- a byte of a word: from `!` to `~`, and no parenthesis
abbrev pub IsWordByte : ℕ → Type 0
IsWordByte byte = (33 ≤ byte) × (byte ≤ 126) × (byte ≢ 40) × (byte ≢ 41)

-- a parenthesis
abbrev pub IsParenthesis : ℕ → Type 0
IsParenthesis byte = (byte ≡ 40) ⊎ (byte ≡ 41)

-- the text's bytes from `start` up to and without `end` are a word that goes on at neither side
pub record IsWord (text : List ℕ) (span : Span) : Type 0 where
  pub some : span.start < span.end
  pub inside : span.end ≤ length text
  pub bytes : (i : ℕ) → span.start ≤ i → i < span.end → IsWordByte (slice_index text i)
  pub begins : 0 < span.start → ¬ (IsWordByte (slice_index text (span.start - 1)))
  pub ends : span.end < length text → ¬ (IsWordByte (slice_index text span.end))

-- a parenthesis alone
pub record IsAlone (text : List ℕ) (span : Span) : Type 0 where
  pub one : span.end ≡ span.start + 1
  pub inside : span.end ≤ length text
  pub byte : IsParenthesis (slice_index text span.start)

-- a token: a word or a parenthesis
abbrev pub IsToken : List ℕ → Span → Type 0
IsToken text span = IsWord text span ⊎ IsAlone text span

-- the list has exactly the spans of which the fact holds, in their order
pub record AreAll (P : Span → Type 0) (spans : List Span) : Type 0 where
  pub ordered : AllPairs (λ (a b : Span). a.start < b.start) spans
  pub exactly : (span : Span) → Contains spans span ↔ P span
