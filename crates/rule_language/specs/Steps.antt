-- Reading tokens one after another.
use Rattle.std.specs.Prelude.{ℕ, Bool, true, false, if◌then◌else◌, [], Result, Ok, Err}
use Rattle.std.specs.Str.{bytes_eq}
use Rattle.input_causes.specs.declared.rules.RuleWhy.{RuleWhy}
use Rattle.input_causes.specs.declared.rules.RuleWhy.TheVariants.{Token as BadByte, Shape}
use Rattle.rule_language.specs.declared.faults.RuleFault.{RuleFault}
use Rattle.rule_language.specs.declared.faults.RuleFault.TheVariants.{At}
use Rattle.rule_language.specs.Tokens.{Token, Row, token_then, bad_byte, text_end, right}
use Rattle.rule_language.specs.Words.{only}

-- what is read of a row: a value and what is left, or the first fault
abbrev pub Read : Type 0 → Type 0
Read A = Row → Result (A × Row) RuleFault

-- one step after another, up to the first fault
abbrev pub follow : {A B : Type 0} → Result (A × Row) RuleFault → (A → Row → Result (B × Row) RuleFault) →
    Result (B × Row) RuleFault
follow (Ok read) f = f read.0 read.1
follow (Err fault) f = Err fault

infixl 10 ◌>>=◌
-- a step, and then others by its value
abbrev pub ◌>>=◌ : {A B : Type 0} → Read A → (A → Read B) → Read B
(read >>= f) row = follow (read row) (λ a rest. f a rest)

-- nothing is read
abbrev pub give : {A : Type 0} → A → Read A
give a row = Ok (a, row)

-- the bytes of the next token; none at a bad byte and at the end
abbrev pub next : Row → Token
next (token_then at word rest) = word
next row = []

-- the token is taken, or its cause is reported at its first byte
abbrev pub found_at : {A : Type 0} → ℕ → Row → Result A RuleWhy → Result (A × Row) RuleFault
found_at at rest (Ok a) = Ok (a, rest)
found_at at rest (Err why) = Err (At at why)

-- the next token is taken, or its cause is reported; at a bad byte that byte, and at the end the shape
abbrev pub accept : {A : Type 0} → Row → Result A RuleWhy → Result (A × Row) RuleFault
accept (token_then at word rest) found = found_at at rest found
accept (bad_byte at) found = Err (At at BadByte)
accept (text_end at) found = Err (At at Shape)

-- one token, for what it is found to be
unfoldable pub take : {A : Type 0} → (Token → Result A RuleWhy) → Read A
take found row = accept row (found (next row))

-- by the next token, without taking it
abbrev pub if_next : {A : Type 0} → Token → Read A → Read A → Read A
if_next word then_read else_read row = if bytes_eq (next row) word then then_read row else else_read row

-- whether nothing is left
abbrev pub is_end : Row → Bool
is_end (text_end at) = true
is_end row = false

-- nothing may be left
abbrev pub end : Read (Unit {0})
end (text_end at) = Ok (tt, text_end at)
end row = accept row (Err Shape)

-- by whether nothing is left
abbrev pub if_end : {A : Type 0} → Read A → Read A → Read A
if_end then_read else_read row = if is_end row then then_read row else else_read row

-- one thing, and then another
unfoldable pub in_turn : {A B : Type 0} → Read A → (A → Read B) → Read (A × B)
in_turn first second = do
  a ← first
  b ← second a
  give (a, b)

-- a word, and then a thing
unfoldable pub after : {A : Type 0} → Token → Read A → Read A
after word read = do
  it ← take (only word)
  read

-- a thing, and the parenthesis that ends it
unfoldable pub closed : {A : Type 0} → Read A → Read A
closed read = do
  a ← read
  it ← take (only right)
  give a

-- what is made of a thing
unfoldable pub made_into : {A B : Type 0} → (A → B) → Read A → Read B
made_into make read = do
  a ← read
  give (make a)

-- an answer and what is left, with what contracts see of the value
abbrev pub viewed : {A B : Type 0} → (A → B) → Result A RuleFault → Row → Result (B × Row) RuleFault
viewed view (Ok a) row = Ok (view a, row)
viewed view (Err fault) row = Err fault

-- an answer and what is left
abbrev pub as_read : {A : Type 0} → Result A RuleFault → Row → Result (A × Row) RuleFault
as_read result row = viewed (λ a. a) result row
