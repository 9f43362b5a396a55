-- What of a text the reader hasn't read yet.
use Rattle.std.specs.Prelude.{◌≡◌, ℕ, ◌≤◌, ◌==◌, nat_lt, if◌then◌else◌, List, [], ◌∷◌, length, drop, map}
use Rattle.std.specs.Prelude.{string_bytes, Result, Ok, Err}
use Rattle.hall_text.specs.declared.spans.Span.{Span}
use Rattle.hall_text.specs.Spans.{piece}
use Rattle.hall_text.specs.Places.{CutsNoWord}
use Rattle.rule_language.specs.declared.scope.Scope.{Scope as CodeScope, Empty, With'}
use Rattle.rule_language.specs.declared.formula.Rule.{Rule}
use Rattle.input_causes.specs.declared.rules.RuleWhy.{RuleWhy}
use Rattle.rule_language.specs.Scopes.{Scope}
use Rattle.rule_language.specs.Tokens.{Token, Row, token_then, bad_byte, text_end, row_from}

-- the bindings of a scope
abbrev pub bindings : CodeScope → Scope
bindings Empty = []
bindings (With' v kind p outer) = (v, kind) ∷ bindings outer

-- the names of rules
abbrev pub rule_names : List Rule → List Token
rule_names rules = map (λ rule. string_bytes rule.name) rules

-- whether there is a cause
abbrev pub checked : {A : Type 0} → Result A RuleWhy → Result (Unit {0}) RuleWhy
checked (Ok a) = Ok tt
checked (Err cause) = Err cause

-- the row from the token on
unfoldable pub unread : List ℕ → Span → Row
unread text token = row_from token.start (drop token.start text)

-- a row that begins with the token; where it is empty the text ends, or a byte is bad
abbrev pub row_at : List ℕ → Span → Row → Row
row_at text token rest =
    if nat_lt token.start token.end then token_then token.start (piece text token) rest
    else (if token.start == length text then text_end token.start else bad_byte token.start)

-- what follows the tokens read: a token, a bad byte or the text's end
pub record IsNext (text : List ℕ) (token : Span) : Type 0 where
  pub order : token.start ≤ token.end
  pub inside : token.end ≤ length text
  pub between : CutsNoWord text token.end
  pub row : unread text token ≡ row_at text token (row_from token.end (drop token.end text))
