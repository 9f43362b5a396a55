-- What a proof says of the order of survivors, and so of a rule, in Kleene's three values.
use Rattle.std.specs.Prelude.{ℕ, Bool, false, not, ◌&&◌, ◌==◌, if◌then◌else◌, List, find}
use Rattle.std.specs.Prelude.{Option, Some, None}
use Rattle.std.specs.List.{list_any, list_all}
use Rattle.entry_order.specs.declared.three.Three.{Three}
use Rattle.entry_order.specs.declared.three.Three.TheVariants.{False, Unknown, True}
use Rattle.rule_language.specs.declared.row.Row.{Row}
use Rattle.rule_language.specs.Trees.{Trees}
use Rattle.rule_meaning.specs.Values.{three}
use Rattle.audit_proof.specs.Lines.{Line, listed_in}

-- the line of x, if there is one (Kleene 1952, section 64)
abbrev pub own_line : List Line → ℕ → Option Line
own_line lines x = find (λ line. line.entry == x) lines

-- whether y is listed on the line, if there is one
abbrev pub lists : Option Line → ℕ → Bool
lists None y = false
lists (Some line) y = list_any (λ z. z == y) (listed_in line.steps)

-- whether there is a line, and neither its entry nor what it lists names a gap
abbrev pub is_whole_line : (ℕ → Bool) → Option Line → Bool
is_whole_line ragged None = false
is_whole_line ragged (Some line) =
    not (ragged line.entry) && list_all (λ y. not (ragged y)) (listed_in line.steps)

-- whether y comes before an entry with the line, as far as the line shows: it does where it is
-- listed, else it doesn't where the line is whole
abbrev pub before_on : Option Line → Bool → ℕ → Three
before_on line whole y = if lists line y then True else if whole then False else Unknown

module _ (ragged : ℕ → Bool) (lines : List Line) where
  -- whether the proof shows all that comes before x
  abbrev pub whole_by : ℕ → Bool
  whole_by x = is_whole_line ragged (own_line lines x)

  -- whether y comes before x, as far as the proof shows
  abbrev pub before_by : ℕ → ℕ → Three
  before_by y x = before_on (own_line lines x) (whole_by x) y

-- the rule's value by the proof
abbrev pub three_by : List Row → (ℕ → Bool) → List Line → Trees → Three
three_by rows ragged lines rule = three rows (before_by ragged lines) (whole_by ragged lines) rule
