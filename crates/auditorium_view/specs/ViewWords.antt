-- Which words the program takes.
use Rattle.std.specs.Prelude.{ℕ, Bool, true, false, nat_le, if◌then◌else◌, List, [], ◌∷◌, length}
use Rattle.std.specs.Prelude.{Option, Some, None, codes}
use Rattle.std.specs.Str.{bytes_eq}
use Rattle.command_line.specs.WordForms.{have_form, max_logs}

-- whether the picture alone is asked for, and a roster, rules and logs, by the words that name them
pub record ViewRequest : Type 0 where
  pub picture : Bool
  pub roster : List ℕ
  pub rules : List ℕ
  pub logs : List (List ℕ)

-- what the words of an audit ask for: a roster, rules, and 1 to 16 logs
abbrev pub audit_in : Bool → List (List ℕ) → Option ViewRequest
audit_in picture [] = None
audit_in picture (roster ∷ []) = None
audit_in picture (roster ∷ rules ∷ []) = None
audit_in picture (roster ∷ rules ∷ log ∷ logs) =
    if nat_le (length (log ∷ logs)) max_logs
    then Some (record { picture = picture; roster = roster; rules = rules; logs = log ∷ logs }) else None

-- what words ask for: after `picture` the picture alone, and otherwise the page
abbrev pub request_in : List (List ℕ) → Option ViewRequest
request_in [] = None
request_in (first ∷ rest) =
    if bytes_eq first (codes "picture") then audit_in true rest else audit_in false (first ∷ rest)

-- what is asked for by words that each have the form of one, if anything is
abbrev pub request_by : List (List ℕ) → Option ViewRequest
request_by words = if have_form words then request_in words else None
