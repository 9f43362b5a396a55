-- What a token means at its place, or the cause against it.
use Rattle.std.specs.Prelude.{ℕ, Bool, true, false, ◌&&◌, ◌||◌, ◌==◌, nat_le, if◌then◌else◌}
use Rattle.std.specs.Prelude.{List, [], ◌∷◌, length, codes, Option, Some, None, is_some, Result, Ok, Err}
use Rattle.std.specs.Str.{bytes_eq}
use Rattle.hall_text.specs.Words.{number_in}
use Rattle.rule_language.specs.declared.kind.Kind.{Kind}
use Rattle.rule_language.specs.declared.kind.Field.{Field}
use Rattle.rule_language.specs.declared.kind.Sort.{Sort}
use Rattle.rule_language.specs.declared.kind.Sort.TheVariants as sort
use Rattle.rule_language.specs.declared.term.Term.{Term}
use Rattle.rule_language.specs.declared.term.Term.TheVariants.{Of, Number}
use Rattle.rule_language.specs.declared.form.Head.{Head}
use Rattle.input_causes.specs.declared.rules.RuleWhy.{RuleWhy}
use Rattle.input_causes.specs.declared.rules.RuleWhy.TheVariants.{Shape, UnknownKind, SameName, Unbound, WrongField}
use Rattle.input_causes.specs.declared.rules.RuleWhy.TheVariants.{TooDeep}
use Rattle.rule_language.specs.Kinds.{kind_named, field_named, head_named, has_field, sort_of_field}
use Rattle.rule_language.specs.Kinds.{is_ordered, is_quantifier}
use Rattle.rule_language.specs.Scopes.{Scope, kind_in, is_letter}
use Rattle.rule_language.specs.Lawful.{is_name, is_among}
use Rattle.rule_language.specs.Tokens.{Token, left, right}

-- a value where there is one, and otherwise the cause
abbrev pub or_cause : {A : Type 0} → RuleWhy → Option A → Result A RuleWhy
or_cause cause None = Err cause
or_cause cause (Some a) = Ok a

-- the letter of a variable
abbrev pub letter_in : Token → Option ℕ
letter_in [] = None
letter_in (v ∷ []) = if is_letter v then Some v else None
letter_in (v ∷ w ∷ bytes) = None

-- the letter of a variable that isn't bound yet
abbrev pub unbound_in : Scope → Option ℕ → Result ℕ RuleWhy
unbound_in scope None = Err Shape
unbound_in scope (Some v) = if is_some (kind_in scope v) then Err SameName else Ok v

-- the letter of a variable that is bound
abbrev pub bound_in : Scope → Option ℕ → Result ℕ RuleWhy
bound_in scope None = Err Shape
bound_in scope (Some v) = if is_some (kind_in scope v) then Ok v else Err Unbound

-- a kind
abbrev pub kind_for : Token → Result Kind RuleWhy
kind_for word =
    if bytes_eq word left || bytes_eq word right then Err Shape else or_cause UnknownKind (kind_named word)

-- a term with its sort
abbrev pub Typed : Type 0
Typed = Term × Sort

-- a field of a variable, if entries of its kind have the field
abbrev pub of_field : ℕ → Kind → Option Field → Result Typed RuleWhy
of_field v kind None = Err WrongField
of_field v kind (Some field) = if has_field kind field then Ok (Of v field, sort_of_field field) else Err WrongField

-- a field of a variable by its word, if the variable is bound and entries of its kind have the
-- field
abbrev pub of_variable : ℕ → Option Kind → Token → Result Typed RuleWhy
of_variable v None name = Err Unbound
of_variable v (Some kind) name = of_field v kind (field_named name)

-- a letter and a dot, and the word of a field
abbrev pub dotted_in : Scope → Token → Result Typed RuleWhy
dotted_in scope [] = Err Shape
dotted_in scope (v ∷ []) = Err Shape
dotted_in scope (v ∷ dot ∷ name) =
    if is_letter v && (dot == 46) then of_variable v (kind_in scope v) name else Err Shape

-- a number where there is one, and otherwise the other term
abbrev pub number_or : Option ℕ → Result Typed RuleWhy → Result Typed RuleWhy
number_or (Some n) other = Ok (Number n, sort.Count)
number_or None other = other

-- a term: a decimal, or a field of a bound variable
abbrev pub term_in : Scope → Token → Result Typed RuleWhy
term_in scope word = number_or (number_in word) (dotted_in scope word)

-- a term for which the test on its sort holds
abbrev pub whose_sort : (Sort → Bool) → Result Typed RuleWhy → Result Typed RuleWhy
whose_sort test (Err cause) = Err cause
whose_sort test (Ok term) = if test term.1 then Ok term else Err WrongField

-- a first term has any sort, or for an order one that has an order
abbrev pub may_begin : Bool → Sort → Bool
may_begin true sort = is_ordered sort
may_begin false sort = true

-- what a formula in parentheses begins with: at most 4 quantifiers nest
abbrev pub nested : Scope → Option Head → Result Head RuleWhy
nested scope None = Err Shape
nested scope (Some word) = if is_quantifier word && nat_le 4 (length scope) then Err TooDeep else Ok word

-- the first word of a formula in parentheses that the token is, or why it is none
abbrev pub head_for : Scope → Token → Result Head RuleWhy
head_for scope word = nested scope (head_named word)

-- whether the token is the only one that is allowed there
abbrev pub only : Token → Token → Result (Unit {0}) RuleWhy
only wanted token = if bytes_eq token wanted then Ok tt else Err Shape

-- what a formula begins with: the word `true`, or a parenthesis, of which so many more may open
abbrev pub opening : ℕ → Token → Result Bool RuleWhy
opening levels token =
    if bytes_eq token (codes "true") then Ok false
    else (if bytes_eq token left then (if levels == 0 then Err TooDeep else Ok true) else Err Shape)

-- the name of a rule
abbrev pub name_in : List Token → Token → Result Token RuleWhy
name_in names token = if is_name token then (if is_among token names then Err SameName else Ok token) else Err Shape
