-- Kinds of entries, their fields and the sorts of those, and the words of the language.
use Rattle.std.specs.Prelude.{ℕ, Bool, true, false, if◌then◌else◌, List, [], ◌∷◌, codes, Option, Some, None}
use Rattle.std.specs.Str.{bytes_eq}
use Rattle.roster.specs.declared.post.Role.{Role}
use Rattle.roster.specs.declared.post.Role.TheVariants as role
use Rattle.roster.specs.RosterText.{role_word}
use Rattle.rule_language.specs.declared.kind.Kind.{Kind}
use Rattle.rule_language.specs.declared.kind.Kind.TheVariants as kind
use Rattle.rule_language.specs.declared.kind.Field.{Field}
use Rattle.rule_language.specs.declared.kind.Field.TheVariants as field
use Rattle.rule_language.specs.declared.kind.Sort.{Sort}
use Rattle.rule_language.specs.declared.kind.Sort.TheVariants as sort
use Rattle.rule_language.specs.declared.form.Head.{Head}
use Rattle.rule_language.specs.declared.form.Head.TheVariants as head
use Rattle.input_causes.specs.declared.rules.RuleWhy.{RuleWhy}
use Rattle.input_causes.specs.declared.rules.RuleWhy.TheVariants as why

-- the first of the things whose word this is
abbrev pub first_named : {A : Type 0} → (A → List ℕ) → List A → List ℕ → Option A
first_named word_of [] word = None
first_named word_of (thing ∷ things) word =
    if bytes_eq word (word_of thing) then Some thing else first_named word_of things word

-- the word of a kind
abbrev pub kind_word : Kind → List ℕ
kind_word kind.Any = codes "entry"
kind_word kind.Opened = codes "opened"
kind_word kind.Authorise = codes "authorise"
kind_word kind.Override = codes "override"
kind_word kind.Forced = codes "forced"
kind_word kind.Closed = codes "closed"
kind_word kind.Activate = codes "activate"
kind_word kind.Commit = codes "commit"
kind_word kind.Cast = codes "cast"
kind_word kind.Cancel = codes "cancel"
kind_word kind.Challenge = codes "challenge"

-- the kinds of entries, each once; `any` is every kind
abbrev pub entry_kinds : List Kind
entry_kinds =
    kind.Any ∷ kind.Opened ∷ kind.Authorise ∷ kind.Override ∷ kind.Forced ∷ kind.Closed ∷ kind.Activate ∷ kind.Commit
    ∷ kind.Cast ∷ kind.Cancel ∷ kind.Challenge ∷ []

-- the kind that a word names
abbrev pub kind_named : List ℕ → Option Kind
kind_named word = first_named kind_word entry_kinds word

-- the word of a field
abbrev pub field_word : Field → List ℕ
field_word field.Maker = codes "maker"
field_word field.Booth = codes "booth"
field_word field.Number = codes "number"
field_word field.Session = codes "session"
field_word field.Ballot = codes "ballot"

-- the fields of entries, each once
abbrev pub fields : List Field
fields = field.Maker ∷ field.Booth ∷ field.Number ∷ field.Session ∷ field.Ballot ∷ []

-- the field that a word names
abbrev pub field_named : List ℕ → Option Field
field_named word = first_named field_word fields word

-- whether entries of a kind have a session
abbrev pub has_session : Kind → Bool
has_session kind.Any = false
has_session kind.Opened = false
has_session kind.Closed = false
has_session kind = true

-- whether they have a ballot
abbrev pub has_ballot : Kind → Bool
has_ballot kind.Commit = true
has_ballot kind.Cast = true
has_ballot kind.Challenge = true
has_ballot kind = false

-- whether they name a booth
abbrev pub has_booth : Kind → Bool
has_booth kind.Authorise = true
has_booth kind = false

-- whether entries of the kind have the field
abbrev pub has_field : Kind → Field → Bool
has_field kind field.Maker = true
has_field kind field.Number = true
has_field kind field.Session = has_session kind
has_field kind field.Ballot = has_ballot kind
has_field kind field.Booth = has_booth kind

-- the sort of a field's values
abbrev pub sort_of_field : Field → Sort
sort_of_field field.Maker = sort.Machine
sort_of_field field.Booth = sort.Machine
sort_of_field field.Number = sort.Count
sort_of_field field.Session = sort.Session
sort_of_field field.Ballot = sort.Ballot

-- whether a sort has an order
abbrev pub is_ordered : Sort → Bool
is_ordered sort.Count = true
is_ordered sort.Session = true
is_ordered sort = false

-- whether two sorts are the same
abbrev pub is_same_sort : Sort → Sort → Bool
is_same_sort sort.Machine sort.Machine = true
is_same_sort sort.Count sort.Count = true
is_same_sort sort.Session sort.Session = true
is_same_sort sort.Ballot sort.Ballot = true
is_same_sort sort other = false

-- the role that a word names
abbrev pub role_named : List ℕ → Option Role
role_named word = first_named role_word (role.Supervisor ∷ role.Booth ∷ []) word

-- the word that a formula in parentheses begins with
abbrev pub head_word : Head → List ℕ
head_word head.ForEvery = codes "every"
head_word head.ForSome = codes "some"
head_word head.And = codes "and"
head_word head.Or = codes "or"
head_word head.Not = codes "not"
head_word head.Implies = codes "implies"
head_word head.Same = codes "same"
head_word head.Before = codes "before"
head_word head.Next = codes "next"
head_word head.Is = codes "is"
head_word head.OfKind = codes "kind"
head_word head.Equal = codes "="
head_word head.Less = codes "<"

-- the words that formulas in parentheses begin with, each once
abbrev pub heads : List Head
heads =
    head.ForEvery ∷ head.ForSome ∷ head.And ∷ head.Or ∷ head.Not ∷ head.Implies ∷ head.Same ∷ head.Before ∷ head.Next
    ∷ head.Is ∷ head.OfKind ∷ head.Equal ∷ head.Less ∷ []

-- the first word of a formula that the bytes are, if they are one
abbrev pub head_named : List ℕ → Option Head
head_named word = first_named head_word heads word

-- whether it is the word of a quantifier
abbrev pub is_quantifier : Head → Bool
is_quantifier head.ForEvery = true
is_quantifier head.ForSome = true
is_quantifier head = false
