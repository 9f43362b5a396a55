-- What is written of rules is a text of them.
use Rattle.roster.specs.declared.post.Role.TheVariants as role
use Rattle.rule_language.specs.declared.kind.Kind.TheVariants as kind
use Rattle.rule_language.specs.declared.kind.Field.TheVariants as field
use Rattle.rule_language.specs.declared.form.Form.TheVariants as form
use Rattle.rule_language.proofs.FormulasRead.{may_stand, no_parts, sorts_of}
use Rattle.rule_language.proofs.Imports.{[], and_parts, ap, append_assoc, are_alphanumeric, are_formulas}
use Rattle.rule_language.proofs.Imports.{are_of_one_sort, AreDigits, arith, bad_byte, Bool, can_bind, codes, count_of}
use Rattle.rule_language.proofs.Imports.{decimal, decimal_digits, false, Field, field_word, Form, form_end, form_text}
use Rattle.rule_language.proofs.Imports.{form_words, goes_on, has_arity, has_good_bytes, has_order, inner, is_bound}
use Rattle.rule_language.proofs.Imports.{is_closed, is_name, is_rule, is_some, is_word_byte, IsTextOf, Kind, kind_word}
use Rattle.rule_language.proofs.Imports.{left, length, List, nat_le, nat_lt, nat_tests, no_trees, Number, Of, refl}
use Rattle.rule_language.proofs.Imports.{right, Role, role_word, Row, row_from, row_text, rule_then, rules_text}
use Rattle.rule_language.proofs.Imports.{rules_tokens, RuleTree, Scope, scope_in, sort_of, spelt, suc, Term, term_word}
use Rattle.rule_language.proofs.Imports.{text_end, Token, token_then, tokens_then, tree_then, Trees, true, variable}
use Rattle.rule_language.proofs.Imports.{with_spaces, words, zero, ℕ, ◌&&◌, ◌++◌, ◌+◌, ◌<◌, ◌^◌, ◌∷◌, ◌≡◌}
use Rattle.rule_language.proofs.{Rows.word_byte, Rows.word_tested, RulesRead.rule_fits}
use Rattle.rule_language.specs.Lawful.{are_rules, follow, is_alphanumeric}
use Rattle.rule_language.specs.{Tokens.byte_then, Written.rule_text, Written.spaced}
use Rattle.std.proofs.lemmas.{Fmt.decimal_nonempty, Str.IsUtf8-from_ascii}
use Rattle.std.specs.Str.{IsAscii, IsUtf8}
unfoldable use Rattle.rule_language.specs.Tokens.{text_row}

-- whether all bytes belong to words
abbrev are_word_bytes : List ℕ → Bool
are_word_bytes [] = true
are_word_bytes (byte ∷ bytes) = is_word_byte byte && are_word_bytes bytes

-- whether a word is spelt
abbrev is_spelt : Token → Bool
is_spelt [] = false
is_spelt word = are_word_bytes word

-- whether all the words are
abbrev are_spelt : List Token → Bool
are_spelt [] = true
are_spelt (word ∷ words) = is_spelt word && are_spelt words

-- the words of kinds are spelt
kind_spelt : (k : Kind) → is_spelt (kind_word k) ≡ true
kind_spelt kind.Any = refl
kind_spelt k = refl

-- the words of roles are spelt
role_spelt : (r : Role) → is_spelt (role_word r) ≡ true
role_spelt role.Supervisor = refl
role_spelt r = refl

-- the bytes of a field's word belong to words
field_bytes : (f : Field) → are_word_bytes (field_word f) ≡ true
field_bytes field.Maker = refl
field_bytes f = refl

-- bound variables belong to words, and so do those that may be bound
bound_byte : (scope : Scope) (v : ℕ) → is_bound scope v ≡ true → is_word_byte v ≡ true
bound_byte scope v bound = grind (arith, nat_tests)

can_byte : (scope : Scope) (v : ℕ) → can_bind scope v ≡ true → is_word_byte v ≡ true
can_byte scope v can = grind (arith, nat_tests)

-- digits belong to words
digits_bytes : (ds : List ℕ) → AreDigits ds → are_word_bytes ds ≡ true
digits_bytes [] digits = refl
digits_bytes (d ∷ ds) (low, high, others) =
    let word : is_word_byte d ≡ true = grind (arith, nat_tests) in rw word (digits_bytes ds others)

-- the word of a term that has a sort is spelt
term_spelt : (scope : Scope) (t : Term) → is_some (sort_of scope t) ≡ true → is_spelt (term_word t) ≡ true
term_spelt scope (Number n) some =
    let less : n < 2 ^ 32 = grind (arith, nat_tests) in
    by (decimal n) (decimal_nonempty n (omega arith)) (digits_bytes (decimal n) (decimal_digits n (omega arith)))
  where
    by : (ds : List ℕ) → 0 < length ds → are_word_bytes ds ≡ true → is_spelt ds ≡ true
    by [] some is = absurd (omega arith)
    by (d ∷ ds) some is = is
term_spelt scope (Of v f) some =
    let word : is_word_byte v ≡ true = grind (arith, nat_tests) in rw word (field_bytes f)

-- the words of two terms of one sort are spelt
terms_spelt : (scope : Scope) (t u : Term) → are_of_one_sort (sort_of scope t) (sort_of scope u) ≡ true →
    are_spelt (term_word t ∷ term_word u ∷ []) ≡ true
terms_spelt scope t u same =
    let (s, o, first, second, _) = sorts_of (sort_of scope t) (sort_of scope u) same in
    rw (term_spelt scope t (ap is_some first), term_spelt scope u (ap is_some second)) refl

-- the words of two bound variables are spelt
pair_spelt : (scope : Scope) (v u : ℕ) → (is_bound scope v && is_bound scope u) ≡ true →
    are_spelt (variable v ∷ variable u ∷ []) ≡ true
pair_spelt scope v u good =
    let (first, second) = and_parts _ _ good in
    rw (bound_byte scope v first, bound_byte scope u second) refl

-- the words of a form that is allowed are spelt
form_spelt : (scope : Scope) (f : Form) → is_closed scope f ≡ true → are_spelt (form_words f) ≡ true
form_spelt scope (form.ForEvery v k) good = rw (can_byte scope v good, kind_spelt k) refl
form_spelt scope (form.ForSome v k) good = rw (can_byte scope v good, kind_spelt k) refl
form_spelt scope (form.EveryBefore v k u) good =
    let (can, bound) = and_parts _ _ good in
    rw (can_byte scope v can, kind_spelt k, bound_byte scope u bound) refl
form_spelt scope (form.SomeBefore v k u) good =
    let (can, bound) = and_parts _ _ good in
    rw (can_byte scope v can, kind_spelt k, bound_byte scope u bound) refl
form_spelt scope (form.Same v u) good = pair_spelt scope v u good
form_spelt scope (form.Before v u) good = pair_spelt scope v u good
form_spelt scope (form.Next v u) good = pair_spelt scope v u good
form_spelt scope (form.Is v r) good = rw (bound_byte scope v good, role_spelt r) refl
form_spelt scope (form.OfKind v k) good = rw (bound_byte scope v good, kind_spelt k) refl
form_spelt scope (form.Equal t u) good = terms_spelt scope t u good
form_spelt scope (form.Less t u) good =
    terms_spelt scope t u (and_parts (has_order (sort_of scope t)) _ good).1
form_spelt scope f good = refl

-- the bytes spell these tokens, wherever they stand
abbrev Spells : List ℕ → List Token → Type 0
Spells bytes tokens =
    (at : ℕ) → (words (row_from at bytes) ≡ tokens) × (has_good_bytes (row_from at bytes) ≡ true)

-- a left parenthesis
spells_left : (bytes : List ℕ) (ts : List Token) → Spells bytes ts → Spells (40 ∷ bytes) (left ∷ ts)
spells_left bytes ts all at = let (is, whole) = all (at + 1) in (ap (λ ts. left ∷ ts) is, whole)

-- a right one
spells_right : (bytes : List ℕ) (ts : List Token) → Spells bytes ts → Spells (41 ∷ bytes) (right ∷ ts)
spells_right bytes ts all at = let (is, whole) = all (at + 1) in (ap (λ ts. right ∷ ts) is, whole)

-- a byte of a word in front of more of it
front_longer : (at b : ℕ) (joined : Bool) (row : Row) (w : Token) (ts : List Token) → is_word_byte b ≡ true →
    joined ≡ true → (words row ≡ w ∷ ts) × (has_good_bytes row ≡ true) →
    (words (byte_then at b joined row) ≡ (b ∷ w) ∷ ts) × (has_good_bytes (byte_then at b joined row) ≡ true)
front_longer at b joined (bad_byte n) w ts word on (is, whole) = cc is
front_longer at b joined (text_end n) w ts word on (is, whole) = cc is
front_longer at b joined (token_then n v row) w ts word on (is, whole) =
    let (separates, alone, tested) = word_tested b (word_byte b word) in
    let same : v ≡ w = cc in
    let more : words row ≡ ts = cc in
    rw (separates, alone, tested, on, same, more) (refl, whole)

-- a word, after which no word goes on
spells_word : (w : Token) (bytes : List ℕ) (ts : List Token) → is_spelt w ≡ true → goes_on bytes ≡ false →
    Spells bytes ts → Spells (w ++ bytes) (w ∷ ts)
spells_word [] bytes ts good ends all at = cc good
spells_word (b ∷ []) bytes ts good ends all at =
    let word : is_word_byte b ≡ true = grind (arith, nat_tests) in
    let (separates, alone, _) = word_tested b (word_byte b word) in
    let (is, whole) = all (at + 1) in
    rw (separates, alone, word, ends) (ap (λ ts. (b ∷ []) ∷ ts) is, whole)
spells_word (b ∷ c ∷ w) bytes ts good ends all at =
    let (word, others) = and_parts (is_word_byte b) (are_word_bytes (c ∷ w)) good in
    front_longer at b (is_word_byte c) (row_from (at + 1) (c ∷ (w ++ bytes))) (c ∷ w) ts word
    (and_parts (is_word_byte c) (are_word_bytes w) others).0 (spells_word (c ∷ w) bytes ts others ends all (at + 1))

-- words with a space between each two
words_spell : (ws : List Token) (bytes : List ℕ) (ts : List Token) → are_spelt ws ≡ true → goes_on bytes ≡ false →
    Spells bytes ts → Spells (with_spaces ws ++ bytes) (ws ++ ts)
words_spell [] bytes ts good ends all = all
words_spell (w ∷ []) bytes ts good ends all =
    rw (append_assoc w [] bytes) (spells_word w bytes ts (grind (arith, nat_tests)) ends all)
words_spell (w ∷ v ∷ ws) bytes ts good ends all =
    let (spelt, others) = and_parts (is_spelt w) (are_spelt (v ∷ ws)) good in
    rw (append_assoc w (32 ∷ (v ++ spaced ws)) bytes) (spells_word w (32 ∷ ((v ++ spaced ws) ++ bytes)) (v ∷ (ws ++
    ts)) spelt refl (λ at. words_spell (v ∷ ws) bytes ts others ends all (at + 1)))

-- no word goes on where a row begins
row_stops : (trees : Trees) (bytes : List ℕ) → goes_on bytes ≡ false → goes_on (row_text trees ++ bytes) ≡ false
row_stops no_trees bytes ends = ends
row_stops (tree_then f parts rest) bytes ends = refl

-- words and what is inside in parentheses
enclosed_spells : (ws : List Token) (inside bytes : List ℕ) (ts : List Token) → are_spelt ws ≡ true →
    goes_on (inside ++ 41 ∷ bytes) ≡ false → Spells (inside ++ 41 ∷ bytes) ts →
    Spells ((40 ∷ (with_spaces ws ++ (inside ++ 41 ∷ []))) ++ bytes) (left ∷ (ws ++ ts))
enclosed_spells ws inside bytes ts good stops all =
    rw (append_assoc (with_spaces ws) (inside ++ 41 ∷ []) bytes, append_assoc inside (41 ∷ []) bytes)
    (spells_left (with_spaces ws ++ (inside ++ 41 ∷ bytes)) (ws ++ ts)
    (words_spell ws (inside ++ 41 ∷ bytes) ts good stops all))

-- a form and the formulas in it
form_spells : (f : Form) (inside bytes : List ℕ) (parts : Trees) (ts : List Token) →
    are_spelt (form_words f) ≡ true → has_arity f (count_of parts) ≡ true → goes_on bytes ≡ false →
    goes_on (inside ++ 41 ∷ bytes) ≡ false → Spells bytes ts →
    Spells (inside ++ 41 ∷ bytes) (tokens_then parts (right ∷ ts)) →
    Spells (form_text f inside ++ bytes) (spelt f (tokens_then parts (form_end f ts)))
form_spells form.True inside bytes parts ts good arity ends stops all within =
    rw (← no_parts parts arity) (spells_word (codes "true") bytes ts refl ends all)
form_spells f inside bytes parts ts good arity ends stops all within =
    enclosed_spells (form_words f) inside bytes (tokens_then parts (right ∷ ts)) good stops within

-- lawful formulas in a row
row_spells : (trees : Trees) (levels : ℕ) (scope : Scope) (bytes : List ℕ) (ts : List Token) →
    are_formulas levels scope trees ≡ true → goes_on bytes ≡ false → Spells bytes ts →
    Spells (row_text trees ++ bytes) (tokens_then trees ts)
row_spells no_trees levels scope bytes ts good ends all = all
row_spells (tree_then f parts rest) levels scope bytes ts good ends all =
    let (shallow, closes, arity, within, after) = may_stand levels scope f parts rest good in
    let following : List ℕ = row_text rest ++ bytes in
    let others = row_spells rest levels scope bytes ts after ends all in
    let inside = row_spells parts (inner levels) (scope_in f scope) (41 ∷ following) (right ∷ tokens_then rest ts)
    within refl (spells_right following (tokens_then rest ts) others) in
    rw (append_assoc (form_text f (row_text parts)) (row_text rest) bytes) (λ at. form_spells f (row_text parts)
    following parts (tokens_then rest ts) (form_spelt scope f closes) arity (row_stops rest bytes ends)
    (row_stops parts (41 ∷ following) refl) others inside (at + 1))

-- a word of letters and digits has only bytes of words
alphanumeric_bytes : (bytes : List ℕ) → are_alphanumeric bytes ≡ true → are_word_bytes bytes ≡ true
alphanumeric_bytes [] e = refl
alphanumeric_bytes (byte ∷ bytes) e =
    let (one, others) = and_parts (is_alphanumeric byte) (are_alphanumeric bytes) e in
    let word : is_word_byte byte ≡ true = grind (arith, nat_tests) in rw word (alphanumeric_bytes bytes others)

-- a rule's name is spelt
name_spelt : (name : Token) → is_name name ≡ true → is_spelt name ≡ true
name_spelt [] is = cc is
name_spelt (byte ∷ name) is = alphanumeric_bytes (byte ∷ name) (grind (arith, nat_tests))

-- words are ASCII
ascii : (bytes : List ℕ) → are_word_bytes bytes ≡ true → IsAscii bytes
ascii [] all i = omega arith
ascii (byte ∷ bytes) all zero = grind (arith, nat_tests)
ascii (byte ∷ bytes) all (suc i) = ascii bytes (and_parts (is_word_byte byte) (are_word_bytes bytes) all).1 i

-- a rule's name is text in UTF-8
pub name_is_text : (name : List ℕ) → is_name name ≡ true → IsUtf8 name
name_is_text name is = IsUtf8-from_ascii name (ascii name (alphanumeric_bytes name (grind (arith, nat_tests))))

-- the line of a rule
rule_spells : (names : List Token) (r : RuleTree) (bytes : List ℕ) (ts : List Token) → is_rule names r ≡ true →
    Spells bytes ts → Spells (rule_text r ++ bytes) (rule_then r ts)
rule_spells names r bytes ts good all =
    let ((named, _), (lawful, _)) = rule_fits names r good in
    let line : List ℕ = row_text r.body ++ 41 ∷ 10 ∷ bytes in
    let tokens : List Token = tokens_then r.body (right ∷ ts) in
    let body = row_spells r.body 31 [] (41 ∷ 10 ∷ bytes) (right ∷ ts) lawful refl (spells_right (10 ∷ bytes) ts (λ at.
    all (at + 1))) in
    let name = spells_word r.name line tokens (name_spelt r.name named) (row_stops r.body (41 ∷ 10 ∷ bytes) refl)
    body in
    let all : Spells (codes "(rule " ++ (r.name ++ line)) (rule_then r ts) = spells_left (codes "rule " ++ (r.name
    ++ line)) (codes "rule" ∷ r.name ∷ tokens) (spells_word (codes "rule") (32 ∷ (r.name ++ line)) (r.name ∷ tokens)
    refl refl (λ at. name (at + 1))) in
    simp append_assoc all

-- the lines of rules
rules_spell : (names : List Token) (rs : List RuleTree) → follow names rs ≡ true →
    Spells (rules_text rs) (rules_tokens rs)
rules_spell names [] good = λ at. (refl, refl)
rules_spell names (r ∷ rs) good =
    let (first, others) = and_parts (is_rule names r) (follow (names ++ r.name ∷ []) rs) good in
    rule_spells names r (rules_text rs) (rules_tokens rs) first (rules_spell (names ++ r.name ∷ []) rs others)

-- what is written of lawful rules is a text of them
pub written_is_text : (rs : List RuleTree) → are_rules rs ≡ true → IsTextOf (rules_text rs) rs
unfolding text_row
written_is_text rs good =
    let (_, lawful) = and_parts (nat_lt 0 (length rs) && nat_le (length rs) 256) (follow [] rs) good in
    let all = rules_spell [] rs lawful in
    record { lawful = good; tokens = (all 0).0; whole = (all 0).1 }
