-- The steps of reading formulas and rules.
use Rattle.rule_language.specs.declared.form.Form.TheVariants as form
use Rattle.rule_language.proofs.Imports.{[], append-nil, append_assoc, arith, atom, Bool, bytes_eq, common_steps, drop}
use Rattle.rule_language.proofs.Imports.{false, give, if◌then◌else◌, is_end, joined_trees, List, map-append, nat_tests}
use Rattle.rule_language.proofs.Imports.{ne_eqb, next, no_trees, only, opening, Read, refl, Result, right, Row}
use Rattle.rule_language.proofs.Imports.{row_from, rule_names, RuleFault, RuleTree, Scope, several, suc, take, text_end}
use Rattle.rule_language.proofs.Imports.{Token, Trees, true, without_rest, zero, ℕ, ◌++◌, ◌-◌, ◌==◌, ◌||◌, ◌∷◌, ◌≡◌}
use Rattle.rule_language.proofs.Views.{joined, no_more}
use Rattle.rule_language.specs.{Reader.inside, Reader.rule, Steps.end, Steps.follow, declared.formula.Rule.Rule}
use Rattle.std.proofs.Common.{Err, Ok}
use Rattle.std.specs.Prelude.{string_bytes}
unfoldable use Rattle.rule_language.specs.Tokens.{text_row}
unfoldable use Rattle.rule_language.specs.Steps.{closed}
unfoldable use Rattle.rule_language.specs.Reader.{parts, row as in_row, formula, more_rules, rules, rules_of}

-- a formula is `true` where no parenthesis opens
pub formula_at : (levels : ℕ) (scope : Scope) (row : Row) → formula levels scope row
    ≡ follow (take (opening levels) row)
    (if levels == 0 then (λ opened. give (atom form.True))
    else (λ opened. if opened then inside (formula (levels - 1)) scope else give (atom form.True)))
unfolding formula
formula_at zero scope row = refl
formula_at (suc levels) scope row =
    let less : suc levels - 1 ≡ levels = omega arith in
    let some : (suc levels == 0) ≡ false = ne_eqb (suc levels) 0 (λ e. omega arith) in
    rw (less, some) refl

-- steps that follow a step that follows another
follow_assoc : {A B C : Type 0} (read : Result (A × Row) RuleFault) (f : A → Row → Result (B × Row) RuleFault)
    (g : B → Row → Result (C × Row) RuleFault) →
    follow (follow read f) g ≡ follow read (λ a rest. follow (f a rest) g)
follow_assoc (Ok read) f g = refl
follow_assoc (Err fault) f g = refl

-- up to so many formulas after others
unfoldable pub parts_after : Trees → ℕ → Read Trees → Read Trees
parts_after front n formula row = follow (parts n formula row) (λ more rest. Ok (joined_trees front more, rest))

-- the parenthesis, or one formula more
pub parts_at : (front : Trees) (n : ℕ) (formula : Read Trees) (row : Row) (b : Bool) →
    ((n == 0) || bytes_eq (next row) right) ≡ b → parts_after front n formula row
    ≡ (if b then follow (take (only right) row) (λ it rest. Ok (front, rest))
    else follow (formula row) (λ one rest. parts_after (joined_trees front one) (n - 1) formula rest))
unfolding parts_after parts closed in_row
parts_at front zero formula row b is = rw (← is) (simp (follow_assoc, no_more))
parts_at front (suc n) formula row b is =
    let less : suc n - 1 ≡ n = omega arith in
    let some : (suc n == 0) ≡ false = ne_eqb (suc n) 0 (λ e. omega arith) in
    let test : bytes_eq (next row) right ≡ b = rw some at is in
    rw (less, test) (by b)
  where
    by : (b : Bool) → follow (if b then closed (give no_trees) row else in_row formula (parts n formula) row)
        (λ more rest. Ok (joined_trees front more, rest))
        ≡ (if b then follow (take (only right) row) (λ it rest. Ok (front, rest))
        else follow (formula row) (λ one rest. parts_after (joined_trees front one) n formula rest))
    by true = simp (follow_assoc, no_more)
    by false = simp (follow_assoc, joined)

-- the first formula, and those after it
pub parts_first : (formula : Read Trees) (row : Row) →
    several formula row ≡ follow (formula row) (λ one rest. parts_after one 63 formula rest)
unfolding parts_after in_row
parts_first formula row = refl

-- up to so many rules after others
unfoldable pub rules_after : List RuleTree → ℕ → List Token → Row → Result (List RuleTree × Row) RuleFault
rules_after front n names row = follow (more_rules n names row) (λ more rest. Ok (front ++ more, rest))

-- where nothing is left, the end is read
at_end : (row : Row) → is_end row ≡ true → end row ≡ Ok (tt, row)
at_end (text_end at) is = refl
at_end row is = cc is

-- the end, or one rule more
pub rules_at : (front : List RuleTree) (n : ℕ) (names : List Token) (row : Row) → rules_after front n names row
    ≡ (if (n == 0) || is_end row then follow (end row) (λ it rest. Ok (front, rest))
    else follow (rule names row) (λ r rest. rules_after (front ++ r ∷ []) (n - 1) (names ++ r.name ∷ []) rest))
unfolding rules_after more_rules
rules_at front zero names row = simp (follow_assoc, append-nil)
rules_at front (suc n) names row =
    let less : suc n - 1 ≡ n = omega arith in
    let some : (suc n == 0) ≡ false = ne_eqb (suc n) 0 (λ e. omega arith) in
    rw (less, some) (by (is_end row) refl)
  where
    by : (b : Bool) → is_end row ≡ b → follow (if b then Ok ([], row) else follow (rule names row) (λ r rest.
        follow (more_rules n (names ++ r.name ∷ []) rest) (λ others q. Ok (r ∷ others, q))))
        (λ more rest. Ok (front ++ more, rest)) ≡ (if b then follow (end row) (λ it rest. Ok (front, rest))
        else follow (rule names row) (λ r rest. rules_after (front ++ r ∷ []) n (names ++ r.name ∷ []) rest))
    by true is = rw (at_end row is, append-nil front) refl
    by false is = simp (follow_assoc, append_assoc)

-- the first rule, and those after it
pub rules_first : (text : List ℕ) → rules_of text ≡ without_rest (follow (rule [] (row_from 0 (drop 0 text)))
    (λ r rest. rules_after (r ∷ []) 255 (r.name ∷ []) rest))
unfolding rules_after rules rules_of text_row
rules_first text = refl

-- the names with one rule more
pub names_more : (read : List Rule) (r : Rule) →
    rule_names (read ++ r ∷ []) ≡ rule_names read ++ string_bytes r.name ∷ []
names_more read r = map-append (λ (r : Rule). string_bytes r.name) read (r ∷ [])

-- the steps of reading rules
pub ruleset rule_steps = (rules_first, rules_at, names_more, map-append, common_steps, nat_tests)
