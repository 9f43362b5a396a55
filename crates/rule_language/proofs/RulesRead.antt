-- Texts of rules are read exactly.
use Rattle.rule_language.proofs.Exact.{after_exact, both_exact, closed_exact, fails, gave, Gives, gives, IsExact}
use Rattle.rule_language.proofs.Exact.{made_exact, then_gives, weaker}
use Rattle.rule_language.proofs.FormulasRead.{formula_exact, IsOne}
use Rattle.rule_language.proofs.Imports.{[], and_parts, ap, arith, bad_byte, codes, has_good_bytes, is_rule, IsTextOf}
use Rattle.rule_language.proofs.Imports.{left, length, List, lt-ltb, nat_le, nat_lt, nat_tests, Ok, refl, Result, right}
use Rattle.rule_language.proofs.Imports.{Row, rule_then, RuleFault, rules_tokens, RuleTree, suc, sym, text_end, Token}
use Rattle.rule_language.proofs.Imports.{token_then, tokens_then, true, without_rest, words, zero, ℕ, ◌&&◌, ◌++◌, ◌<◌}
use Rattle.rule_language.proofs.{Imports.◌∙◌, Imports.◌∷◌, Imports.◌≡◌, Imports.◌≤◌, Leaves.IsFree, Leaves.name_exact}
use Rattle.rule_language.specs.{Lawful.follow as lawful_from, Reading.Reads, Steps.follow, Tokens.text_row}
use Rattle.std.proofs.lemmas.Bool.{le-leb}
unfoldable use Rattle.rule_language.specs.Steps.{take, after}
unfoldable use Rattle.rule_language.specs.Reader.{rule, more_rules, rules, rules_of}

-- a rule after others of these names
abbrev pub RuleFits : List Token → RuleTree → Type 0
RuleFits names r = IsFree names r.name × IsOne 31 [] r.body

-- a rule is read exactly
rule_exact : (names : List Token) → IsExact (rule names) rule_then (RuleFits names)
unfolding rule
rule_exact names = after_exact left (after_exact (codes "rule") (made_exact (λ p. record { name = p.0; body = p.1 })
    (λ r following. r.name ∷ tokens_then r.body (right ∷ following)) (RuleFits names)
    (both_exact (name_exact names) (λ name. closed_exact (formula_exact 31 []))) (λ p l. (λ ws. refl, l))
    (λ r l. ((r.name, r.body), refl, l))))

-- a lawful rule
pub rule_fits : (names : List Token) (r : RuleTree) → is_rule names r ≡ true → RuleFits names r
rule_fits names r is = grind (arith, nat_tests)

-- the rules up to the end, of which there are at most so many
record AreAll (names : List Token) (most : ℕ) (row : Row) (rs : List RuleTree) : Type 0 where
  spelt : words row ≡ rules_tokens rs
  whole : has_good_bytes row ≡ true
  lawful : lawful_from names rs ≡ true
  few : length rs ≤ most

-- the answer of a rule and up to so many others
abbrev one_and : ℕ → List Token → Row → Result (List RuleTree × Row) RuleFault
one_and most names row =
    follow (rule names row) (λ r q. follow (more_rules most (names ++ r.name ∷ []) q) (λ rs p. Ok (r ∷ rs, p)))

-- what is known of rules that were read
abbrev Reading : ℕ → Type 0
Reading most = (names : List Token) (row : Row) →
    Gives (λ rs rest. AreAll names most row rs) (more_rules most names row)

-- a rule, and the others
one_said : (most : ℕ) → Reading most → (names : List Token) (row : Row) →
    Gives (λ rs rest. (0 < length rs) × AreAll names (suc most) row rs) (one_and most names row)
one_said most reads names row = then_gives ((rule_exact names).said row)
    (λ r q (x, ((good, free), (lawful, one)), whole). then_gives (reads (names ++ r.name ∷ []) q)
    (λ others p all. gives (
      omega arith,
      record {
        spelt = x ∙ ap (rule_then r) all.spelt;
        whole = whole ∙ all.whole;
        lawful = rw (good, free, one, lawful) all.lawful;
        few = omega arith;
      },
    )))

-- up to so many rules that were read
more_said : (most : ℕ) → Reading most
unfolding more_rules rule after take
more_said zero names (text_end at) = gives (record { spelt = refl; whole = refl; lawful = refl; few = omega arith })
more_said zero names row = fails
more_said (suc most) names (text_end at) =
    gives (record { spelt = refl; whole = refl; lawful = refl; few = omega arith })
more_said (suc most) names (bad_byte at) = fails
more_said (suc most) names (token_then at w row) =
    weaker (one_said most (more_said most) names (token_then at w row)) (λ rs rest (some, all). all)

-- rules that stand there are read
abbrev Reads_back : ℕ → Type 0
Reads_back most = (names : List Token) (row : Row) (rs : List RuleTree) → AreAll names most row rs →
    (rest : Row) × (more_rules most names row ≡ Ok (rs, rest))

-- a rule, and the others
one_back : (most : ℕ) → Reads_back most → (names : List Token) (row : Row) (r : RuleTree) (others : List RuleTree) →
    AreAll names (suc most) row (r ∷ others) → (rest : Row) × (one_and most names row ≡ Ok (r ∷ others, rest))
one_back most reads names row r others all =
    let (good, after_it) = and_parts (is_rule names r) (lawful_from (names ++ r.name ∷ []) others) all.lawful in
    let (q, x, goes) = (rule_exact names).back row r (rules_tokens others) all.spelt (rule_fits names r good) in
    let whole = (gave (rw x at ((rule_exact names).said row))).2 in
    let (rest, y) = reads (names ++ r.name ∷ []) q others (record {
      spelt = goes;
      whole = sym whole ∙ all.whole;
      lawful = after_it;
      few = omega (arith, all.few);
    }) in
    (rest, rw (x, y) refl)

-- and those that stand there
more_back : (most : ℕ) → Reads_back most
unfolding more_rules
more_back zero names (text_end at) [] all = (text_end at, refl)
more_back zero names row (r ∷ others) all = absurd (omega arith)
more_back (suc most) names (text_end at) [] all = (text_end at, refl)
more_back (suc most) names (token_then at w row) (r ∷ others) all =
    one_back most (more_back most) names (token_then at w row) r others all
more_back most names row rs all = cc

-- what is read as rules is a text of them
pub text_said : (text : List ℕ) (rs : List RuleTree) → Reads text (Ok rs) → IsTextOf text rs
unfolding rules_of rules
text_said text rs = by (one_said 255 (more_said 255) [] (text_row text))
  where
    by : {r : Result (List RuleTree × Row) RuleFault} →
        Gives (λ rs rest. (0 < length rs) × AreAll [] 256 (text_row text) rs) r → without_rest r ≡ Ok rs →
        IsTextOf text rs
    by fails is = cc is
    by (gives {a = read} (some, all)) is = let same : read ≡ rs = cc in rw (← same) (record {
      lawful = rw (lt-ltb 0 (length read) some, le-leb (length read) 256 all.few) all.lawful;
      tokens = all.spelt;
      whole = all.whole;
    })

-- and a text of rules is read as them
pub text_back : (text : List ℕ) (rs : List RuleTree) → IsTextOf text rs → Reads text (Ok rs)
unfolding rules_of rules
text_back text [] is = cc is.lawful
text_back text (r ∷ others) is =
    let (number, lawful) = and_parts (nat_lt 0 (length (r ∷ others)) && nat_le (length (r ∷ others)) 256) _ is.lawful in
    let (rest, x) = one_back 255 (more_back 255) [] (text_row text) r others (record {
      spelt = is.tokens;
      whole = is.whole;
      lawful = lawful;
      few = grind (arith, nat_tests, number);
    }) in
    rw x (refl {a = Ok (r ∷ others)})
