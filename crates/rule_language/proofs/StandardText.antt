-- What is written of the standard rules.
use Rattle.rule_language.proofs.Imports.{arith, IsTextOf, List, refl, rules_of, rules_text, subst, sym, ℕ, ◌∙◌, ◌≡◌}
use Rattle.rule_language.proofs.{RulesRead.text_back, WrittenTexts.written_is_text}
use Rattle.rule_language.specs.{Standard.standard_rules, declared.standard_text.TheConstants.STANDARD}
use Rattle.std.proofs.{Common.Ok, lemmas.Fmt.decimal_digit}

-- the text of standard rules that is shipped is the one that is written of them
pub standard_written : rules_text standard_rules ≡ STANDARD.now
standard_written = rw (decimal_digit 0 (omega arith)) refl

-- so it is read as them
pub standard_read : (text : List ℕ) → text ≡ STANDARD.now → rules_of text ≡ Ok standard_rules
standard_read text is = text_back text standard_rules
    (subst (λ t. IsTextOf t standard_rules) (standard_written ∙ sym is) (written_is_text standard_rules refl))
