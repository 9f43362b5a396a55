-- The word of a number that is out of the range is that of no other.
use Rattle.std.proofs.Common.{◌⊎◌}
use Rattle.command_line.proofs.Imports.{◌≡◌, ◌∙◌, ℕ, ◌<◌, ◌^◌, List, sym, arith, inl, inr, decimal}
use Rattle.command_line.proofs.Imports.{decimal_injective, AreSessions}
use Rattle.command_line.proofs.word_forms.sessions_of.Goals as goal

none_in_range : (number : ℕ) (word : List ℕ) → word ≡ decimal number → number < 2 ^ 32 →
    (number < 1) ⊎ (800 < number) → (n : ℕ) → AreSessions n → word ≡ decimal n → ⊥
none_in_range number word is small out n are also =
    let most : n < 801 = omega (arith, are.at_most) in
    let same : number ≡ n = decimal_injective number n (omega arith) (omega arith) (sym is ∙ also) in
    elim out [ inl low ↦ omega (arith, are.some) | inr up ↦ omega arith ]

pub returns-in_default-clause-none : goal.returns-in_default-clause-none
returns-in_default-clause-none c =
    none_in_range c.in-Some.sessions c.args.word.now (sym c.as_bytes.ensures.value ∙ c.in-Some.ensures.exact.1)
    c.in-Some.ensures.exact.0 (inr (omega (arith, c.if-sessions-le800.false)))

pub returns-in_default-2-clause-none : goal.returns-in_default-2-clause-none
returns-in_default-2-clause-none c =
    none_in_range c.in-Some.sessions c.args.word.now (sym c.as_bytes.ensures.value ∙ c.in-Some.ensures.exact.1)
    c.in-Some.ensures.exact.0 (inl (omega (arith, c.if-sessions-ge1.false)))
