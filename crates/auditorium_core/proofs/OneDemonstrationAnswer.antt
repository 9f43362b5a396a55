-- A number of sessions has at most one answer to `demo`.
use Rattle.auditorium_core.proofs.Imports.{Agree, Answer, ap, arith, Demonstration, demonstration_answer, Err}
use Rattle.auditorium_core.proofs.Imports.{generated, GivesDemonstration, IsDemonstrationAnswer, IsHalfOf, Ok, Refusal}
use Rattle.auditorium_core.proofs.Imports.{Result, same_or, Script, sym, ℕ, ◌∙◌, ◌≡◌}
use Rattle.demonstration.specs.OneShown.{ScriptsAreRefusedInOneWay, ScriptsAreShownInOneWay, ScriptsAreShownOrRefused}

-- a script shows one thing or is refused in one way, and not both
pub record ShowOne : Type 0 where
  -- what any two demonstrations of a script count is the same
  pub shown : ScriptsAreShownInOneWay
  -- and any two refusals are one
  pub refused : ScriptsAreRefusedInOneWay
  -- where the audit gives a report, it isn't refused
  pub either : ScriptsAreShownOrRefused

-- a number has one half, rounded up
pub same_half : (sessions half other : ℕ) → IsHalfOf sessions half → IsHalfOf sessions other → half ≡ other
same_half sessions half other is also = grind arith

-- what a demonstration gives is one
given_agree : ShowOne → (script : Script) (session : ℕ) (p q : Result Demonstration Refusal) →
    GivesDemonstration script session p → GivesDemonstration script session q → Agree (λ f g. f ≡ g) p q
given_agree one script session (Ok shown) (Ok other) x y = one.shown script session shown other x y
given_agree one script session (Ok shown) (Err refusal) x y =
    one.either script session x.machines x.report refusal x.audited y
given_agree one script session (Err refusal) (Ok other) x y =
    one.either script session y.machines y.report refusal y.audited x
given_agree one script session (Err refusal) (Err other) x y = one.refused script session refusal other x y

-- two answers of a demonstration of the same number of sessions are one
pub same_demonstration : ShowOne → (sessions : ℕ) (a b : Answer) → IsDemonstrationAnswer sessions a →
    IsDemonstrationAnswer sessions b → a ≡ b
same_demonstration one sessions a b x y =
    let half : y.half ≡ x.half = same_half sessions y.half x.half y.is_half x.is_half in
    same_or (λ (f g : Demonstration). f ≡ g) (GivesDemonstration (generated sessions) x.half)
    (λ (shown : Demonstration) told. told ≡ demonstration_answer sessions shown) a b
    (given_agree one (generated sessions) x.half)
    (λ f g gives same e e'. e ∙ ap (demonstration_answer sessions) same ∙ sym e') x.right (rw half at y.right)
