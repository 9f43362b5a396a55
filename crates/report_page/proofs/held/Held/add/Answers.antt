use Rattle.report_page.proofs.held.Held.add.Goals as goal
use Rattle.report_page.proofs.Imports.{ap, Bool, List, ℕ, ◌∙◌, ◌≡◌}
use Rattle.report_page.specs.inside.Held.{has}
use Rattle.std.proofs.Common.{cond, false, refl, true}
use Rattle.std.specs.{Prelude.◌||◌, Str.bytes_eq}

when : (b x : Bool) → cond b true x ≡ (b || x)
when true x = refl
when false x = refl

pub returns : goal.returns
returns c = λ d.
    c.in_ok-insert.ensures.updates.0 d ∙ when (bytes_eq c.args.digest.now d) (has c.self.inside.digests.keys d)
    ∙ ap (λ (digests : List (List ℕ)). bytes_eq c.args.digest.now d || has digests d) c.self.view_is
