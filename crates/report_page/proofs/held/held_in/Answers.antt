use Rattle.report_page.proofs.held.held_in.Goals as goal
use Rattle.log_files.specs.declared.sealed_log.Kept.{Kept}
use Rattle.report_page.proofs.Imports.{ap, get_or, List, ℕ, ◌∙◌, ◌≡◌}
use Rattle.report_page.proofs.LogDigests.{any_more}
use Rattle.report_page.specs.inside.Held.{has}
use Rattle.std.proofs.Common.{rules}
use Rattle.std.specs.{Prelude.◌||◌, Str.bytes_eq}

pub loop-kept-preserved : goal.loop-kept-preserved
loop-kept-preserved c = λ d.
    let kept : Kept = c.kept-item.result in
    let i = c.loop-kept.kept-index in
    let is : kept ≡ get_or c.args.log.now.kept i kept = search rules in
    any_more (λ (kept : Kept). bytes_eq kept.entry.digest d) c.args.log.now.kept i kept
    (has c.loop-kept.held d) (has c.add.new.self d) (search rules) is (c.loop-kept.invariant d)
    (c.in_ok-add.ensures d
    ∙ ap (λ (digest : List ℕ). bytes_eq digest d || has c.loop-kept.held d) c.digest.ensures.value)
