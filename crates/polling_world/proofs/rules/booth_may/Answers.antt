use Rattle.polling_world.proofs.rules.booth_may.Goals as goal
use Rattle.polling_world.proofs.Imports.{entries_in, IsTrue, IsWholeHistory, needs_whole, subst, sym, true≢false, ◌↔◌}
use Rattle.polling_world.proofs.{Imports.◌∙◌, Ruled.same_whole}
use Rattle.polling_world.proofs.rules.booth_may.Goals.{else-needs_whole, then-needs_whole}

-- the log was asked where the deed needs it
pub returns : goal.returns
returns c = λ owner stands.
    let h = c.args.log.now.events in
    let asked : IsTrue (needs_whole c.args.deed.now) → IsTrue c.if-needs_whole.whole ↔ IsWholeHistory h =
    λ needs. elim c.if-needs_whole.branch [
      | then-needs_whole w ↦ subst (λ b. IsTrue b ↔ IsWholeHistory h) (sym w.whole-is) w.is_whole-whole.ensures
      | else-needs_whole w ↦ absurd (true≢false (sym needs ∙ sym c.needs_whole.ensures ∙ w.if-needs_whole.false))
    ] in
    same_whole (IsTrue c.if-needs_whole.whole) (IsWholeHistory h) owner (entries_in h)
    c.args.deed.now c.may.result asked
    (c.may.ensures owner (entries_in h) stands)
