use Rattle.machine_floor.proofs.work.ear.Goals as goal
use Rattle.machine_floor.proofs.Imports.{[], All, All-head, ap, IsOfLinks, made_of, refl, StationState, subst, sym, ◌∙◌}
use Rattle.machine_floor.proofs.{Imports.◌∷◌, Works.released}

pub ear_turn-heard-requires : goal.ear_turn-heard-requires
ear_turn-heard-requires g c = All-head (IsOfLinks c.args.links.now) _ []
    (subst (All (IsOfLinks c.args.links.now)) (sym (ap (λ (s : StationState). made_of s ∷ []) c.value.ensures.value
    ∙ c.hold-guard.ensures.brand ∙ c.loop-turn.invariant.2)) c.requires.links)

pub release-pass-requires-clause-ticks : goal.release-pass-requires-clause-ticks
release-pass-requires-clause-ticks g c =
    let (more, ticks, passes) = c.ear_turn-heard.ensures.ticks in
    (released 1 c.hold-guard.result.number c.hold-guard.result.held c.value.result.now.ticks
    c.ear_turn-heard.new.self.ticks c.ear_turn-heard.new.self.ticks
    (record { more = more; ticks = ticks; passes = passes })
    (ap (λ (s : StationState). s.ticks) c.value.ensures.value ∙ c.hold-guard.ensures.held) refl
    (c.hold-guard.ensures.guard.number ∙ c.loop-turn.invariant.1)).1
