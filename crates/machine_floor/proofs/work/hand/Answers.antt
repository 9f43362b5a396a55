use Rattle.machine_floor.proofs.work.hand.Goals as goal
use Rattle.machine_floor.proofs.Imports.{[], All, All-head, ap, IsOfLinks, IsPrefix, made_of, StationState, subst, sym}
use Rattle.machine_floor.proofs.Imports.{Tick, ticks_since, ◌∙◌, ◌∷◌, ◌≡◌}
use Rattle.machine_floor.proofs.Works.{hand_turned, released}
use Rattle.machine_floor.proofs.work.hand.{Given.Over, Goals.After-value-in-loop-turn}

pub hand_turn-did-requires : goal.hand_turn-did-requires
hand_turn-did-requires g c = All-head (IsOfLinks c.args.links.now) _ []
    (subst (All (IsOfLinks c.args.links.now)) (sym (ap (λ (s : StationState). made_of s ∷ []) c.value.ensures.value
    ∙ c.hold-guard.ensures.brand ∙ c.loop-turn.invariant.2)) c.requires.links)

-- what the turn did to the story, as the lock sees it
release : (g : Over) (c : After-value-in-loop-turn g) →
    let now = c.value-in-loop-turn.result.now.ticks in
    IsPrefix c.hold-guard.result.held now ×
    All (λ (t : Tick). t.pass ≡ c.hold-guard.result.number) (ticks_since c.hold-guard.result.held now)
release g c =
    let d = c.hand_turn-did.ensures in
    released 0 c.hold-guard.result.number c.hold-guard.result.held c.value.result.now.ticks
    c.hand_turn-did.new.self.ticks c.value-in-loop-turn.result.now.ticks
    (hand_turned c.hand_turn-did.result c.value.result.now c.hand_turn-did.new.self d.did d.none d.err).0
    (ap (λ (s : StationState). s.ticks) c.value.ensures.value ∙ c.hold-guard.ensures.held)
    (ap (λ (s : StationState). s.ticks) c.value-in-loop-turn.ensures.value)
    (c.hold-guard.ensures.guard.number ∙ c.loop-turn.invariant.1)

pub release-pass-requires-clause-story : goal.release-pass-requires-clause-story
release-pass-requires-clause-story g c =
    (release g (goal.at.release-pass-requires-clause-story g c).After-value-in-loop-turn).0

pub release-pass-requires-clause-ticks : goal.release-pass-requires-clause-ticks
release-pass-requires-clause-ticks g c =
    (release g (goal.at.release-pass-requires-clause-ticks g c).After-value-in-loop-turn).1

pub release-pass-requires-clause-brand : goal.release-pass-requires-clause-brand
release-pass-requires-clause-brand g c =
    let d = c.hand_turn-did.ensures in
    let made : made_of c.value-in-loop-turn.result.now ≡ made_of c.hold-guard.result.value =
    ap made_of c.value-in-loop-turn.ensures.value
    ∙ (hand_turned c.hand_turn-did.result c.value.result.now c.hand_turn-did.new.self d.did d.none d.err).1
    ∙ ap made_of c.value.ensures.value in
    ap (λ (s : StationState). s ∷ []) made ∙ c.hold-guard.ensures.brand ∙ sym c.hold-guard.ensures.guard.brand
