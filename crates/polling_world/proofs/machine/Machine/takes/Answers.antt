use Rattle.polling_world.proofs.Imports.{◌∙◌, length, ltb, sym, ap, true≢false, Entry, node_of_sealed, held}
use Rattle.polling_world.proofs.Imports.{IsNew, state_of, IsGoing}
use Rattle.std.specs.Prelude.{not}
use Rattle.polling_world.proofs.Taking.{told_stopped, told_own, told_already, told_room, is_less}
use Rattle.polling_world.proofs.machine.Machine.takes.Goals as goal

pub returns-then-has_stopped : goal.returns-then-has_stopped
returns-then-has_stopped c =
    told_stopped c.args.self.now c.args.s.now (sym c.has_stopped.ensures ∙ c.if-has_stopped.true)

pub returns-then-entry-owner : goal.returns-then-entry-owner
returns-then-entry-owner c =
    let now : IsGoing c.args.self.now = ap not (sym c.has_stopped.ensures ∙ c.if-has_stopped.false) in
    rw (← c.self.view_is) (told_own (state_of c.self.inside) c.args.s.now (rw (← c.self.view_is) at now)
    (ap (λ (e : Entry). e.maker) (sym c.entry.ensures.value) ∙ c.if-entry-owner.true ∙ c.owner.ensures))

pub returns-then-holds : goal.returns-then-holds
returns-then-holds c =
    let now : IsGoing c.args.self.now = ap not (sym c.has_stopped.ensures ∙ c.if-has_stopped.false) in
    let borne = c.holds.ensures.0 c.if-holds.true in
    rw (← c.self.view_is) (told_already (state_of c.self.inside) c.args.s.now (rw (← c.self.view_is) at now)
    (λ own. c.if-entry-owner.false (ap (λ (e : Entry). e.maker) c.entry.ensures.value ∙ own ∙ sym c.owner.ensures))
    (rw (← c.self.view_is, c.digest.ensures.value) at borne))

-- nothing but the room is left to ask
pub returns : goal.returns
returns c =
    let now : IsGoing c.args.self.now = ap not (sym c.has_stopped.ensures ∙ c.if-has_stopped.false) in
    let new : IsNew node_of_sealed (held c.args.self.now.events) c.args.s.now =
    λ g there equal. true≢false (sym (c.holds.ensures.1 (g, there, equal ∙ sym c.digest.ensures.value))
    ∙ c.if-holds.false) in
    rw (← c.self.view_is) (told_room (state_of c.self.inside) c.args.s.now (rw (← c.self.view_is) at now)
    (λ own. c.if-entry-owner.false (ap (λ (e : Entry). e.maker) c.entry.ensures.value ∙ own ∙ sym c.owner.ensures))
    (rw (← c.self.view_is) at new) c.self.invariant.machine.within
    (ltb (length c.events.result.now) c.self.inside.capacity)
    (is_less _ _ _ _ (ap length c.events.ensures.events) c.self.invariant.of_log))
