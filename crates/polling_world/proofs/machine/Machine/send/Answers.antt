use Rattle.polling_world.proofs.machine.Machine.send.Goals as goal
use Rattle.polling_world.proofs.Imports.{[], ap, History, SealedEntry, Sent, state_of, ◌++◌, ◌∙◌, ◌∷◌, ◌≡◌}
use Rattle.polling_world.proofs.{Keeping.IsKept-sent, MadeEntries.may_follow}

pub push_sent-requires-clause-next : goal.push_sent-requires-clause-next
push_sent-requires-clause-next c =
    let m = state_of c.self.inside in
    (may_follow m.config m.events c.args.sealed (rw (← c.self.view_is) at c.requires.may)).1

pub push_sent-requires-clause-new : goal.push_sent-requires-clause-new
push_sent-requires-clause-new c = let may = rw (← c.self.view_is) at c.requires.may in may.new

-- the key's index, the log and the rules go on together
pub invariant_of-self : goal.invariant_of-self
invariant_of-self c =
    let fields = c.self.inside in
    let longer : c.events.result.now ≡ fields.log.events ++ Sent c.args.sealed ∷ [] =
    c.events.ensures.events ∙ ap (λ (l : History SealedEntry). l.events) c.push_sent.ensures in
    let noted =
    c.note_last.ensures.kept fields.role fields.log.owner fields.log.events (Sent c.args.sealed) longer
    c.self.invariant.noted in
    rw (c.push_sent.ensures, c.advance.ensures)
    (IsKept-sent (state_of fields) fields.election fields.key.next fields.capacity fields.rules c.note_last.new.rules
    c.self.invariant (rw (← c.self.view_is) at c.requires.going) c.args.sealed
    (rw (← c.self.view_is) at c.requires.may) (rw longer at noted) c.note_last.ensures.spare)
