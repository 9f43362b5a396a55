use Rattle.polling_world.proofs.machine.Machine.next_entry.Goals as goal
use Rattle.polling_world.proofs.{Histories.few_in_frontier, Histories.frontier_rises, Imports.ap, Imports.arith}
use Rattle.polling_world.proofs.Imports.{election_of, frontier, greatest_stamp, held, IsAscending, length, MachineState}
use Rattle.polling_world.proofs.Imports.{next_entry, node_of_sealed, refl, same_fields, sent, state_of, subst, sym, ◌+◌}
use Rattle.polling_world.proofs.{Imports.◌∙◌, Imports.◌≡◌, MadeEntries.sealed_is_made}

pub seal-requires-clause-election : goal.seal-requires-clause-election
unfolding election_of
seal-requires-clause-election c = c.self.invariant.of_roster

pub seal-requires-clause-rising : goal.seal-requires-clause-rising
seal-requires-clause-rising c =
    subst IsAscending (sym (c.from_vec.ensures ∙ c.in-Ok.ensures.ok.names))
    (frontier_rises (held c.self.inside.log.events))

pub seal-requires-clause-few : goal.seal-requires-clause-few
seal-requires-clause-few c =
    omega (
      arith,
      ap length (c.from_vec.ensures ∙ c.in-Ok.ensures.ok.names),
      few_in_frontier c.self.inside.log.events,
      c.self.invariant.machine.within,
      c.self.invariant.few,
    )

-- what was sealed is what the machine makes next
pub returns-in-Ok-seal : goal.returns-in-Ok-seal
returns-in-Ok-seal c =
    let m = state_of c.self.inside in
    let next = c.in-Ok.ensures.ok in
    let h = c.self.inside.log.events in
    subst (λ (m : MachineState). c.in-Ok-seal.sealed ≡ next_entry m.config m.events c.args.deed) c.self.view_is
    (sealed_is_made m.config (length (sent h)) (1 + greatest_stamp node_of_sealed (held h))
    (frontier node_of_sealed (held h)) c.args.deed c.self.inside.key _ c.in-Ok-seal.sealed
    (ap (λ n. record c.self.inside.key { next = n }) c.self.invariant.signs_next) c.self.invariant.machine.public
    (same_fields _ _ refl c.self.invariant.of_roster c.owner.ensures next.number next.stamp
    (c.from_vec.ensures ∙ next.names) refl)
    c.in-Ok-seal.ensures.entry c.in-Ok-seal.ensures.signature c.in-Ok-seal.ensures.valid)
