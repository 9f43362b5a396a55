use Rattle.log_repair.proofs.repairing.ask.Goals as goal
use Rattle.log_repair.proofs.Bearers.{bearer_answers, held_sent, IsAnswerIn}
use Rattle.log_repair.proofs.{Events.sender_within, Going.adds_so, Going.fails_so}
use Rattle.log_repair.proofs.Imports.{ap, bearer, happens, Hear, HearsOf, IsOrderly, length, length-map, List}
use Rattle.log_repair.proofs.Imports.{machine_of, MachineState, node_of_sealed, None, on_err_weaker, on_ok_weaker}
use Rattle.log_repair.proofs.Imports.{Option, option_map, SealedEntry, Some, Step, subst, sym, TakesStep, World}
use Rattle.log_repair.proofs.Imports.{world_of, WorldState, ℕ, ◌<◌, ◌∙◌, ◌≡◌}

-- maker and number of an entry
abbrev place_of : SealedEntry → ℕ × ℕ
place_of e = (e.entry.maker, e.entry.number)

module _ (from number : ℕ) where
  -- to hear an entry of which this is said is to hear of the answer
  hears_of : (after : World SealedEntry → Step → World SealedEntry) (m : ℕ) (o : Option SealedEntry) →
      option_map place_of o ≡ Some (from, number) → (old : World SealedEntry) (steps : List Step)
      (new : World SealedEntry) →
      TakesStep after (Hear m from number) old steps new → HearsOf node_of_sealed after m o old steps new
  hears_of after m None told old steps new takes = cc told
  hears_of after m (Some e) told old steps new takes =
      let pair : (from, number) ≡ place_of e = cc told in
      subst (λ (p : ℕ × ℕ). TakesStep after (Hear m p.0 p.1) old steps new) pair takes

  -- who made it is a machine of the world
  maker_within : (d : List ℕ) (w : World SealedEntry) → IsOrderly node_of_sealed w → (o : Option SealedEntry) →
      IsAnswerIn node_of_sealed d w o → option_map place_of o ≡ Some (from, number) → from < length w
  maker_within d w orderly None none told = cc told
  maker_within d w orderly (Some e) (m, holds, _) told =
      let pair : place_of e ≡ (from, number) = cc told in
      subst (λ (p : ℕ × ℕ). p.0 < length w) pair
      (sender_within w e.entry.maker e.entry.number e (held_sent node_of_sealed w orderly m e holds))

pub take-requires-clause-machines : goal.take-requires-clause-machines
take-requires-clause-machines c =
    let ms : List MachineState = c.args.world.now.machines in
    let d = c.args.digest.now in
    let seen : c.world.inside.machines.items ≡ ms = ap (λ (s : WorldState). s.machines) c.world.view_is in
    let told = rw (c.as_slice.ensures.value, seen) at (sym c.bearer.ensures ∙ c.in-Some.is) in
    let low = maker_within c.in-Some.from c.in-Some.number d (world_of ms) (rw seen at c.world.invariant.orderly)
    (bearer node_of_sealed d (world_of ms)) (bearer_answers node_of_sealed d (world_of ms)) told in
    (c.requires, rw (length-map ms machine_of) at low)

pub returns-in-Some : goal.returns-in-Some
returns-in-Some c =
    let w : WorldState = c.args.world.now in
    let seen : c.world.inside.machines.items ≡ w.machines = ap (λ (s : WorldState). s.machines) c.world.view_is in
    let told = rw (c.as_slice.ensures.value, seen) at (sym c.bearer.ensures ∙ c.in-Some.is) in
    let hears = λ (after : World SealedEntry → Step → World SealedEntry).
    hears_of c.in-Some.from c.in-Some.number after c.args.m
    (bearer node_of_sealed c.args.digest.now (world_of w.machines)) told (world_of w.machines) in
    record {
      ok = on_ok_weaker c.take.result (λ adds. adds_so
          (λ next log says. hears (happens node_of_sealed next log)) adds) c.take.ensures.ok;
      err = on_err_weaker c.take.result (λ fails. fails_so
          (λ next log says. hears (happens node_of_sealed next log)) fails) c.take.ensures.err;
    }
