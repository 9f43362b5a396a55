-- What a machine does is what the world's machine does.
use Rattle.polling_world.specs.declared.acted.Acted.TheVariants as acted
use Rattle.polling_world.specs.declared.heard.MachineHeard.TheVariants as heard
use Rattle.polling_world.proofs.Imports.{Acted, ap, arith, Deed, false, false_from_ne_true, Got, has_digest}
use Rattle.polling_world.proofs.Imports.{has_digest_from, has_digest_of, has_stopped, hear, held, IsActed, IsHeard}
use Rattle.polling_world.proofs.Imports.{IsNew, IsNextOf, IsStampSpent, LeftWhy, length, lt-leb, machine_after}
use Rattle.polling_world.proofs.Imports.{machine_of, MachineHeard, MachineState, MayDo, MaySend, nat_le, nat_tests}
use Rattle.polling_world.proofs.Imports.{next_action, node_of_sealed, not-true, refl, Refuses, SealedEntry, send, Sent}
use Rattle.polling_world.proofs.Imports.{subst, true, ℕ, ◌∙◌, ◌≡◌, ◌≢◌}
use Rattle.polling_world.proofs.{NextTold.one_next, NextTold.same_deed, Placing.machine_of-event, Ruled.one_rule}
use Rattle.std.proofs.Common.{Err, None, Ok, Option, Some}

-- a stopped machine sends nothing
sends_stopped : (m : MachineState) (o : Option SealedEntry) → has_stopped m ≡ true →
    machine_of m ≡ send o (machine_of m)
sends_stopped m None is = refl
sends_stopped m (Some e) is = rw is

-- where nothing may be sent a machine sends nothing
sends_none : (m : MachineState) (o : Option SealedEntry) → IsNextOf m.config m.events o →
    ((e : SealedEntry) → MaySend m.config m.events e → ⊥) → machine_of m ≡ send o (machine_of m)
sends_none m None told none = refl
sends_none m (Some e) told none = absurd (none e told)

-- against a cause of the rules nothing may be sent
refused_not : (m : MachineState) (deed : Deed) (why : LeftWhy) → next_action m.config m.events ≡ Some deed →
    Refuses m.config m.events deed (Err why) → (e : SealedEntry) → MaySend m.config m.events e → ⊥
refused_not m deed why action refused e may =
    let allowed : MayDo m.config m.events deed =
    subst (MayDo m.config m.events) (same_deed m.config m.events deed action e may) may.allowed in
    let same = one_rule m.config.role m.config.number m.events deed (Ok tt) (Err why) allowed refused in cc

-- a machine that does its next action sends what may be sent
pub act_is : (m new : MachineState) (answer : Acted) (o : Option SealedEntry) → m.stop ≡ None → (¬ IsStampSpent m) →
    IsNextOf m.config m.events o → IsActed m 0 answer new → machine_of new ≡ send o (machine_of m)
act_is m new (acted.Did number copies) o alone spent told done =
    ap machine_of done.changed ∙ machine_of-event m (Sent done.entry) alone
    ∙ rw (one_next m.config m.events o (Some done.entry) told done.may, not-true (has_stopped m) done.going)
act_is m new acted.Stopped o alone spent told (stopped, same) = rw same (sends_stopped m o stopped)
act_is m new acted.NoMore o alone spent told (_, none, same) =
    rw same (sends_none m o told (λ e may. let action = may.action in cc))
act_is m new (acted.SupervisorNot why) o alone spent told ((deed, action, first), same) =
    rw same (sends_none m o told (refused_not m deed _ action first.refused))
act_is m new (acted.BoothNot why) o alone spent told ((deed, action, first), same) =
    rw same (sends_none m o told (refused_not m deed _ action first.refused))
act_is m new acted.Full o alone spent told ((deed, action, first), same) =
    rw same (sends_none m o told (λ e may. omega (arith, first.full, may.room)))
act_is m new acted.StampSpent o alone spent told ((deed, action, first), same) = absurd (spent first.stamp)
act_is m new acted.Spent o alone spent told ((deed, action, first), same) =
    rw same (sends_none m o told (λ e may. omega (arith, first.spent, may.unspent)))
act_is m new acted.SameDigest o alone spent told (already, same) =
    rw same (sends_none m o told (λ e may.
    let (g, there, digest) = already.held in
    let one = same_deed m.config m.events already.deed already.action e may in
    may.new g there (rw (may.made, one) digest)))

-- a machine that hears another's entry does what the world's machine does
pub hear_is : (m : MachineState) (e : SealedEntry) (answer : MachineHeard) (log : ℕ) → m.stop ≡ None →
    m.config.log ≡ log → (node_of_sealed e).maker ≢ m.config.number → IsHeard m e answer →
    machine_of (machine_after answer e m) ≡ hear node_of_sealed log (Some e) (machine_of m)
hear_is m e answer log alone size other = by answer
  where
    -- a new digest isn't found among those held
    not_found : IsNew node_of_sealed (held m.events) e →
        has_digest node_of_sealed (held m.events) (node_of_sealed e).digest ≡ false
    not_found new =
        false_from_ne_true (has_digest node_of_sealed (held m.events) (node_of_sealed e).digest)
        (λ found. let (g, there, digest) = has_digest_from node_of_sealed (held m.events) (node_of_sealed e).digest
        found in new g there digest)

    -- the same by the answer
    by : (answer : MachineHeard) → IsHeard m e answer →
        machine_of (machine_after answer e m) ≡ hear node_of_sealed log (Some e) (machine_of m)
    by heard.Taken (going, (maker, new, room)) =
        machine_of-event m (Got e) alone
        ∙ rw (not-true (has_stopped m) going, not_found new, lt-leb log (length m.events) (omega (arith, room, size)))
    by (heard.Stopped back) (is, same) = rw is
    by (heard.Own back) (going, (same, own)) = absurd (other own)
    by (heard.Already back) (going, (same, maker, borne)) =
        rw (
          not-true (has_stopped m) going,
          has_digest_of node_of_sealed (held m.events) (node_of_sealed e).digest borne,
        )
    by (heard.Full back) (going, (same, maker, new, full)) =
        let most : nat_le log (length m.events) ≡ true = grind (arith, nat_tests) in
        rw (not-true (has_stopped m) going, not_found new, most)
