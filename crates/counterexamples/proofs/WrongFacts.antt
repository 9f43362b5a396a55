-- The wrong definitions fail at their examples.
use Rattle.counterexamples.proofs.ExampleFacts.{distinct_two, no_path}
use Rattle.counterexamples.proofs.Imports.{[], arith, ArrivalFails, b1, ByOthersFails, Contains, digest_of, Distinct}
use Rattle.counterexamples.proofs.Imports.{example_entry, frontier_by_arrival, Got, heard, IsFrontier, IsNamedIn}
use Rattle.counterexamples.proofs.Imports.{OrderIsReceiptIn, OwnLastFails, refl, sent_in, shown, ◌∷◌, HeldBefore.itself}
use Rattle.counterexamples.specs.{Example.Entry, WrongNames.world}

-- what A sends
abbrev sent_by_a : Entry
sent_by_a = example_entry 0 0 1 []

-- what B sends, naming its own last entry alone
abbrev sent_by_b : Entry
sent_by_b = example_entry 1 0 2 []

-- their digests differ
distinct : Distinct shown (sent_in world)
distinct = distinct_two shown sent_by_a sent_by_b (λ e. cc)

-- B held what A sent, and no path leads there
own_last_fails : ¬ (OrderIsReceiptIn shown world)
own_last_fails order =
    let same = order sent_by_a sent_by_b (0, omega arith, refl) (1, omega arith, refl) in
    no_path shown (sent_in world) sent_by_a refl sent_by_b
    (same.1 (itself (Got sent_by_a ∷ []) (1, [], refl) (0, omega arith, refl)))

-- the digests differ, and no path leads to what was held
pub naming_own_last_fails : OwnLastFails
naming_own_last_fails = record { distinct = distinct; fails = own_last_fails }

-- the late entry names the first digest
named : IsNamedIn shown heard (digest_of 1 0)
named = (b1, (0, omega arith, refl), (0, omega arith, refl))

-- which the list keeps
keeps : Contains (frontier_by_arrival heard) (digest_of 1 0)
keeps = (0, omega arith, refl)

-- so the list isn't the frontier
arrival_fails : ¬ (IsFrontier shown heard (frontier_by_arrival heard))
arrival_fails is = ((is.members (digest_of 1 0)).0 keeps).1 named

-- the list keeps what an entry names
pub frontier_by_arrival_fails : ArrivalFails
frontier_by_arrival_fails = record { right = refl; keeps = keeps; named = named; fails = arrival_fails }

-- the one entry names itself
pub strays_by_others_fail : ByOthersFails
strays_by_others_fail = record {
  right = refl;
  fails = ((0, omega arith, refl), (0, omega arith, refl), [], (0, omega arith, refl));
}
