-- How many entries are sent in a world, and how large their stamps are.
use Rattle.polling_world.proofs.Imports.{◌≡◌, ℕ, zero, suc, ◌*◌, ◌≤◌, [], ◌∷◌, length, refl, subst, arith}
use Rattle.polling_world.proofs.Imports.{length-append, slice_get, Contains, Event, Sent, Got, Node, entry_of, held}
use Rattle.polling_world.proofs.Imports.{sent, Machine, World, history, sent_in, IsOrderly, Contains-map_cases}
use Rattle.polling_world.proofs.Imports.{sent_in_from, sent_few, stamps_are_few, max_events}
use Rattle.std.proofs.Common.{Some}

-- no more entries were sent than all logs have room for
pub sent_in_few : {T : Type 0} (w : World T) →
    ((m : ℕ) (a : Machine T) → slice_get w m ≡ Some a → length a.history ≤ max_events) →
    length (sent_in w) ≤ max_events * length w
sent_in_few [] small = omega arith
sent_in_few (a ∷ w) small =
    let rest = sent_in_few w (λ m b is. small (suc m) b is) in
    let here = small zero a refl in
    omega (arith, rest, here, sent_few a.history, length-append (sent a.history) (sent_in w))

-- what is held was sent, so its stamp is at most how many entries were sent
pub held_stamps : {T : Type 0} (node : T → Node) (w : World T) → IsOrderly node w → (n : ℕ) (e : T) →
    Contains (held (history w n)) e → (node e).stamp ≤ length (sent_in w)
held_stamps {T} node w orderly n e c =
    let (x, there, same) = Contains-map_cases entry_of (history w n) e c in
    stamps_are_few node w orderly e (subst (Contains (sent_in w)) same (by x there))
  where
    -- each event of a history is of an entry that was sent
    by : (x : Event T) → Contains (history w n) x → Contains (sent_in w) (entry_of x)
    by (Sent f) h = sent_in_from w n f h
    by (Got f) h = orderly.heard n f h
