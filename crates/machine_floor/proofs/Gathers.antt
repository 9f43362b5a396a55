-- The stations once their locks are closed and the links are finished: each entry is heard, lost or
-- waiting.
use Rattle.machine_floor.proofs.{Ears.none_above, Imports.AllPairs, Imports.AllPairs-filter, Imports.arith}
use Rattle.machine_floor.proofs.Imports.{arriving, at_from_Contains, Contains, gathered, get_or, get_or-append-add}
use Rattle.machine_floor.proofs.Imports.{get_or_append_left, got_from, InView, is_lost, IsStation, length}
use Rattle.machine_floor.proofs.Imports.{length-append, List, Loss, node_of_sealed, none_of, not, OutView, rising_sent}
use Rattle.machine_floor.proofs.Imports.{SealedEntry, sent, StationState, sym, ℕ, ◌++◌, ◌+◌, ◌<◌, ◌||◌, ◌∙◌, ◌≡◌, ◌≢◌}

-- each entry has a lower number than those after it
abbrev Rising : List SealedEntry → Type 0
Rising es = AllPairs (λ (x y : SealedEntry). x.entry.number < y.entry.number) es

-- of a rising list, what is in the first part has a lower number than what is in the second
lower : (xs ys : List SealedEntry) → Rising (xs ++ ys) → (x y : SealedEntry) → Contains xs x → Contains ys y →
    x.entry.number < y.entry.number
lower xs ys rises x y c d =
    let (i, below_i, is_x) = at_from_Contains xs x c in
    let (j, below_j, is_y) = at_from_Contains ys y d in
    rw (get_or_append_left xs ys x i below_i, is_x x, get_or-append-add xs ys j x, is_y x) at
    (rises i (length xs + j) x (omega arith) (omega (arith, length-append xs ys)))

-- what one machine got of another, and the rest of the link, are what the other sent and isn't lost
pub gather_pair : (sender hearer : StationState) (total : List Loss) (a b : ℕ) (rest : List SealedEntry) →
    IsStation sender → IsStation hearer → sender.machine.config.number ≡ a → hearer.machine.config.number ≡ b → a ≢ b →
    b < length sender.outs → a < length hearer.inns →
    (out : OutView SealedEntry) (inn : InView SealedEntry) → get_or sender.outs b out ≡ out →
    get_or hearer.inns a inn ≡ inn → out.put ≡ inn.taken ++ rest →
    ((k : ℕ) → is_lost total a k b ≡ (is_lost sender.losses a k b || is_lost hearer.losses a k b)) →
    got_from node_of_sealed a hearer.machine.events ++ rest
    ≡ arriving node_of_sealed total a b (sent sender.machine.events)
gather_pair sender hearer total a b rest s h sa hb apart lb la out inn out_is inn_is finished either =
    let es : List SealedEntry = sent sender.machine.events in
    let puts = rw (sa, out_is) at (s.puts b out lb (λ e. apart (sym (e ∙ sa)))) in
    let hears = rw (hb, inn_is) at (h.heard a inn la (λ e. apart (e ∙ hb))) in
    let rises : Rising (inn.taken ++ rest) =
    rw (← finished, puts) (AllPairs-filter (λ (x y : SealedEntry). x.entry.number < y.entry.number)
    (λ (e : SealedEntry). not (is_lost sender.losses a e.entry.number b)) es
    (rising_sent sender.machine.config.number sender.machine.events s.machine.legal)) in
    gathered node_of_sealed sender.losses hearer.losses total a b es out.put inn.taken rest
    (got_from node_of_sealed a hearer.machine.events) puts hears finished (λ e c. either e.entry.number)
    (λ e c. none_of hearer.losses a e.entry.number b (rw hb at (none_above hearer a e.entry.number inn h
    (λ f. apart (f ∙ hb)) (λ z taken. lower inn.taken rest rises z e (rw inn_is at taken) c))))
