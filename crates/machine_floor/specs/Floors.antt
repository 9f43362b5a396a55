-- The machines of a floor together.
use Rattle.std.specs.Prelude.{◌≡◌, ◌≢◌, ℕ, ◌<◌, ◌++◌, ◌||◌, List, length, slice_index_or}
use Rattle.entry_format.specs.Nodes.{node_of_sealed}
use Rattle.entry_format.specs.SealedEntry.{SealedEntry}
use Rattle.entry_order.specs.History.{sent}
use Rattle.broadcast_queues.specs.Ends.{OutView, InView}
use Rattle.finished_floor.specs.declared.loss.Loss.{Loss}
use Rattle.finished_floor.specs.Arrivals.{arriving, got_from, is_lost}
use Rattle.machine_floor.specs.Stations.{StationState, IsStation}

-- once two stations are out of their locks and the link between them is finished, each entry that
-- one sent is heard by the other, lost on the way, or among the rest of the link
abbrev pub LinkAccountsForAll : Type 0
LinkAccountsForAll =
    (sender hearer : StationState) (total : List Loss) (a b : ℕ) (rest : List SealedEntry) →
    IsStation sender → IsStation hearer → sender.machine.config.number ≡ a → hearer.machine.config.number ≡ b → a ≢ b →
    b < length sender.outs → a < length hearer.inns →
    (out : OutView SealedEntry) (inn : InView SealedEntry) → slice_index_or sender.outs b out ≡ out →
    slice_index_or hearer.inns a inn ≡ inn →
    out.put ≡ inn.taken ++ rest →
    ((k : ℕ) → is_lost total a k b ≡ (is_lost sender.losses a k b || is_lost hearer.losses a k b)) →
    got_from node_of_sealed a hearer.machine.events ++ rest
    ≡ arriving node_of_sealed total a b (sent sender.machine.events)
