-- What distinguishes a station from others stays.
use Rattle.machine_floor.proofs.Imports.{◌≡◌, ℕ, zero, suc, ◌<◌, List, [], ◌∷◌, length, map, refl, ap, arith, get_or}
use Rattle.machine_floor.proofs.Imports.{set, InView, OutView, SealedEntry, new_in, new_out}

-- the ends out, each of its queue and its sender, were the same before anything was put
pub outs_same : (outs new : List (OutView SealedEntry)) → length new ≡ length outs →
    ((k : ℕ) (d : OutView SealedEntry) → k < length outs → ((get_or new k d).queue ≡ (get_or outs k d).queue) ×
    ((get_or new k d).from ≡ (get_or outs k d).from)) →
    map new_out new ≡ map new_out outs
outs_same [] [] len same = refl
outs_same [] (y ∷ new) len same = absurd (omega arith)
outs_same (x ∷ outs) [] len same = absurd (omega arith)
outs_same (x ∷ outs) (y ∷ new) len same =
    let here : (y.queue ≡ x.queue) × (y.from ≡ x.from) = same 0 x (omega arith) in
    let rest = outs_same outs new (omega arith) (λ k d lt. same (suc k) d (omega arith)) in
    cc

-- and so were the ends in, where one took something or found nothing
pub inns_same : (inns : List (InView SealedEntry)) (from : ℕ) (end : InView SealedEntry) →
    ((d : InView SealedEntry) → (end.queue ≡ (get_or inns from d).queue) × (end.from ≡ (get_or inns from d).from)) →
    map new_in (set inns from end) ≡ map new_in inns
inns_same [] from end same = refl
inns_same (x ∷ inns) zero end same =
    let here : (end.queue ≡ x.queue) × (end.from ≡ x.from) = same x in cc
inns_same (x ∷ inns) (suc from) end same = ap (λ l. new_in x ∷ l) (inns_same inns from end same)
