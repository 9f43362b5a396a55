-- Stations that are taken apart, one after another.
use Rattle.machine_floor.proofs.Imports.{ℕ, List, [], ◌∷◌, ◌++◌, sym, ap, ◌∙◌, Option, InView, OutView}
use Rattle.machine_floor.proofs.Imports.{SealedEntry, Loss, IsStation, StationState, AreParts, by_of, MachineState}
use Rattle.machine_floor.proofs.Imports.{flat_map-append, append-nil, map-append, All-push, flat_map}

-- one more
pub parts_push : (done : List StationState) (machines : List MachineState) (outs : List (List (OutView SealedEntry)))
    (inns : List (List (InView SealedEntry))) (losses : List Loss) (by : List (List (Option ℕ))) (s : StationState) →
    AreParts done machines outs inns losses by → IsStation s →
    AreParts (done ++ s ∷ []) (machines ++ s.machine ∷ []) (outs ++ s.outs ∷ []) (inns ++ s.inns ∷ [])
    (losses ++ s.losses) (by ++ by_of s.ticks ∷ [])
parts_push done machines outs inns losses by s parts is = record {
  all = All-push IsStation done s parts.all is;
  machines_are = ap (λ xs. xs ++ s.machine ∷ []) parts.machines_are
      ∙ sym (map-append (λ (s : StationState). s.machine) done (s ∷ []));
  outs_are = ap (λ xs. xs ++ s.outs ∷ []) parts.outs_are
      ∙ sym (map-append (λ (s : StationState). s.outs) done (s ∷ []));
  inns_are = ap (λ xs. xs ++ s.inns ∷ []) parts.inns_are
      ∙ sym (map-append (λ (s : StationState). s.inns) done (s ∷ []));
  losses_are = ap (λ xs. xs ++ s.losses) parts.losses_are
      ∙ ap (λ x. flat_map (λ (s : StationState). s.losses) done ++ x) (sym (append-nil s.losses))
      ∙ sym (flat_map-append (λ (s : StationState). s.losses) done (s ∷ []));
  by_are = ap (λ xs. xs ++ by_of s.ticks ∷ []) parts.by_are
      ∙ sym (map-append (λ (s : StationState). by_of s.ticks) done (s ∷ []));
}
