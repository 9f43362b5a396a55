-- What the events miss the entries held miss.
use Rattle.entangled_log.proofs.Imports.{◌≡◌, ◌∙◌, List, sym, ap, not, filter, flat_map, filter_agree, flat_map-map}
use Rattle.entangled_log.proofs.Imports.{Event, Node, has_digest, ascending, entry_of, held, gaps, has_digest_held}

-- the gaps of the events are those of the entries held
pub gaps_held : {T : Type 0} (node : T → Node) (h : List (Event T)) →
    gaps (λ x. node (entry_of x)) h ≡ gaps node (held h)
gaps_held node h =
    ap ascending
    (filter_agree (λ d. not (has_digest (λ x. node (entry_of x)) h d)) (λ d. not (has_digest node (held h) d))
    (λ d. ap not (has_digest_held node h d)) (flat_map (λ x. (node (entry_of x)).names) h)
    ∙ ap (filter (λ d. not (has_digest node (held h) d)))
    (sym (flat_map-map (λ e. (node e).names) entry_of h)))
