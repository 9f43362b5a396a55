use Rattle.entangled_log.proofs.Imports.{List, ◌≡◌, ◌∙◌, ap, sym, subst, option_map, slice_get, Contains}
use Rattle.entangled_log.proofs.Imports.{slice_get_within, Event, entry_of, held, IsBorneIn, StandsFor}
use Rattle.entangled_log.proofs.Whole.{borne_at, none_bears}
use Rattle.entangled_log.proofs.log.Log.with_digest.Goals as goal

-- the frontier describes the events that the call reads
pub place_of-requires : goal.place_of-requires
place_of-requires g c =
    subst (λ (h : List (Event g.row.T.Denot)). StandsFor (λ x. g.T.Knot.node (entry_of x)) h c.self.inside.frontier)
    (sym c.deref.ensures.value) c.self.invariant.stands

-- the place is that of an event
pub entry_at-requires : goal.entry_at-requires
entry_at-requires g c =
    let (x, there, _) = c.in-Some.ensures.found in
    slice_get_within c.deref-in-Some.result.now c.in-Some.place x
    (ap (λ (h : List (Event g.row.T.Denot)). slice_get h c.in-Some.place)
    (c.deref-in-Some.ensures.value ∙ sym c.deref.ensures.value) ∙ there)

pub returns-in-Some-clause-found : goal.returns-in-Some-clause-found
returns-in-Some-clause-found g c =
    let node = g.T.Knot.node in
    let e = c.entry_at.result.now in
    let d = c.args.digest.now in
    subst (λ (h : List (Event g.row.T.Denot)). Contains (held h) e × ((node e).digest ≡ d))
    (c.deref.ensures.value ∙ ap (λ log. log.events) c.self.view_is)
    (borne_at node c.deref.result.now d c.in-Some.place e c.in-Some.ensures.found
    (ap (λ (h : List (Event g.row.T.Denot)). option_map entry_of (slice_get h c.in-Some.place))
    (c.deref.ensures.value ∙ sym c.deref-in-Some.ensures.value) ∙ c.entry_at.ensures))

pub returns-in-None-clause-none : goal.returns-in-None-clause-none
returns-in-None-clause-none g c =
    let node = g.T.Knot.node in
    let d = c.args.digest.now in
    subst (λ (h : List (Event g.row.T.Denot)). ¬ (IsBorneIn node (held h) d))
    (c.deref.ensures.value ∙ ap (λ log. log.events) c.self.view_is)
    (none_bears node c.deref.result.now d c.in-None.ensures.none)
