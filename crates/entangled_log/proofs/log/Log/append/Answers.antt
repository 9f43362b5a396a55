use Rattle.entangled_log.proofs.Imports.{◌≡◌, ◌<◌, max, List, [], ◌∷◌, ◌++◌, length, vec_capacity, sym, ap, subst}
use Rattle.entangled_log.proofs.Imports.{◌∙◌, rules, arith, Event, entry_of, MayFollow, IsLegal-push}
use Rattle.entangled_log.proofs.Imports.{HasNoDigestTwice, StandsFor, History, own_after}
use Rattle.entangled_log.proofs.Own.{own_few}
use Rattle.entangled_log.proofs.Kept.{IsKept-push, IsKept-at, no_digest_twice, stands_before}
use Rattle.entangled_log.proofs.log.Log.append.Goals as goal

-- no more places are kept than there are events
pub note_own-requires : goal.note_own-requires
note_own-requires g c =
    let kept = c.self.invariant in
    let room : length c.self.inside.events.items < c.self.inside.capacity =
    subst (λ (log : History g.row.T.Denot). length log.events < log.capacity) (sym c.self.view_is) c.requires.room in
    omega (arith, room, kept.own_reserved, own_few c.self.inside.events.items c.self.inside.own.items kept.own_places)

-- the frontier stood for the events before
pub note-requires-clause-stands : goal.note-requires-clause-stands
note-requires-clause-stands g c =
    stands_before (λ x. g.T.Knot.node (entry_of x)) c.self.inside.events.items c.args.event c.len-place.result
    c.deref.result.now c.self.inside.frontier c.self.invariant.stands (search rules) (search rules)

-- the longer history is legal, so it has no digest twice
pub note-requires-clause-distinct : goal.note-requires-clause-distinct
note-requires-clause-distinct g c =
    let node = g.T.Knot.node in
    let owner = c.self.inside.owner in
    let events = c.self.inside.events.items in
    let may : MayFollow node owner events c.args.event =
    subst (λ (log : History g.row.T.Denot). MayFollow node log.owner log.events c.args.event) (sym c.self.view_is)
    c.requires.may in
    subst (λ (h : List (Event g.row.T.Denot)). HasNoDigestTwice (λ x. node (entry_of x)) h) (search rules)
    (no_digest_twice node owner (events ++ c.args.event ∷ [])
    (IsLegal-push node owner events c.args.event c.self.invariant.legal may))

-- one event more is kept
pub invariant_of-self : goal.invariant_of-self
invariant_of-self g c =
    let node = g.T.Knot.node in
    let log = c.self.inside in
    let x = c.args.event in
    let events = log.events.items in
    let may : MayFollow node log.owner events x =
    subst (λ (log : History g.row.T.Denot). MayFollow node log.owner log.events x) (sym c.self.view_is)
    c.requires.may in
    let room : length events < log.capacity =
    subst (λ (log : History g.row.T.Denot). length log.events < log.capacity) (sym c.self.view_is) c.requires.room in
    let same : c.push_reserved.new.self.items ≡ events ++ x ∷ [] = search rules in
    let stands : StandsFor (λ x. node (entry_of x)) (events ++ x ∷ []) c.note.new.self =
    subst (λ (h : List (Event g.row.T.Denot)). StandsFor (λ x. node (entry_of x)) h c.note.new.self)
    (c.deref.ensures.value ∙ same) c.note.ensures.stands in
    let kept =
    IsKept-push node log.owner log.capacity events x log.frontier c.note.new.self log.own.items log.top
    (vec_capacity log.events) (vec_capacity log.own) c.self.invariant may room stands c.note.ensures.room in
    let top_is : max log.top (node (entry_of x)).stamp ≡ c.max-self-inside.result = search rules in
    let place_is : c.len-place.result ≡ length events = search rules in
    let own_is : own_after x (length events) log.own.items ≡ c.note_own.new.own.items =
    sym (c.note_own.ensures.own ∙ ap (λ n. own_after x n log.own.items) place_is) in
    IsKept-at node log.owner log.capacity (events ++ x ∷ []) c.push_reserved.new.self.items c.note.new.self
    (own_after x (length events) log.own.items) c.note_own.new.own.items (max log.top (node (entry_of x)).stamp)
    c.max-self-inside.result (vec_capacity log.events) (vec_capacity c.push_reserved.new.self) (vec_capacity log.own)
    (vec_capacity c.note_own.new.own) (sym same) own_is top_is (sym c.push_reserved.ensures.capacity)
    (sym c.note_own.ensures.capacity) kept
