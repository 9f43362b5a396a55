use Rattle.entangled_log.proofs.Imports.{◌≡◌, ◌∙◌, ◌<◌, ◌≤◌, get_or, length, refl, sym, ap, rules, option_map}
use Rattle.entangled_log.proofs.Imports.{slice_get_within, slice_get_read, slice_get_past, Sent, entry_of}
use Rattle.entangled_log.proofs.Own.{own_at, own_none}
use Rattle.entangled_log.proofs.history.sent_at.Goals as goal

-- the place is one of the events
pub entry_at-requires : goal.entry_at-requires
entry_at-requires g c =
    let events = c.args.events.now in
    let own = c.args.own.now in
    let within : c.args.number < length own = search rules in
    let is : c.in-Some.place.now ≡ get_or own c.args.number c.in-Some.place.now = search rules in
    let found = slice_get_read own (length own) c.args.number c.in-Some.place.now refl within is in
    let r = own_at events own c.requires c.args.number c.in-Some.place.now found in
    slice_get_within events c.in-Some.place.now (Sent r.0) r.2

-- the entry that is found has the number
pub returns-in-Some-clause-found : goal.returns-in-Some-clause-found
returns-in-Some-clause-found g c =
    let events = c.args.events.now in
    let own = c.args.own.now in
    let within : c.args.number < length own = search rules in
    let is : c.in-Some.place.now ≡ get_or own c.args.number c.in-Some.place.now = search rules in
    let found = slice_get_read own (length own) c.args.number c.in-Some.place.now refl within is in
    let r = own_at events own c.requires c.args.number c.in-Some.place.now found in
    r.1 ∙ sym (ap (option_map entry_of) r.2) ∙ c.entry_at.ensures

-- where there is no such place, there is no such entry
pub returns-in-None-clause-none : goal.returns-in-None-clause-none
returns-in-None-clause-none g c =
    let own = c.args.own.now in
    let past : length own ≤ c.args.number = search rules in
    own_none c.args.events.now own c.requires c.args.number (slice_get_past own c.args.number past)
