use Rattle.polling_world.proofs.machine.Machine.make.Goals as goal
use Rattle.polling_world.proofs.Imports.{[], ap, Cast0, election_of, get_or, get_or_from_slice_get, HaveText, List}
use Rattle.polling_world.proofs.Imports.{Role, Secret, StandFor, subst, sym, ◌∙◌, ◌≡◌}
use Rattle.polling_world.proofs.{Keeping.is_fresh, Keeping.IsKept-fresh, Rosters.roster_has_text}

pub copy_roster-requires : goal.copy_roster-requires
copy_roster-requires c = subst HaveText (sym c.requires.roster) (roster_has_text c.args.script.now c.requires.lawful)

-- what was read of the script is its machine, with the election of the script's roster
pub invariant_of-result : goal.invariant_of-result
invariant_of-result c =
    let script = c.args.script.now in
    let (cast, is, keys) = c.requires.key in
    let posts = c.in_ok-roster.ensures.copy ∙ c.requires.roster in
    let reads : c.index-machines-at.result ≡ cast =
    c.index-machines-at.is
    ∙ ap (λ (casts : List Cast0). get_or casts c.args.at c.index-machines-at.result) c.as_slice-machines.ensures
    ∙ get_or_from_slice_get script.machines c.args.at cast c.index-machines-at.result is in
    IsKept-fresh script c.args.at cast c.args.stop_at _ c.in_ok-roster.election c.args.key.next c.in_ok-rules.rules
    c.requires.lawful is
    (is_fresh script c.args.at cast c.index-machines-at.result c.args.stop_at c.in_ok-name.name
    c.in_ok-name.actions.items c.args.key c.in_ok-roster.roster.machines c.in_ok-log.log reads c.in_ok-name.ensures.name
    c.in_ok-name.ensures.actions keys posts c.in_ok-log.ensures)
    (c.in_ok-roster.ensures.election ∙ ap election_of c.requires.roster)
    (ap (λ (k : Secret). k.next) keys)
    (subst (λ (r : Role). StandFor c.in_ok-rules.rules r c.args.at []) (ap (λ (k : Cast0). k.role) reads)
    c.in_ok-rules.ensures.empty)
    c.in_ok-rules.ensures.room

pub returns : goal.returns
returns c =
    let script = c.args.script.now in
    let (cast, is, keys) = c.requires.key in
    let reads : c.index-machines-at.result ≡ cast =
    c.index-machines-at.is
    ∙ ap (λ (casts : List Cast0). get_or casts c.args.at c.index-machines-at.result) c.as_slice-machines.ensures
    ∙ get_or_from_slice_get script.machines c.args.at cast c.index-machines-at.result is in (
      cast,
      is,
      is_fresh script c.args.at cast c.index-machines-at.result c.args.stop_at c.in_ok-name.name
          c.in_ok-name.actions.items c.args.key c.in_ok-roster.roster.machines c.in_ok-log.log reads
          c.in_ok-name.ensures.name c.in_ok-name.ensures.actions keys (c.in_ok-roster.ensures.copy ∙ c.requires.roster)
          c.in_ok-log.ensures,
    )
