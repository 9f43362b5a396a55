use Rattle.entry_format.proofs.Imports.{arith, length, refl, rules, ◌<◌, ◌≡◌}
use Rattle.entry_format.proofs.Keys.{key_is}
use Rattle.entry_format.proofs.unsealing.valid_key.Goals as goal

-- the signature doesn't verify
pub returns-then-not-is_signed-clause-err : goal.returns-then-not-is_signed-clause-err
returns-then-not-is_signed-clause-err c =
    let entry = c.args.entry.now in
    let machines = c.args.machines.now in
    let election : entry.election ≡ c.args.election.now = search rules in
    let maker : entry.maker < length machines = omega arith in
    let key = key_is machines entry.maker c.index-machines-maker.result maker in (
      election,
      maker,
      c.if-not-has_index.ensures.0 refl,
      λ signs. let never = c.if-not-is_signed.ensures.1 (rw (key, c.requires) signs) in cc,
    )

pub returns-clause-ok : goal.returns-clause-ok
returns-clause-ok c =
    let entry = c.args.entry.now in
    let machines = c.args.machines.now in
    let election : entry.election ≡ c.args.election.now = search rules in
    let maker : entry.maker < length machines = omega arith in
    record {
      of_election = election;
      maker = maker;
      of_maker = key_is machines entry.maker c.index-machines-maker.result maker;
      index = c.if-not-has_index.ensures.0 refl;
      signs = rw c.requires at (c.if-not-is_signed.ensures.0 refl);
    }
