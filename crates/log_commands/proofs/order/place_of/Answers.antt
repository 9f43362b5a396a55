use Rattle.log_commands.proofs.Imports.{by_digest, by_number, IsNamedBy, ◌≡◌}
use Rattle.log_commands.proofs.EntryTexts.{place_means}
use Rattle.log_commands.proofs.order.place_of.Goals as goal

pub returns-in-Some-Digest : goal.returns-in-Some-Digest
returns-in-Some-Digest c =
    let digest = c.in-Some-Digest.digest in
    place_means c.args.roster.now.machines c.args.graph.now.survivors c.args.word.now (by_digest digest)
    (λ e. e.digest ≡ digest) c.place_of_digest.result
    (rw (c.in-Some-Digest.field-0-is, c.as_bytes.ensures.value) at c.in-Some-Digest.ensures.found)
    (λ e has is. (has, is)) (λ e named. named.1) c.place_of_digest.ensures

pub returns-in-Some-Number : goal.returns-in-Some-Number
returns-in-Some-Number c =
    let machines = c.args.roster.now.machines in
    let S = c.args.graph.now.survivors in
    let name = by_number c.in-Some-Number.machine.now c.in-Some-Number.number in
    place_means machines S c.args.word.now name (IsNamedBy machines S name) c.place_of_number.result
    (rw (c.in-Some-Number.field-0-is, c.as_bytes.ensures.value) at c.in-Some-Number.ensures.found)
    (λ e has is. is) (λ e named. named) c.place_of_number.ensures

-- the word is none for an entry
pub returns-in-None : goal.returns-in-None
returns-in-None c =
    let none = rw c.as_bytes.ensures.value at c.in-None.ensures.none in λ e has (name, spelt, named). none (name, spelt)
