use Rattle.log_repair.proofs.Imports.{◌≡◌, ◌∙◌, Some, None, false, sym, node_of_sealed, has_stopped}
use Rattle.log_repair.proofs.Bearers.{one_bears}
use Rattle.log_repair.proofs.bearer.answer_of.Goals as goal

-- the log's entry with the digest is the one that is found, since no digest occurs twice
pub returns-in-Some : goal.returns-in-Some
returns-in-Some c =
    let m = c.args.machine.now in
    let runs : has_stopped m ≡ false = sym c.stopped.ensures ∙ c.if-stopped.false in
    let found = rw c.log.ensures.log at c.in-Some.ensures.found in
    let is = one_bears node_of_sealed c.args.digest.now m.config.number m.events c.log.ensures.machine.legal
    (Some c.in-Some.entry.now) found in
    rw (runs, ← is, c.maker.ensures, c.number.ensures)

-- a machine that holds no such entry answers nothing
pub returns-in-None : goal.returns-in-None
returns-in-None c =
    let m = c.args.machine.now in
    let runs : has_stopped m ≡ false = sym c.stopped.ensures ∙ c.if-stopped.false in
    let none = rw c.log.ensures.log at c.in-None.ensures.none in
    let is = one_bears node_of_sealed c.args.digest.now m.config.number m.events c.log.ensures.machine.legal None
    (λ _. none) in
    rw (runs, ← is)
