use Rattle.log_files.proofs.Imports.{ap, Err, rules, ◌≡◌}
use Rattle.log_files.proofs.found.reading_after.Goals as goal

-- the same text has the same fault
pub returns-in-Err : goal.returns-in-Err
returns-in-Err c is_known told =
    let known = rw c.in-Err.is at is_known in
    let same : c.args.first.now.text.items ≡ c.args.found.now.text.items =
    grind (rules, c.if-eq-2.true, c.if-eq-2.ensures) in
    rw same at (known (λ e. told (ap Err e)))
