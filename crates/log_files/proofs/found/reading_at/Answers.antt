use Rattle.log_files.proofs.Imports.{[], arith, get_or, get_or_read, IsReadBy, length, RecordText, true, ◌<◌}
use Rattle.log_files.proofs.FoundLogs.{known_by}
use Rattle.log_files.proofs.found.reading_at.Goals as goal

-- the first record with the text is known by its reading
pub returns-in-Some : goal.returns-in-Some
returns-in-Some c said are d sure =
    let machines = c.args.reader.now.machines in
    let election = c.args.reader.now.election in
    let first = c.in-Some.first.now in
    let none : RecordText = record { place = 0; sent = true; text = [] } in
    let text = get_or said first none in
    let earlier = c.index-found-first.result in
    let low : first < length said = omega (arith, are.0, c.if-first-found.true) in
    let was : IsReadBy machines election text earlier = rw c.index-found-first.is (are.1 first none earlier low) in
    rw (get_or_read c.args.found.now c.args.at c.index-found-at.result c.requires c.index-found-at.is d) at
    (c.reading_after.ensures (known_by machines election text earlier was) sure)
