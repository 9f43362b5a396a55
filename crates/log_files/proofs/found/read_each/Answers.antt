use Rattle.log_files.proofs.FoundLogs.{all_stay}
use Rattle.log_files.proofs.found.read_each.Goals as goal

pub returns : goal.returns
returns g c said are =
    c.read_rest.ensures said (all_stay c.args.reader.now.machines c.args.reader.now.election c.args.found.now
    c.read_firsts.new.found c.read_firsts.ensures said are)
