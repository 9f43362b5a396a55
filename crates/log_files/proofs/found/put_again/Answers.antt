use Rattle.log_files.proofs.FoundLogs.{read_again}
use Rattle.log_files.proofs.found.put_again.Goals as goal

pub returns : goal.returns
returns c =
    read_again c.args.reader.now.machines c.args.reader.now.election c.args.found.now c.args.at
    c.index-found-at.result c.put_reading.new.found c.args.reading c.requires.within c.requires.unread
    c.put_reading.ensures.same c.put_reading.ensures.reading c.put_reading.ensures.text
