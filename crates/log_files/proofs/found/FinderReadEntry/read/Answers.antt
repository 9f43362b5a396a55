use Rattle.log_files.proofs.found.FinderReadEntry.read.Goals as goal
use Rattle.log_files.proofs.{FoundLogs.found_known_gives, Imports.text_of}

-- a known entry is read at once
pub returns-in-Some : goal.returns-in-Some
returns-in-Some c = found_known_gives c.args.self.now.reader.now.machines c.args.self.now.reader.now.election
    c.args.place c.args.sent (text_of c.args.entry.now) c.in-Some.known.now c.in-Some.ensures c.found_known.result
    c.found_known.ensures.value c.found_known.ensures.memory
