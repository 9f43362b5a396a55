use Rattle.log_commands.proofs.Imports.{entries_of_records, map, take, ◌++◌, ◌≡◌}
use Rattle.log_commands.proofs.watch.add_kept.Given as goal

-- the entries of the records so far
abbrev pub invariant-loop-record : goal.invariant-loop-record
invariant-loop-record l =
    map (λ e. e.now) l.entries.items
    ≡ map (λ e. e.now) l.fn.entries.items ++ entries_of_records (take l.record-index l.kept)
