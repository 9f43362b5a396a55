use Rattle.auditor.proofs.Imports.{entry_words, string_bytes, take, ◌++◌, ◌≡◌}
use Rattle.auditor.proofs.lines.add_entries.Given as goal

-- the words of the places so far
abbrev pub invariant-loop-place : goal.invariant-loop-place
invariant-loop-place l =
    string_bytes l.lines
    ≡ string_bytes l.fn.lines ++ entry_words l.roster.machines l.graph.survivors (take l.place-index l.places)
