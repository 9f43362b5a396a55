use Rattle.demonstration.proofs.Imports.{◌≡◌, ◌+◌, length, drop, flat_map, record_text}
use Rattle.demonstration.proofs.kept.begin_of.Given as goal

-- the records from here on aren't counted yet
abbrev pub invariant-loop-event : goal.invariant-loop-event
invariant-loop-event l =
    l.begin + length (flat_map record_text l.events)
    ≡ l.fn.bytes + length (flat_map record_text (drop l.event-index l.events))
