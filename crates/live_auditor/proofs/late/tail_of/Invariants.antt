use Rattle.live_auditor.proofs.Imports.{CanFollow, EntryGraph, IsFollowed, IsGraphed, kept_of, List, SealedEntry, take}
use Rattle.live_auditor.proofs.late.tail_of.Given as goal

-- those so far come after the first ones
abbrev pub invariant-loop-entry : goal.invariant-loop-entry
invariant-loop-entry l =
    (given : List SealedEntry) (graph : EntryGraph SealedEntry) →
    IsGraphed l.roster.machines given graph l.first.summary.gaps (kept_of l.first.survivors) →
    CanFollow given l.later l.below →
    IsFollowed l.roster.machines given graph (kept_of l.first.survivors) (take l.entry-index l.later) l.tail
