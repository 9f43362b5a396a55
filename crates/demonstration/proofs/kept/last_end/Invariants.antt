use Rattle.demonstration.proofs.Imports.{take, MatchOption, HasNoEnd, IsLastEnd}
use Rattle.demonstration.proofs.kept.last_end.Given as goal

-- the last of the events so far that ends the session, if one does
abbrev pub invariant-loop-place : goal.invariant-loop-place
invariant-loop-place l =
    MatchOption l.last (HasNoEnd l.session (take l.place l.events)) (IsLastEnd l.session (take l.place l.events))
