use Rattle.auditor.proofs.auditing.begin.Goals as goal
use Rattle.auditor.proofs.{Chained.file_ends, Chained.file_joins, Imports.Begun, Imports.Err, Imports.GivesRoster}
use Rattle.auditor.proofs.Imports.{HasBegun, HasRules, InputFault, IsReadFromFile, List, Ok, report_of, Result}
use Rattle.auditor.proofs.Imports.{RosterRead, rule_files, RuleSource, source_of, StoreGhosts, WithRoster, ℕ, ◌++◌}

-- once the roster and the rules are read, the audit has begun
begun_after : {S : Type 0} (of : StoreGhosts S) (roster : List ℕ) (source : RuleSource) (old mid : S)
    (read : RosterRead) (result : Result Begun InputFault) (new : S) →
    IsReadFromFile of (λ (r : RosterRead). r) roster (GivesRoster roster) old (Ok read) mid →
    HasRules of read source mid result new → HasBegun of roster source old result new
begun_after of roster source old mid read (Ok begun) new first rest = λ names answer last end.
    file_joins of (λ (r : RosterRead). r) (GivesRoster roster) roster report_of (λ r. WithRoster r source names)
    (rule_files source ++ names) old mid last read answer first (rest names answer last end)
begun_after of roster source old mid read (Err fault) new first rest = λ names.
    file_joins of (λ (r : RosterRead). r) (GivesRoster roster) roster report_of (λ r. WithRoster r source names)
    (rule_files source ++ names) old mid new read (Err fault) first (rest names)

pub returns-in-Ok : goal.returns-in-Ok
returns-in-Ok g c =
    begun_after g.S.Store c.args.roster.now (source_of c.args.from) c.args.store.now c.read_roster.new.store
    c.in-Ok.read c.with_roster.result c.with_roster.new.store c.in-Ok.ensures c.with_roster.ensures

pub returns-in-Err : goal.returns-in-Err
returns-in-Err g c = λ names.
    file_ends g.S.Store (λ (r : RosterRead). r) (GivesRoster c.args.roster.now) c.args.roster.now report_of
    (λ r. WithRoster r (source_of c.args.from) names) (rule_files (source_of c.args.from) ++ names) c.args.store.now
    c.read_roster.new.store c.in-Err.fault c.in-Err.ensures
