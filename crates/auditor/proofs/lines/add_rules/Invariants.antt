use Rattle.auditor.proofs.Imports.{flat_map, map, rule_line, rule_tree, string_bytes, take, zip, ◌++◌, ◌≡◌}
use Rattle.auditor.proofs.lines.add_rules.Given as goal

-- the lines of the rules so far
abbrev pub invariant-loop-i : goal.invariant-loop-i
invariant-loop-i l =
    string_bytes l.lines
    ≡ string_bytes l.fn.lines
    ++ flat_map (rule_line l.roster.machines l.graph.survivors) (take l.i (zip (map rule_tree l.rules) l.verdicts))
