use Rattle.log_commands.proofs.Imports.{checked_line, flat_map, map, rule_tree, string_bytes, take, zip, ◌++◌, ◌≡◌}
use Rattle.log_commands.proofs.check.add_rules.Given as goal

-- the lines of the rules so far
abbrev pub invariant-loop-i : goal.invariant-loop-i
invariant-loop-i l =
    string_bytes l.lines
    ≡ string_bytes l.fn.lines ++ flat_map checked_line (take l.i (zip (map rule_tree l.rules) l.verdicts))
