use Rattle.entangled_picture.proofs.picture.add_all_unsettled.Given as goal
use Rattle.entangled_picture.proofs.Imports.{flat_map, is_unsettled, range_with_len, report_of, rule_word, ◌++◌, ◌≡◌}

-- the names so far
abbrev pub invariant-loop-rule : goal.invariant-loop-rule
invariant-loop-rule l =
    l.out.items
    ≡ l.fn.out.items ++ flat_map (rule_word is_unsettled (report_of l.report)) (range_with_len 0 l.rule)
