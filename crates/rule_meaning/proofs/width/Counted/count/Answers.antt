use Rattle.rule_meaning.proofs.Widths.{count_of_any}
use Rattle.rule_meaning.proofs.width.Counted.count.Goals as goal

pub returns-in-Any : goal.returns-in-Any
returns-in-Any c =
    let all = count_of_any c.self.inside.rows.now in
    let rows = c.self.view_is in
    let kind = c.in-Any.is in
    cc

pub returns-in-Cancel : goal.returns-in-Cancel
returns-in-Cancel c =
    let counted = c.self.invariant.8 in
    let rows = c.self.view_is in
    let kind = c.in-Cancel.is in
    cc

pub returns-in-Challenge : goal.returns-in-Challenge
returns-in-Challenge c =
    let counted = c.self.invariant.9 in
    let rows = c.self.view_is in
    let kind = c.in-Challenge.is in
    cc
