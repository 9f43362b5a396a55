use Rattle.log_commands.proofs.watch.watch_few.Goals as goal
use Rattle.log_commands.proofs.Imports.{Answer, ap, evidence_by, graph_has_finding, is_broken, is_unsettled, list_any}
use Rattle.log_commands.proofs.Imports.{log_has_finding, not_absent, Ok, outcome_by, source_named, string_bytes, sym}
use Rattle.log_commands.proofs.{Imports.Watches, Imports.◌||◌, Imports.◌∙◌, WatchSteps.lines_told, WatchSteps.too_wide}

pub wide_among-requires-clause-graphed : goal.wide_among-requires-clause-graphed
wide_among-requires-clause-graphed c = rw c.requires.entries c.requires.graphed

pub wide_among-requires-clause-machines : goal.wide_among-requires-clause-machines
wide_among-requires-clause-machines c = rw c.requires.entries c.requires.machines

pub wide_among-requires-clause-few : goal.wide_among-requires-clause-few
wide_among-requires-clause-few c = rw c.requires.entries c.requires.few

pub returns-in-Some-clause-err : goal.returns-in-Some-clause-err
returns-in-Some-clause-err c names =
    too_wide c.args.word.now c.args.logs.now names c.args.graph.now c.requires.graphed c.requires.few
    c.args.roster.now.machines c.args.rules.items c.in-Some.place c.refused.result
    (rw (c.in-Some.is, c.as_slice.ensures.value, c.requires.entries) at c.in_ok-place.ensures) c.refused.ensures

pub watch_entries-requires-clause-machines : goal.watch_entries-requires-clause-machines
watch_entries-requires-clause-machines c =
    rw (c.requires.entries, c.in_ok-live.ensures.machines) c.requires.machines

pub watch_entries-requires-clause-apart : goal.watch_entries-requires-clause-apart
watch_entries-requires-clause-apart c = rw c.requires.entries c.requires.graphed.0

pub watch_entries-requires-clause-few : goal.watch_entries-requires-clause-few
watch_entries-requires-clause-few c = rw c.requires.entries c.requires.few

pub returns-in-Ok-clause-ok : goal.returns-in-Ok-clause-ok
returns-in-Ok-clause-ok c names =
    let made = c.in_ok-live.ensures in
    let done = c.in-Ok.ensures in
    let machines = done.same.machines ∙ made.machines in
    let rules = done.same.rules ∙ made.rules in
    let answer = c.answer_of.result in
    let source = source_named c.args.word.now in
    coe 0 1 (i. Watches source names (evidence_by (machines i) (rules i) c.args.logs.now) (Ok answer))
    (lines_told c.args.word.now c.args.logs.now names c.args.graph.now c.requires.graphed c.requires.few
    c.entries_give_one_graph.ensures c.watch_entries.new.live (string_bytes c.in-Ok.lines) answer done.kept
    (rw c.requires.entries at done.added)
    (rw (← done.same.machines, ← done.same.rules, c.requires.entries) at done.ok) c.answer_of.ensures)

pub returns-in-Ok-clause-status : goal.returns-in-Ok-clause-status
returns-in-Ok-clause-status c =
    let verdicts = c.watch_entries.new.live.summary.verdicts in
    λ e. not_absent
    (outcome_by (list_any is_broken verdicts) (list_any is_unsettled verdicts)
    (list_any log_has_finding c.args.logs.now || graph_has_finding c.args.graph.now))
    (sym (ap (λ (a : Answer). a.status) c.answer_of.ensures) ∙ e)

pub returns-in-Err-TooWide-clause-err : goal.returns-in-Err-TooWide-clause-err
returns-in-Err-TooWide-clause-err c names =
    let made = c.in_ok-live.ensures in
    too_wide c.args.word.now c.args.logs.now names c.args.graph.now c.requires.graphed c.requires.few
    c.args.roster.now.machines c.args.rules.items c.in-Err-TooWide.place c.refused-in-Err-TooWide.result
    (rw (c.in-Err-TooWide.field-0-is, made.machines, made.rules, c.requires.entries) at c.in-Err-TooWide.ensures.err)
    c.refused-in-Err-TooWide.ensures
