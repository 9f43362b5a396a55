use Rattle.auditor.proofs.Imports.{codes, Err, inr, IsFirstTooWide, map, of_refusal, refl, Refusal, refused, row_of}
use Rattle.auditor.proofs.Imports.{rule_tree, source_of, source_word, string_bytes, WithGraph}
use Rattle.auditor.proofs.auditing.with_graph.Goals as goal

-- a rule that is too wide is reported by its place
pub returns-in-Err-TooWide-clause-err : goal.returns-in-Err-TooWide-clause-err
returns-in-Err-TooWide-clause-err c =
    let machines = c.args.roster.machines in
    let graph = c.args.graph in
    let rules = map rule_tree c.args.rules.items in
    let source = source_of c.args.from in
    let place = c.in-Err-TooWide.place in
    let refusal = refused (source_word source) place (codes "TooWide") in
    let first : IsFirstTooWide (map (row_of machines) graph.survivors) rules place =
    rw (c.in-Err-TooWide.field-0-is, c.as_slice.ensures.value) at c.in-Err-TooWide.ensures.err in
    of_refusal
    (λ (r : Refusal). WithGraph machines source rules (map string_bytes c.args.files.items) c.args.logs.items graph
    (Err r)) refusal c.refused.result (rw c.word.ensures at c.refused.ensures)
    (inr (refusal, (place, first, refl), refl))
