use Rattle.report_page.proofs.tables.survivor_name.Goals as goal
use Rattle.entry_format.specs.SealedEntry.{SealedEntry}
use Rattle.entry_graph.specs.EntryGraph.{EntryGraph}
use Rattle.report_page.proofs.Imports.{ap, length, Option, report_of, slice_get, string_bytes, sym, ◌∙◌, ◌≡◌, ◌≤◌}
use Rattle.report_page.specs.Tables.{survivor_name}
use Rattle.std.proofs.{Common.None, Common.rules, Common.Some, Common.subst, lemmas.Option.slice_get_past}
use Rattle.std.specs.Prelude.{IfOk}

pub returns-then-place-count : goal.returns-then-place-count
returns-then-place-count c =
    let found : slice_get c.args.report.now.graph.survivors c.args.place ≡ Some c.node.result.now =
    ap (λ (graph : EntryGraph SealedEntry). slice_get graph.survivors c.args.place) (sym c.graph-graph.ensures.value)
    ∙ c.node.ensures.value in
    subst (λ (o : Option SealedEntry).
    IfOk c.name_of_sealed.result (λ name. string_bytes name ≡ survivor_name (report_of c.args.report.now) o))
    (sym found) c.name_of_sealed.ensures

pub returns-else-place-count : goal.returns-else-place-count
returns-else-place-count c =
    let survivors = c.graph-graph.result.now.survivors in
    let past : length survivors ≤ c.args.place = search rules in
    let none : slice_get c.args.report.now.graph.survivors c.args.place ≡ None =
    ap (λ (graph : EntryGraph SealedEntry). slice_get graph.survivors c.args.place) (sym c.graph-graph.ensures.value)
    ∙ slice_get_past survivors c.args.place past in
    c.new.ensures.bytes ∙ sym (ap (λ (o : Option SealedEntry). survivor_name (report_of c.args.report.now) o) none)
