use Rattle.survivor_rows.proofs.Imports.{rules, ◌∙◌, ◌<◌, ap, length, subst, sym, SealedEntry, row_of}
use Rattle.survivor_rows.proofs.Survivors.{rows_more, maker_at}
use Rattle.survivor_rows.proofs.row.rows.Goals as goal

pub loop-i-preserved : goal.loop-i-preserved
loop-i-preserved g c = record {
  rows = rows_more (λ e. row_of c.args.roster.now.machines (g.T.ShowsSealed.sealed e)) c.args.graph.now.survivors c.loop-i.i
      c.node.result.now c.row_of.result
      c.loop-i.rows.items c.push_reserved.new.self.items (search rules) c.node.ensures.value c.loop-i.invariant.rows
      (c.row_of.ensures ∙ ap (row_of c.args.roster.now.machines) c.sealed.ensures) c.push_reserved.ensures.items;
  room = search rules;
}

pub row_of-requires : goal.row_of-requires
row_of-requires g c =
    let machines = c.args.roster.now.machines in
    subst (λ (e : SealedEntry). e.entry.maker < length machines) (sym c.sealed.ensures)
    (maker_at g.T.ShowsSealed.sealed machines c.args.graph.now.survivors c.requires c.loop-i.i c.node.result.now
    (search rules) c.node.ensures.value)
