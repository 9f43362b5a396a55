use Rattle.log_commands.proofs.Imports.{All-map, length, map, SealedEntry, survivors_have_makers, ◌<◌}
use Rattle.log_commands.proofs.watch.wide_among.Goals as goal

-- the survivors are of the machines
pub rows-requires : goal.rows-requires
rows-requires c =
    All-map (λ (e : SealedEntry). e.entry.maker < length c.args.roster.now.machines) (λ (e : SealedEntry). e)
    c.args.graph.now.survivors
    (survivors_have_makers c.args.roster.now.machines (map (λ e. e.now) c.args.entries.now) c.args.graph.now
    (λ k d within. (c.requires.machines k d within).maker) c.requires.graphed)

pub wide_after-requires-clause-machines : goal.wide_after-requires-clause-machines
wide_after-requires-clause-machines c = rw c.in_ok-live.ensures.machines c.requires.machines

pub returns : goal.returns
returns c = rw c.in_ok-live.ensures.machines at c.wide_after.ensures
