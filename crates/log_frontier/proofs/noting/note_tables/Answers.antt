use Rattle.log_frontier.proofs.Tables.{noted_more}
use Rattle.log_frontier.proofs.noting.note_tables.Goals as goal

-- the last entry has its place
pub returns-clause-noted : goal.returns-clause-noted
returns-clause-noted g c =
    noted_more g.T.Knot.node c.args.held.now c.args.place c.index-held-place.result c.requires.last
    c.index-held-place.is c.args.noted.now.list c.insert.new.self.list c.requires.noted
    (λ d. rw c.digest.ensures at (c.insert.ensures.places d))
