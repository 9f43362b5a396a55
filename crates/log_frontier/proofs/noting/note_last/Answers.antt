use Rattle.log_frontier.proofs.noting.note_last.Goals as goal
use Rattle.log_frontier.proofs.{Imports.sym, Imports.◌∙◌, Notes.left_inside, Notes.note_free, Notes.note_named}

-- what is left is in what is held
pub insert_place-requires-clause-inside : goal.insert_place-requires-clause-inside
insert_place-requires-clause-inside g c =
    rw c.drop_named.ensures.left
    (left_inside g.T.Knot.node c.args.held.now c.args.place c.index-held-place.result c.args.places.now.items
    c.requires.last c.index-held-place.is c.requires.front)

-- the last entry is named by none, so its place is put in
pub returns-then-not-named-clause-front : goal.returns-then-not-named-clause-front
returns-then-not-named-clause-front g c =
    rw (c.insert_place.ensures.inserted, c.digest.ensures, c.drop_named.ensures.left)
    (note_free g.T.Knot.node c.args.held.now c.args.place c.index-held-place.result c.args.places.now.items
    c.requires.last c.index-held-place.is c.requires.front c.requires.distinct
    (sym c.requires.named ∙ c.if-not-named.true))

-- the last entry is named, so what is left is all
pub returns-else-not-named-clause-front : goal.returns-else-not-named-clause-front
returns-else-not-named-clause-front g c =
    rw c.drop_named.ensures.left
    (note_named g.T.Knot.node c.args.held.now c.args.place c.index-held-place.result c.args.places.now.items
    c.requires.last c.index-held-place.is c.requires.front (sym c.requires.named ∙ c.if-not-named.false))
