-- That files stand ready is a fact: it has at most one proof.
use Rattle.std.specs.Prelude.{ℕ, List, [], ◌∷◌}
use Rattle.std.proofs.Props.{props}
use Rattle.folder_calls.specs.declared.begun.Begun.{Begun}
use Rattle.folder_calls.specs.World.{FolderMoment, Moments, Now}
use Rattle.folder_calls.specs.Placing.{IsApart, StandsBegun, AreBegun, IsUnshared, AreOwn, StandsInOrder}

one_apart : (b : Begun) (bs : List Begun) → IsProp (IsApart b bs)
one_apart b [] = hlevel props
one_apart b (x ∷ xs) = hlevel (props, one_apart b xs)

one_stand : (b : Begun) (w : FolderMoment) → IsProp (StandsBegun b w)
one_stand b w = hlevel props

one_begun : (bs : List Begun) (w : FolderMoment) → IsProp (AreBegun bs w)
one_begun [] w = hlevel props
one_begun (b ∷ bs) w = hlevel (props, one_stand b w, one_apart b bs, one_begun bs w)

one_alone : (i : ℕ) (bs : List Begun) → IsProp (IsUnshared i bs)
one_alone i [] = hlevel props
one_alone i (b ∷ bs) = hlevel (props, one_alone i bs)

one_own : (bs : List Begun) (w : FolderMoment) → IsProp (AreOwn bs w)
one_own [] w = hlevel props
one_own (b ∷ bs) w = hlevel (props, one_alone b.number bs, one_own bs w)

pub one_ready : (bs : List Begun) (ws : Moments) → IsProp (Now ws (StandsInOrder bs))
one_ready bs [] = hlevel props
one_ready bs (w ∷ ws) = hlevel (props, one_begun bs w, one_own bs w)
