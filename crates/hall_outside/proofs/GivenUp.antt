-- Files that are given up before any is put in place.
use Rattle.hall_outside.proofs.Imports.{[], AreBegun, aside_same, Begun, between_fewer, between_same, FolderMoment}
use Rattle.hall_outside.proofs.Imports.{Goes, goes_map, IsFewer, IsPlacing, IsWholeOf, List, Moments, Now}
use Rattle.hall_outside.proofs.Imports.{StandsInOrder, whole_aside, whole_fewer, ◌∷◌}

-- where a crash leaves no more than before, the set is whole
whole_of : (bs : List Begun) (s w : FolderMoment) → AreBegun bs s → IsFewer s w → IsWholeOf bs s w
whole_of [] s w begun fewer = tt
whole_of (mark ∷ rest) s w begun fewer =
    whole_fewer mark rest s s w begun (whole_aside mark rest s s begun (aside_same mark s)) fewer

-- giving files up is a way to put them in place
pub fewer_placing : (bs : List Begun) (a b : Moments) → Now a (StandsInOrder bs) → Goes IsFewer a b
    → Goes (IsPlacing bs) a b
fewer_placing bs a b = goes_map a b (λ s w ready fewer.
    let between = between_fewer bs s s w ready.stand (between_same bs s) fewer in
    record { files = λ not. between; set = λ is. whole_of bs s w ready.stand fewer; shows = between.shows })
