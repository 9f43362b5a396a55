use Rattle.hall_outside.proofs.placing.place.Goals as goal
use Rattle.hall_outside.proofs.{GivenUp.fewer_placing, Imports.have_others, Imports.now_map, Imports.shows_same}

pub returns-in-Err-clause-any_moment : goal.returns-in-Err-clause-any_moment
returns-in-Err-clause-any_moment g c =
    fewer_placing c.args.files.now.begun.items _ _ c.requires c.remove_all.ensures.any_moment

pub remove_all-requires : goal.remove_all-requires
remove_all-requires g c = rw (c.as_slice.ensures.value, c.name_aside.ensures)
    (now_map (g.F.Folder.moments c.args.folder.now) (λ w ready. have_others _ w ready.stand) c.requires)

pub returns-in-Err-clause-shows : goal.returns-in-Err-clause-shows
returns-in-Err-clause-shows g c = let bs = c.args.files.now.begun.items in rw c.name_aside.ensures
    (shows_same bs _ _ (fewer_placing bs _ _ c.requires c.remove_all.ensures.any_moment))
