use Rattle.hall_outside.proofs.Imports.{begun_of_ready, kept_gone, shows_done, shows_same}
use Rattle.hall_outside.proofs.placing.finish_begun.Goals as goal

pub finish-requires : goal.finish-requires
finish-requires g c = begun_of_ready c.args.begun.now (g.F.Folder.moments c.args.folder.now) c.requires

pub returns-in-Ok : goal.returns-in-Ok
returns-in-Ok g c = let placing = c.finish.ensures.any_moment in record {
  placed = rw c.close.ensures.same (shows_done c.args.begun.now _ _ placing c.in-Ok.ensures.placed);
  shows = rw c.close.ensures.same (shows_same c.args.begun.now _ _ placing);
  any_moment = rw c.close.ensures.same placing;
  gone = rw c.close.ensures.same (kept_gone _ _ c.close.ensures.kept c.args.begun.now _ c.finish.ensures.gone);
}

pub returns-in-Err-clause-shows : goal.returns-in-Err-clause-shows
returns-in-Err-clause-shows g c =
    rw c.close-in-Err.ensures.same (shows_same c.args.begun.now _ _ c.finish.ensures.any_moment)

pub returns-in-Err-clause-gone : goal.returns-in-Err-clause-gone
returns-in-Err-clause-gone g c = rw c.close-in-Err.ensures.same
    (kept_gone _ _ c.close-in-Err.ensures.kept c.args.begun.now _ c.finish.ensures.gone)
