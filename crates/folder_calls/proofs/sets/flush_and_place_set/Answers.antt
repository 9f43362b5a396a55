use Rattle.std.proofs.Common.{◌∷◌, ◌++◌, []}
use Rattle.folder_calls.proofs.{Goes.where_ok, Endings.begun_now, Renames.none_renaming}
use Rattle.folder_calls.proofs.Wholes.{goes_aside, after_aside, done_after_aside, flush_aside}
use Rattle.folder_calls.proofs.sets.flush_and_place_set.Goals as goal

pub returns-in_err-flush_set-clause-any_moment : goal.returns-in_err-flush_set-clause-any_moment
returns-in_err-flush_set-clause-any_moment g c = search (goes_aside, flush_aside)

pub place_flushed-requires-clause-begun : goal.place_flushed-requires-clause-begun
place_flushed-requires-clause-begun g c =
    begun_now (c.args.mark.now ∷ c.args.rest.now) _ _ c.requires.begun c.flush_set.ensures.any_moment

pub returns-clause-any_moment : goal.returns-clause-any_moment
returns-clause-any_moment g c = after_aside _ _ _ _ _ c.requires.begun
    (flush_aside c.args.mark.now _ _ c.flush_set.ensures.any_moment) c.place_flushed.ensures.any_moment

pub returns-clause-placed : goal.returns-clause-placed
returns-clause-placed g c = where_ok c.place_flushed.result _ _ (done_after_aside c.args.mark.now c.args.rest.now _ _ _
    (flush_aside c.args.mark.now _ _ c.flush_set.ensures.any_moment)) c.place_flushed.ensures.placed

pub returns-in_err-flush_set-clause-renamed : goal.returns-in_err-flush_set-clause-renamed
returns-in_err-flush_set-clause-renamed g c = none_renaming _ _ (c.args.rest.now ++ c.args.mark.now ∷ []) _
    c.from_residual.ensures.1 c.in_err-flush_set.ensures.none
