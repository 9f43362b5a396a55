use Rattle.folder_calls.proofs.{Goes.where_ok, Goes.goes_map, Goes.goes_then, Goes.ends_then, Renames.none_renaming}
use Rattle.folder_calls.proofs.{Endings.begun_now, Endings.flush_is_between, Endings.flushed_same_moment}
use Rattle.folder_calls.proofs.{Endings.flushed_fewer, Endings.between_after, Endings.done_after}
use Rattle.folder_calls.proofs.placing.flush_and_place.Goals as goal

pub returns-in_err-flush_all-clause-any_moment : goal.returns-in_err-flush_all-clause-any_moment
returns-in_err-flush_all-clause-any_moment g c =
    goes_map _ _ (flush_is_between c.args.begun.now) c.requires.begun c.flush_all.ensures.any_moment

pub place_all-requires-clause-begun : goal.place_all-requires-clause-begun
place_all-requires-clause-begun g c = begun_now c.args.begun.now _ _ c.requires.begun c.flush_all.ensures.any_moment

pub returns-clause-any_moment : goal.returns-clause-any_moment
returns-clause-any_moment g c = goes_then _ (λ s are. flushed_same_moment s) _ _ _ (flush_is_between c.args.begun.now)
    (λ s v w are more. between_after c.args.begun.now s v w are (flushed_fewer s v more))
    c.requires.begun c.flush_all.ensures.any_moment c.place_all.ensures.any_moment

pub returns-clause-placed : goal.returns-clause-placed
returns-clause-placed g c = where_ok c.place_all.result _ _ (ends_then _ (λ s are. flushed_same_moment s) _ _ _
    (λ s v w are more. done_after c.args.begun.now s v w (flushed_fewer s v more)) c.requires.begun
    c.flush_all.ensures.any_moment) c.place_all.ensures.placed

pub returns-in_err-flush_all-clause-renamed : goal.returns-in_err-flush_all-clause-renamed
returns-in_err-flush_all-clause-renamed g c =
    none_renaming _ _ c.args.begun.now _ c.from_residual.ensures.1 c.in_err-flush_all.ensures.none
