use Rattle.std.proofs.Common.{◌∷◌}
use Rattle.folder_calls.specs.{World.file_flushed, Placing.AreFlushed}
use Rattle.folder_calls.proofs.{Goes.now_did, Steps.flushed_later, Endings.one_flush, Endings.is_flushed}
use Rattle.folder_calls.proofs.Endings.{flush_more}
use Rattle.folder_calls.proofs.sets.flush_set.Goals as goal

pub returns-in-Err-clause-any_moment : goal.returns-in-Err-clause-any_moment
returns-in-Err-clause-any_moment g c = flush_more _ _ _ _ _ c.flush_all.ensures.any_moment c.flush.ensures.did

pub returns-in-Ok-clause-any_moment : goal.returns-in-Ok-clause-any_moment
returns-in-Ok-clause-any_moment g c = flush_more _ _ _ _ _ c.flush_all.ensures.any_moment c.flush.ensures.did

pub returns-in-Ok-clause-flushed : goal.returns-in-Ok-clause-flushed
returns-in-Ok-clause-flushed g c =
    let i = c.args.mark.now.number in
    now_did (AreFlushed (c.args.mark.now ∷ c.args.rest.now)) (g.F.Folder.moments c.flush_all.new.folder) _
    (λ w are. (is_flushed i w, flushed_later c.args.rest.now w (file_flushed i w) (one_flush i w).flushed are))
    c.in-Ok.ensures.did c.in_ok-flush_all.ensures.flushed
