use Rattle.folder_calls.proofs.placing.finish_files.Goals as goal
use Rattle.folder_calls.proofs.{Endings.between_fewer, Endings.have_others, Goes.goes_now, Goes.goes_then, Goes.now_map}
use Rattle.folder_calls.proofs.{Renames.gone_joined, Renames.left_others, Renames.renamed_gone, Steps.between_same}

-- what was removed is under no name that counts
pub returns-in-Err-clause-any_moment : goal.returns-in-Err-clause-any_moment
returns-in-Err-clause-any_moment g c = goes_then _ (λ s are. between_same _ s) _ _ _ (λ s w are between. between)
    (between_fewer c.args.begun.now) c.requires.begun c.flush_and_place.ensures.any_moment
    c.discard_all.ensures.any_moment

pub discard_all-requires : goal.discard_all-requires
discard_all-requires g c = left_others _ c.args.begun.now _ _ c.left_after.ensures (goes_now _
    (λ s are. between_same _ s) _ _ (λ s w are between. have_others c.args.begun.now s are) c.requires.begun
    c.flush_and_place.ensures.any_moment)

pub returns-in-Ok-clause-gone : goal.returns-in-Ok-clause-gone
returns-in-Ok-clause-gone g c = now_map (g.F.Folder.moments c.flush_and_place.new.folder)
    (renamed_gone (g.F.Folder.removal_failed c.flush_and_place.new.folder) c.args.begun.now) c.in-Ok.ensures.renamed

-- the first ones were renamed, and the others removed
pub returns-in-Err-clause-gone : goal.returns-in-Err-clause-gone
returns-in-Err-clause-gone g c =
    let failed = g.F.Folder.removal_failed in
    gone_joined (failed c.discard_all.new.folder) _ c.args.begun.now _
    (c.discard_all.ensures.stay _ (now_map (g.F.Folder.moments c.flush_and_place.new.folder)
    (λ w are. renamed_gone (failed c.flush_and_place.new.folder) _ w are.1) c.in-Err.ensures.renamed))
    (rw c.left_after.ensures at c.discard_all.ensures.gone)
