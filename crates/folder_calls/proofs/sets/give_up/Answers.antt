use Rattle.std.proofs.Common.{arith, [], ◌∷◌}
use Rattle.folder_calls.specs.Placing.{HaveOtherNames}
use Rattle.folder_calls.proofs.{Goes.now_map, Endings.goes_fewer, Endings.others_goes}
use Rattle.folder_calls.proofs.Renames.{left_others, renamed_gone, set_gone_before, set_gone_whole}
use Rattle.folder_calls.proofs.sets.give_up.Goals as goal

pub discard_all-requires : goal.discard_all-requires
discard_all-requires g c = left_others _ c.args.rest.now _ _ c.left_after.ensures
    (now_map (g.F.Folder.moments c.args.folder.now) (λ w others. others.1) c.requires.others)

pub discard-requires : goal.discard-requires
discard-requires g c =
    others_goes (HaveOtherNames (c.args.mark.now ∷ [])) _ _ c.discard_all.ensures.any_moment
    (now_map (g.F.Folder.moments c.args.folder.now) (λ w others. (others.0, tt)) c.requires.others)

pub returns-then-renamed-rest-clause-any_moment : goal.returns-then-renamed-rest-clause-any_moment
returns-then-renamed-rest-clause-any_moment g c =
    goes_fewer _ _ _ c.discard_all.ensures.any_moment c.discard.ensures.any_moment

-- those that were renamed, the others, and the mark
pub returns-then-renamed-rest-clause-gone : goal.returns-then-renamed-rest-clause-gone
returns-then-renamed-rest-clause-gone g c =
    set_gone_before (g.F.Folder.removal_failed c.discard.new.folder) c.args.renamed c.args.mark.now c.args.rest.now _
    c.if-renamed-rest.true (c.discard.ensures.stay _ (c.discard_all.ensures.stay _
    (now_map (g.F.Folder.moments c.args.folder.now) (renamed_gone (g.F.Folder.removal_failed c.args.folder.now) _)
    c.requires.renamed)))
    (c.discard.ensures.stay _ (rw c.left_after.ensures at c.discard_all.ensures.gone)) c.discard.ensures.gone

-- all were renamed
pub returns-else-renamed-rest-clause-gone : goal.returns-else-renamed-rest-clause-gone
returns-else-renamed-rest-clause-gone g c =
    set_gone_whole (g.F.Folder.removal_failed c.discard_all.new.folder) c.args.renamed c.args.mark.now c.args.rest.now _
    (omega arith) (c.discard_all.ensures.stay _ (now_map (g.F.Folder.moments c.args.folder.now)
    (renamed_gone (g.F.Folder.removal_failed c.args.folder.now) _) c.requires.renamed))
