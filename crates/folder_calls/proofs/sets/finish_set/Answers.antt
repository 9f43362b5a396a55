use Rattle.folder_calls.specs.Asides.{IsSetAside}
use Rattle.folder_calls.proofs.Wholes.{whole_then_fewer, done_then_fewer, set_others_now, goes_aside}
use Rattle.folder_calls.proofs.Goes.{now_always, now_map, goes_none}
use Rattle.folder_calls.proofs.Renames.{renamed_gone, gone_turned}
use Rattle.folder_calls.proofs.sets.finish_set.Goals as goal

pub flush_and_place_set-requires-clause-other : goal.flush_and_place_set-requires-clause-other
flush_and_place_set-requires-clause-other g c = c.is_free.ensures.other c.if-not-is_free.false

pub flush_and_place_set-requires-clause-elsewhere : goal.flush_and_place_set-requires-clause-elsewhere
flush_and_place_set-requires-clause-elsewhere g c = c.is_free.ensures.elsewhere c.if-not-is_free.false

pub clear-requires : goal.clear-requires
clear-requires g c = c.is_free.ensures.other c.if-not-is_free.false

pub clear-requires-in-Err : goal.clear-requires-in-Err
clear-requires-in-Err g c = c.is_free.ensures.other c.if-not-is_free.false

-- where the name is taken nothing was done before
pub give_up-requires-clause-others : goal.give_up-requires-clause-others
give_up-requires-clause-others g c = set_others_now _ _ _ _ c.requires
    (goes_aside _ _ _ _ c.requires (goes_none (IsSetAside c.args.mark.now) _))

pub give_up-requires-clause-renamed : goal.give_up-requires-clause-renamed
give_up-requires-clause-renamed g c = now_always (g.F.Folder.moments c.args.folder.now) (λ w. tt)

pub returns-then-not-is_free-clause-any_moment : goal.returns-then-not-is_free-clause-any_moment
returns-then-not-is_free-clause-any_moment g c = whole_then_fewer _ _ _ _ _ c.requires
    (goes_aside _ _ _ _ c.requires (goes_none (IsSetAside c.args.mark.now) _)) c.give_up.ensures.any_moment

pub give_up-requires-in-Err-clause-others : goal.give_up-requires-in-Err-clause-others
give_up-requires-in-Err-clause-others g c = set_others_now _ _ _ _ c.requires
    (whole_then_fewer _ _ _ _ _ c.requires c.flush_and_place_set.ensures.any_moment c.clear-in-Err.ensures.any_moment)

pub give_up-requires-in-Err-clause-renamed : goal.give_up-requires-in-Err-clause-renamed
give_up-requires-in-Err-clause-renamed g c = c.clear-in-Err.ensures.stay _
    (now_map (g.F.Folder.moments c.flush_and_place_set.new.folder) (λ w are. are.1) c.in-Err.ensures.renamed)

pub returns-in-Ok-clause-any_moment : goal.returns-in-Ok-clause-any_moment
returns-in-Ok-clause-any_moment g c = whole_then_fewer _ _ _ _ _ c.requires
    c.flush_and_place_set.ensures.any_moment c.clear.ensures.any_moment

pub returns-in-Ok-clause-placed : goal.returns-in-Ok-clause-placed
returns-in-Ok-clause-placed g c =
    done_then_fewer _ _ _ _ c.requires c.in-Ok.ensures.placed c.clear.ensures.any_moment

pub returns-in-Ok-clause-gone : goal.returns-in-Ok-clause-gone
returns-in-Ok-clause-gone g c =
    let failed = g.F.Folder.removal_failed c.clear.new.folder in
    now_map (g.F.Folder.moments c.clear.new.folder)
    (λ w are. gone_turned failed c.args.rest.now c.args.mark.now w (renamed_gone failed _ w are))
    (c.clear.ensures.stay _ c.in-Ok.ensures.renamed)

pub returns-in-Err-clause-any_moment : goal.returns-in-Err-clause-any_moment
returns-in-Err-clause-any_moment g c = whole_then_fewer _ _ _ _ _ c.requires
    (whole_then_fewer _ _ _ _ _ c.requires c.flush_and_place_set.ensures.any_moment c.clear-in-Err.ensures.any_moment)
    c.give_up-in-Err.ensures.any_moment
