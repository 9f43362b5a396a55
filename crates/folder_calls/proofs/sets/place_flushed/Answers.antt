use Rattle.std.proofs.Common.{◌∷◌, ◌++◌, []}
use Rattle.folder_calls.proofs.{Goes.goes_same, Wholes.goes_aside, Renames.none_first}
use Rattle.folder_calls.proofs.sets.place_flushed.Goals as goal

pub returns-in-Err-clause-any_moment : goal.returns-in-Err-clause-any_moment
returns-in-Err-clause-any_moment g c =
    goes_aside _ _ _ _ c.requires.begun (goes_same _ _ _ c.look.ensures.same)

pub returns-in-Err-clause-renamed : goal.returns-in-Err-clause-renamed
returns-in-Err-clause-renamed g c = none_first _ (c.args.rest.now ++ c.args.mark.now ∷ []) _ c.at_mark.ensures
