use Rattle.std.proofs.Common.{◌∷◌, ◌++◌, [], refl}
use Rattle.folder_calls.specs.{World.name_flushed, Placing.AreBegun, Placing.AreFlushed, Sets.IsGone}
use Rattle.folder_calls.proofs.{Goes.where_ok, Goes.now_did, Goes.goes_none, Steps.name_of, Steps.flushed_later}
use Rattle.folder_calls.proofs.{Endings.begun_at, Renames.none_first, Moves.goes_flushed, Moves.gone_free}
use Rattle.folder_calls.proofs.Wholes.{goes_aside, after_aside, done_after_aside}
use Rattle.folder_calls.proofs.sets.place_new.Goals as goal

pub returns-in-Err-clause-any_moment : goal.returns-in-Err-clause-any_moment
returns-in-Err-clause-any_moment g c = goes_aside _ _ _ _ c.requires.begun
    (goes_flushed c.args.mark.now _ _ _ _ (goes_none _ _) (rw c.as_str.ensures.value at c.flush_name.ensures.did))

pub place_set-requires : goal.place_set-requires
place_set-requires g c =
    let mark = c.args.mark.now in
    let all = mark ∷ c.args.rest.now in
    let ws = g.F.Folder.moments c.args.folder.now in
    let did = rw c.as_str.ensures.value at c.in-Ok.ensures.did in
    record {
      begun = now_did (AreBegun all) ws _
          (λ w are. begun_at all w (name_flushed (name_of mark) w) (λ name. refl) are) did c.requires.begun;
      flushed = now_did (AreFlushed all) ws _
          (λ w are. flushed_later all w (name_flushed (name_of mark) w) (λ i h. h) are) did c.requires.flushed;
      gone = now_did (IsGone (name_of mark)) ws _ (gone_free (name_of mark)) did c.requires.free;
    }

pub returns-clause-any_moment : goal.returns-clause-any_moment
returns-clause-any_moment g c = after_aside _ _ _ _ _ c.requires.begun
    (goes_flushed c.args.mark.now _ _ _ _ (goes_none _ _) (rw c.as_str.ensures.value at c.flush_name.ensures.did))
    c.place_set.ensures.any_moment

pub returns-clause-placed : goal.returns-clause-placed
returns-clause-placed g c = where_ok c.place_set.result _ _ (done_after_aside c.args.mark.now c.args.rest.now _ _ _
    (goes_flushed c.args.mark.now _ _ _ _ (goes_none _ _) (rw c.as_str.ensures.value at c.flush_name.ensures.did)))
    c.place_set.ensures.placed

pub returns-in-Err-clause-renamed : goal.returns-in-Err-clause-renamed
returns-in-Err-clause-renamed g c = none_first _ (c.args.rest.now ++ c.args.mark.now ∷ []) _ c.at_mark.ensures
