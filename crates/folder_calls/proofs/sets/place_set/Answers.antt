use Rattle.std.proofs.Common.{◌∷◌, []}
use Rattle.folder_calls.specs.{Placing.AreBegun, Sets.IsGone}
use Rattle.folder_calls.proofs.{Goes.now_map, Goes.now_both, Goes.goes_map, Steps.name_of, Steps.one_done}
use Rattle.folder_calls.proofs.{Marks.whole_rest, Renames.longer_renaming, Renames.first_more, Renames.renamed_end}
use Rattle.folder_calls.proofs.Wholes.{both_ready, set_whole, set_done}
use Rattle.folder_calls.proofs.sets.place_set.Goals as goal

pub place_all-requires : goal.place_all-requires
place_all-requires g c = record {
  begun = now_map (g.F.Folder.moments c.args.folder.now) (λ w are. are.2) c.requires.begun;
  flushed = now_map (g.F.Folder.moments c.args.folder.now) (λ w are. are.1) c.requires.flushed;
}

pub returns-in_err-place_all-clause-any_moment : goal.returns-in_err-place_all-clause-any_moment
returns-in_err-place_all-clause-any_moment g c =
    let mark = c.args.mark.now in
    goes_map {A = λ s. AreBegun (mark ∷ c.args.rest.now) s × IsGone (name_of mark) s} _ _
    (λ s w given. whole_rest mark c.args.rest.now s given.0 w given.1)
    (now_both (g.F.Folder.moments c.args.folder.now) (λ w begun gone. (begun, gone)) c.requires.begun c.requires.gone)
    c.place_all.ensures.any_moment

pub place-requires : goal.place-requires
place-requires g c =
    let mid = g.F.Folder.moments c.place_all.new.folder in
    let ready = c.in_ok-place_all.ensures.keeps c.args.mark.now
    (both_ready c.args.mark.now c.args.rest.now _ c.requires.begun c.requires.flushed) in
    record { begun = now_map mid (λ w so. so.0) ready; flushed = now_map mid (λ w so. so.1) ready }

pub returns-in-Err-clause-any_moment : goal.returns-in-Err-clause-any_moment
returns-in-Err-clause-any_moment g c = set_whole _ _ _ _ _ c.requires.begun c.requires.gone
    c.place_all.ensures.any_moment c.in_ok-place_all.ensures.placed c.place.ensures.any_moment

pub returns-in-Ok-clause-any_moment : goal.returns-in-Ok-clause-any_moment
returns-in-Ok-clause-any_moment g c = set_whole _ _ _ _ _ c.requires.begun c.requires.gone
    c.place_all.ensures.any_moment c.in_ok-place_all.ensures.placed c.place.ensures.any_moment

pub returns-in-Ok-clause-placed : goal.returns-in-Ok-clause-placed
returns-in-Ok-clause-placed g c =
    let mid = g.F.Folder.moments c.place_all.new.folder in
    let ready = c.in_ok-place_all.ensures.keeps c.args.mark.now
    (both_ready c.args.mark.now c.args.rest.now _ c.requires.begun c.requires.flushed) in
    set_done c.args.mark.now c.args.rest.now _ _ _ c.requires.begun c.place_all.ensures.any_moment
    c.in_ok-place_all.ensures.placed c.place.ensures.any_moment
    (one_done c.args.mark.now mid _ (now_map mid (λ w so. so.0) ready) (now_map mid (λ w so. so.1) ready)
    c.in-Ok.ensures.done)

pub returns-in-Err-clause-untouched : goal.returns-in-Err-clause-untouched
returns-in-Err-clause-untouched g c h = cc (h, c.after_others.ensures.untouched)

pub returns-in_err-place_all-clause-renamed : goal.returns-in_err-place_all-clause-renamed
returns-in_err-place_all-clause-renamed g c = longer_renaming _ _ c.args.rest.now (c.args.mark.now ∷ []) _
    c.from_residual.ensures.1 c.in_err-place_all.ensures.renamed

pub returns-in-Err-clause-renamed : goal.returns-in-Err-clause-renamed
returns-in-Err-clause-renamed g c = now_both (g.F.Folder.moments c.place.new.folder)
    (first_more c.args.rest.now c.args.mark.now [] _ _ c.after_others.ensures.renamed)
    (c.place.ensures.stay _ c.in_ok-place_all.ensures.renamed) c.in-Err.ensures.renamed

pub returns-in-Ok-clause-renamed : goal.returns-in-Ok-clause-renamed
returns-in-Ok-clause-renamed g c = now_both (g.F.Folder.moments c.place.new.folder)
    (renamed_end c.args.rest.now c.args.mark.now) (c.place.ensures.stay _ c.in_ok-place_all.ensures.renamed)
    c.in-Ok.ensures.renamed
