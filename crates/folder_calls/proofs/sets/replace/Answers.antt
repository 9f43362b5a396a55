use Rattle.std.proofs.Common.{◌∷◌, ◌++◌, [], false}
use Rattle.folder_calls.specs.{World.name_flushed, Placing.AreBegun, Placing.AreFlushed, Sets.IsGone}
use Rattle.folder_calls.proofs.{Goes.now_did_both, Goes.goes_now, Steps.name_of, Steps.flushed_later}
use Rattle.folder_calls.proofs.{Marks.aside_same, Marks.whole_aside, Renames.stay_first}
use Rattle.folder_calls.proofs.Moves.{moved, begun_moved, gone_moved, goes_moved, goes_flushed, goes_restored}
use Rattle.folder_calls.proofs.Wholes.{goes_aside, after_aside, done_after_aside}
use Rattle.folder_calls.proofs.sets.replace.Goals as goal

pub returns-in-Err-clause-any_moment : goal.returns-in-Err-clause-any_moment
returns-in-Err-clause-any_moment g c = goes_aside _ _ _ _ c.requires.begun
    (goes_moved c.args.mark.now c.args.aside.now c.requires.other _ _ _
    (rw c.as_str.ensures.value at c.rename.ensures.did))

pub returns-in-Err-flush_name-clause-any_moment : goal.returns-in-Err-flush_name-clause-any_moment
returns-in-Err-flush_name-clause-any_moment g c = goes_aside _ _ _ _ c.requires.begun
    (goes_restored c.args.mark.now c.args.aside.now c.requires.other _ false _ _ _ _
    (rw c.as_str.ensures.value at c.in-Ok.ensures.did) (rw c.as_str-2.ensures.value at c.flush_name.ensures.did)
    c.restore.ensures)

pub place_set-requires : goal.place_set-requires
place_set-requires g c =
    let mark = c.args.mark.now in
    let aside = c.args.aside.now in
    let all = mark ∷ c.args.rest.now in
    let flush = name_flushed (name_of mark) in
    let ws = g.F.Folder.moments c.args.folder.now in
    let was = rw c.as_str.ensures.value at c.in-Ok.ensures.did in
    let is = rw c.as_str-2.ensures.value at c.in-Ok-flush_name.ensures.did in
    record {
      begun = now_did_both (AreBegun all) (moved mark aside) flush ws _ _
          (λ w are. begun_moved mark aside all w are.0.name c.requires.elsewhere are) was is c.requires.begun;
      flushed = now_did_both (AreFlushed all) (moved mark aside) flush ws _ _
          (λ w are. flushed_later all w (flush (moved mark aside w)) (λ i h. h) are) was is c.requires.flushed;
      gone = now_did_both (IsGone (name_of mark)) (moved mark aside) flush ws _ _
          (λ w are. gone_moved mark aside c.requires.other w are.0.name) was is c.requires.begun;
    }

pub returns-in-Ok-place_set-clause-any_moment : goal.returns-in-Ok-place_set-clause-any_moment
returns-in-Ok-place_set-clause-any_moment g c = after_aside _ _ _ _ _ c.requires.begun
    (goes_flushed c.args.mark.now _ _ _ _ (goes_moved c.args.mark.now c.args.aside.now c.requires.other _ _ _
    (rw c.as_str.ensures.value at c.rename.ensures.did)) (rw c.as_str-2.ensures.value at c.flush_name.ensures.did))
    c.place_set.ensures.any_moment

pub returns-in-Ok-place_set-clause-placed : goal.returns-in-Ok-place_set-clause-placed
returns-in-Ok-place_set-clause-placed g c = done_after_aside c.args.mark.now c.args.rest.now _ _ _
    (goes_flushed c.args.mark.now _ _ _ _ (goes_moved c.args.mark.now c.args.aside.now c.requires.other _ _ _
    (rw c.as_str.ensures.value at c.rename.ensures.did)) (rw c.as_str-2.ensures.value at c.flush_name.ensures.did))
    c.in-Ok-place_set.ensures.placed

-- no file was renamed, and the mark gets its name back
pub returns-then-stopped-clause-any_moment : goal.returns-then-stopped-clause-any_moment
returns-then-stopped-clause-any_moment g c =
    let untouched = c.in-Err-place_set.ensures.untouched c.if-stopped.true in
    goes_aside _ _ _ _ c.requires.begun (goes_restored c.args.mark.now c.args.aside.now c.requires.other _ false _ _ _ _
    (rw c.as_str.ensures.value at c.in-Ok.ensures.did) (rw c.as_str-2.ensures.value at c.flush_name.ensures.did)
    (rw untouched at c.restore-then-stopped.ensures))

pub returns-else-stopped-clause-any_moment : goal.returns-else-stopped-clause-any_moment
returns-else-stopped-clause-any_moment g c = after_aside _ _ _ _ _ c.requires.begun
    (goes_flushed c.args.mark.now _ _ _ _ (goes_moved c.args.mark.now c.args.aside.now c.requires.other _ _ _
    (rw c.as_str.ensures.value at c.rename.ensures.did)) (rw c.as_str-2.ensures.value at c.flush_name.ensures.did))
    c.place_set.ensures.any_moment

pub returns-then-stopped-clause-renamed : goal.returns-then-stopped-clause-renamed
returns-then-stopped-clause-renamed g c =
    let mark = c.args.mark.now in
    let rest = c.args.rest.now in
    let whole = after_aside mark rest _ _ _ c.requires.begun
    (goes_flushed mark _ _ _ _ (goes_moved mark c.args.aside.now c.requires.other _ _ _
    (rw c.as_str.ensures.value at c.rename.ensures.did)) (rw c.as_str-2.ensures.value at c.flush_name.ensures.did))
    c.place_set.ensures.any_moment in
    stay_first c.args.aside.now (name_of mark) false c.in-Err-place_set.stopped.renamed (rest ++ mark ∷ []) _ _
    (goes_now _ (λ s are. whole_aside mark rest s s are (aside_same mark s)) _ _ (λ s w are so. are.0.name)
    c.requires.begun whole) c.restore-then-stopped.ensures c.in-Err-place_set.ensures.renamed
