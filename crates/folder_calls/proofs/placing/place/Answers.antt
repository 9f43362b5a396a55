use Rattle.std.proofs.Common.{◌∙◌, [], ◌∷◌, refl, arith}
use Rattle.folder_calls.proofs.{Goes.now_map, Steps.one_renamed, Steps.one_placed, Steps.unmoved}
use Rattle.folder_calls.proofs.Renames.{one_moved, none_first, stay_named, stay_flushed}
use Rattle.folder_calls.proofs.placing.place.Goals as goal

pub returns-in-Err-clause-any_moment : goal.returns-in-Err-clause-any_moment
returns-in-Err-clause-any_moment g c = rw c.stands.ensures.same
    (one_renamed c.args.file.now _ _ _ c.requires.begun c.requires.flushed
    (rw (c.as_str.ensures.value, c.as_str-2.ensures.value) at c.rename.ensures.did))

pub returns-in-Err-clause-untouched : goal.returns-in-Err-clause-untouched
returns-in-Err-clause-untouched g c there = c.stands.ensures.same
    ∙ unmoved c.args.file.now _ _ _ c.requires.begun
    (rw (c.as_str.ensures.value, c.as_str-2.ensures.value) at c.rename.ensures.did)
    (rw c.as_str-in-Err.ensures.value at (c.stands.ensures.there there))

pub returns-in-Err-clause-renamed : goal.returns-in-Err-clause-renamed
returns-in-Err-clause-renamed g c = none_first _ (c.args.file.now ∷ []) _ refl

pub returns-in-Err-clause-stay : goal.returns-in-Err-clause-stay
returns-in-Err-clause-stay g c others are = rw c.stands.ensures.same
    (stay_named c.args.file.now _ others _ _ c.requires.begun
    (rw (c.as_str.ensures.value, c.as_str-2.ensures.value) at c.rename.ensures.did) are)

pub returns-in-Err-flush_name-clause-any_moment : goal.returns-in-Err-flush_name-clause-any_moment
returns-in-Err-flush_name-clause-any_moment g c = one_placed c.args.file.now _ _ _ _ c.requires.begun c.requires.flushed
    (rw (c.as_str.ensures.value, c.as_str-2.ensures.value) at c.in-Ok.ensures.did)
    (rw c.as_str-3.ensures.value at c.flush_name.ensures.did)

pub returns-in-Err-flush_name-clause-renamed : goal.returns-in-Err-flush_name-clause-renamed
returns-in-Err-flush_name-clause-renamed g c = now_map (g.F.Folder.moments c.flush_name.new.folder)
    (λ w are. (omega arith, are)) (one_moved c.args.file.now _ _ _ _ c.requires.begun
    (rw (c.as_str.ensures.value, c.as_str-2.ensures.value) at c.in-Ok.ensures.did)
    (rw c.as_str-3.ensures.value at c.flush_name.ensures.did))

pub returns-in-Err-flush_name-clause-stay : goal.returns-in-Err-flush_name-clause-stay
returns-in-Err-flush_name-clause-stay g c others are =
    stay_flushed _ _ others _ _ (rw c.as_str-3.ensures.value at c.flush_name.ensures.did)
    (stay_named c.args.file.now _ others _ _ c.requires.begun
    (rw (c.as_str.ensures.value, c.as_str-2.ensures.value) at c.rename.ensures.did) are)

pub returns-in-Ok-flush_name-clause-any_moment : goal.returns-in-Ok-flush_name-clause-any_moment
returns-in-Ok-flush_name-clause-any_moment g c = one_placed c.args.file.now _ _ _ _ c.requires.begun c.requires.flushed
    (rw (c.as_str.ensures.value, c.as_str-2.ensures.value) at c.in-Ok.ensures.did)
    (rw c.as_str-3.ensures.value at c.flush_name.ensures.did)

pub returns-in-Ok-flush_name-clause-renamed : goal.returns-in-Ok-flush_name-clause-renamed
returns-in-Ok-flush_name-clause-renamed g c = one_moved c.args.file.now _ _ _ _ c.requires.begun
    (rw (c.as_str.ensures.value, c.as_str-2.ensures.value) at c.in-Ok.ensures.did)
    (rw c.as_str-3.ensures.value at c.flush_name.ensures.did)

pub returns-in-Ok-flush_name-clause-stay : goal.returns-in-Ok-flush_name-clause-stay
returns-in-Ok-flush_name-clause-stay g c others are =
    stay_flushed _ _ others _ _ (rw c.as_str-3.ensures.value at c.flush_name.ensures.did)
    (stay_named c.args.file.now _ others _ _ c.requires.begun
    (rw (c.as_str.ensures.value, c.as_str-2.ensures.value) at c.rename.ensures.did) are)
