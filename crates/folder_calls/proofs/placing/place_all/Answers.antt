use Rattle.std.proofs.{Common.◌∙◌, Common.◌+◌, Common.drop, Common.arith, Common.refl, Common.subst}
use Rattle.std.proofs.lemmas.{Bool.false≢true, List.drop_all, List.take_all}
use Rattle.folder_calls.specs.{World.Now, World.Goes, World.name_flushed}
use Rattle.folder_calls.specs.Placing.{AreBegun, AreFlushed, IsOldOrNew, AllInPlace, StandsReady}
use Rattle.folder_calls.proofs.Goes.{now_always, now_did_both, goes_none, goes_map}
use Rattle.folder_calls.proofs.Steps.{name_of, at_item, rest_begun, flushed_later, after_rename, after_place, placed_in}
use Rattle.folder_calls.proofs.Steps.{completes, completes_placed, of_several, still_ready, none_left}
use Rattle.folder_calls.proofs.Renames.{stopped_there, next_renamed}
use Rattle.folder_calls.proofs.placing.place_all.Goals as goal

pub loop-file-init : goal.loop-file-init
loop-file-init g c = record {
  begun = c.requires.begun;
  flushed = c.requires.flushed;
  completes = λ new rest. rest;
  completes_placed = λ new rest placed. placed;
  keeps = λ other ready. ready;
  untouched = λ e. refl;
  counted = omega arith;
  renamed = now_always _ (λ w. tt);
}

pub returns-in-Err-clause-any_moment : goal.returns-in-Err-clause-any_moment
returns-in-Err-clause-any_moment g c =
    let l = c.loop-file in
    let is = at_item c.args.begun.now l.file-index c.file-item.result c.loop-file-test.true c.file-item.is in
    (rw is at l.invariant.completes) _ (goes_map _ _ (of_several c.file-item.result _) (rw is at l.invariant.begun)
    c.place.ensures.any_moment)

pub loop-file-preserved : goal.loop-file-preserved
loop-file-preserved g c =
    let l = c.loop-file in
    let i = l.invariant in
    let b = c.file-item.result in
    let bs = drop (l.file-index + 1) c.args.begun.now in
    let is = at_item c.args.begun.now l.file-index b c.loop-file-test.true c.file-item.is in
    let ws = g.F.Folder.moments l.folder in
    let next = g.F.Folder.moments c.place.new.folder in
    let done = c.in-Ok.ensures.done in
    let flush = name_flushed (name_of b) in
    let begun = subst (λ left. Now ws (AreBegun left)) is i.begun in
    let flushed = subst (λ left. Now ws (AreFlushed left)) is i.flushed in
    record {
      begun = now_did_both (AreBegun bs) (after_rename b) flush ws _ next
          (λ w are. rest_begun b bs w are.0 are.1 are.2) refl done begun;
      flushed = now_did_both (AreFlushed bs) (after_rename b) flush ws _ next
          (λ w are. flushed_later bs w (after_place b w) (λ i h. h) are.1) refl done flushed;
      completes = λ new rest. (rw is at i.completes) new
          (completes b bs ws begun flushed new (subst (λ n. Goes (IsOldOrNew bs) n new) done rest));
      completes_placed = λ new rest placed.
          let so = subst (λ n. Goes (IsOldOrNew bs) n new) {y = placed_in b ws} done rest in
          (rw is at i.completes_placed) new (completes b bs ws begun flushed new so)
          (completes_placed b bs ws begun flushed new so
          (subst (λ n. Now n (λ w. Now new (AllInPlace bs w))) done placed));
      keeps = λ other ready. now_did_both (StandsReady other bs) (after_rename b) flush ws _ next
          (still_ready other b bs) refl done (subst (λ left. Now ws (StandsReady other left)) is (i.keeps other ready));
      untouched = λ e. absurd (false≢true e);
      counted = grind (arith, i.counted);
      renamed = next_renamed c.args.begun.now l.file-index b next c.loop-file-test.true c.file-item.is
          (c.place.ensures.stay _ i.renamed) c.in-Ok.ensures.renamed;
    }

-- no file is left
pub returns-clause-any_moment : goal.returns-clause-any_moment
returns-clause-any_moment g c =
    (rw (drop_all c.loop-file.file-index c.args.begun.now (omega arith)) at c.loop-file.invariant.completes) _
    (goes_none _ _)

pub returns-clause-placed : goal.returns-clause-placed
returns-clause-placed g c =
    (rw (drop_all c.loop-file.file-index c.args.begun.now (omega arith)) at c.loop-file.invariant.completes_placed) _
    (goes_none _ _) (none_left _)

pub returns-in-Err-clause-untouched : goal.returns-in-Err-clause-untouched
returns-in-Err-clause-untouched g c h = c.in-Err.ensures.untouched (c.stopped_at.ensures.untouched h)
    ∙ c.loop-file.invariant.untouched (c.stopped_at.ensures.first h)

pub returns-clause-keeps : goal.returns-clause-keeps
returns-clause-keeps g c other ready =
    rw (drop_all c.loop-file.file-index c.args.begun.now (omega arith)) at (c.loop-file.invariant.keeps other ready)

pub returns-in-Err-clause-renamed : goal.returns-in-Err-clause-renamed
returns-in-Err-clause-renamed g c =
    let l = c.loop-file in
    stopped_there c.args.begun.now l.file-index _ _ l.placed c.file-item.result _ c.loop-file-test.true c.file-item.is
    (c.place.ensures.stay _ l.invariant.renamed) c.in-Err.ensures.renamed l.invariant.counted
    c.stopped_at.ensures.renamed

pub returns-clause-renamed : goal.returns-clause-renamed
returns-clause-renamed g c =
    rw (take_all c.loop-file.file-index c.args.begun.now (omega arith)) at c.loop-file.invariant.renamed
