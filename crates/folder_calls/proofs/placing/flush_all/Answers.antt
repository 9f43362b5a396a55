use Rattle.std.proofs.{Common.arith, lemmas.List.drop_all}
use Rattle.folder_calls.proofs.{Goes.now_always, Goes.now_map, Goes.goes_none, Steps.at_item}
use Rattle.folder_calls.proofs.Endings.{flush_more, flushes_next, flushed_same_moment}
use Rattle.folder_calls.proofs.placing.flush_all.Goals as goal

pub loop-file-init : goal.loop-file-init
loop-file-init g c = record {
  flushes = now_always (g.F.Folder.moments c.args.folder.now) (λ w v more flushed. flushed);
  any_moment = goes_none _ _;
}

pub returns-in-Err-clause-any_moment : goal.returns-in-Err-clause-any_moment
returns-in-Err-clause-any_moment g c =
    flush_more c.file-item.result.number _ _ _ _ c.loop-file.invariant.any_moment c.flush.ensures.did

pub loop-file-preserved : goal.loop-file-preserved
loop-file-preserved g c =
    let l = c.loop-file in
    let b = c.file-item.result in
    record {
      flushes = flushes_next _ _ b _ _ _ (at_item c.args.begun.now l.file-index b c.loop-file-test.true c.file-item.is)
          l.invariant.flushes c.in-Ok.ensures.did;
      any_moment = flush_more b.number _ _ _ _ l.invariant.any_moment c.flush.ensures.did;
    }

pub returns-clause-flushed : goal.returns-clause-flushed
returns-clause-flushed g c = now_map (g.F.Folder.moments c.loop-file.folder) (λ w so. so w (flushed_same_moment w) tt)
    (rw (drop_all c.loop-file.file-index c.args.begun.now (omega arith)) at c.loop-file.invariant.flushes)
