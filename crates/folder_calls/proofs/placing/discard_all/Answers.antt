use Rattle.std.proofs.{Common.[], Common.◌∷◌, Common.arith, Common.subst, lemmas.List.take_all}
use Rattle.folder_calls.specs.Placing.{HaveOtherNames}
use Rattle.folder_calls.proofs.Goes.{now_always, now_map, goes_none}
use Rattle.folder_calls.proofs.{Steps.at_item, Endings.goes_fewer, Endings.others_goes, Renames.gone_next}
use Rattle.folder_calls.proofs.placing.discard_all.Goals as goal

pub loop-file-init : goal.loop-file-init
loop-file-init g c = record {
  others = c.requires;
  any_moment = goes_none _ _;
  gone = now_always (g.F.Folder.moments c.args.folder.now) (λ w. tt);
  stay = λ others gone. gone;
}

pub discard-requires : goal.discard-requires
discard-requires g c =
    let l = c.loop-file in
    let is = at_item c.args.begun.now l.file-index c.file-item.result c.loop-file-test.true c.file-item.is in
    others_goes (HaveOtherNames (c.file-item.result ∷ [])) _ _ l.invariant.any_moment
    (now_map (g.F.Folder.moments c.args.folder.now) (λ w others. ((subst HaveOtherNames is others).0, tt))
    l.invariant.others)

pub loop-file-preserved : goal.loop-file-preserved
loop-file-preserved g c =
    let l = c.loop-file in
    let is = at_item c.args.begun.now l.file-index c.file-item.result c.loop-file-test.true c.file-item.is in
    record {
      others = now_map (g.F.Folder.moments c.args.folder.now) (λ w others. (subst HaveOtherNames is others).1)
          l.invariant.others;
      any_moment = goes_fewer _ _ _ l.invariant.any_moment c.discard.ensures.any_moment;
      gone = gone_next (g.F.Folder.removal_failed c.discard.new.folder) c.args.begun.now l.file-index
          c.file-item.result _ c.loop-file-test.true c.file-item.is (c.discard.ensures.stay _ l.invariant.gone)
          c.discard.ensures.gone;
      stay = λ others gone. c.discard.ensures.stay others (l.invariant.stay others gone);
    }

pub returns-clause-gone : goal.returns-clause-gone
returns-clause-gone g c =
    rw (take_all c.loop-file.file-index c.args.begun.now (omega arith)) at c.loop-file.invariant.gone
