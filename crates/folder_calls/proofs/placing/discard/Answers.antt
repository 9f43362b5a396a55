use Rattle.folder_calls.proofs.{Goes.goes_first, Endings.one_removed, Renames.one_gone, Renames.stay_gone}
use Rattle.folder_calls.proofs.placing.discard.Goals as goal

pub returns : goal.returns
returns g c =
    let did = rw c.as_str.ensures.value at c.remove.ensures.did in
    record {
      any_moment = goes_first _ _ _ _ _ (λ w others. one_removed _ w others.0) c.requires did;
      gone = one_gone (g.F.Folder.removal_failed c.remove.new.self) c.args.file.now _ _ _ did
          (rw c.as_str.ensures.value at c.remove.ensures.failed);
      stay = λ others gone. stay_gone (g.F.Folder.removal_failed c.args.folder.now)
          (g.F.Folder.removal_failed c.remove.new.self) c.remove.ensures.kept _ _ others _ _ did gone;
    }
