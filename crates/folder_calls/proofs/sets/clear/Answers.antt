use Rattle.folder_calls.proofs.Goes.{now_any, goes_none, goes_first}
use Rattle.folder_calls.proofs.{Endings.one_removed, Renames.removed_none, Renames.stay_renamed}
use Rattle.folder_calls.proofs.sets.clear.Goals as goal

pub returns-then-is_there : goal.returns-then-is_there
returns-then-is_there g c = record {
  any_moment =
      goes_first _ _ _ _ _ (λ w any. one_removed c.args.name.now w c.requires) (now_any _) c.remove.ensures.did;
  stay = λ others are. stay_renamed _ _ others _ _ (λ w other so. removed_none c.args.name.now w other)
      c.remove.ensures.did are;
}

pub returns-else-is_there : goal.returns-else-is_there
returns-else-is_there g c = record { any_moment = goes_none _ _; stay = λ others are. are }
