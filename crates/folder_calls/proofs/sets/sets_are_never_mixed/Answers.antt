use Rattle.std.proofs.Common.{Some, inl, inr, ⊎_elim}
use Rattle.folder_calls.proofs.sets.sets_are_never_mixed.Goals as goal

pub returns : goal.returns
returns c mark rest first w is bytes left = ⊎_elim (λ old. inl old.others)
    (⊎_elim (λ new. inr new.others) (λ gone. cc (gone (Some bytes) left))) is.whole
