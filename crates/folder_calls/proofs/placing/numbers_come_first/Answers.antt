use Rattle.std.proofs.Common.{sym, ⊎_elim}
use Rattle.folder_calls.proofs.Steps.{name_of, apart_names}
use Rattle.folder_calls.proofs.placing.numbers_come_first.Goals as goal

-- what was placed stays while another file is
pub returns : goal.returns
returns c number signature first mid start w plain differs done still between content left = ⊎_elim
    (λ old. done.placed.0 content (still content old))
    (⊎_elim (λ here. absurd (apart_names (name_of number) (name_of signature) differs (sym here.0)))
    (λ none. absurd none))
    (between.leaves (name_of number) content plain left)
