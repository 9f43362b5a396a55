use Rattle.demonstration.proofs.Imports.{[], ◌∷◌, Some, codes, text_of, roster_tree, standard, log_name}
use Rattle.demonstration.proofs.OneShown.{Ones, one_shown, one_refusal, not_both}
use Rattle.demonstration.proofs.laws.scripts_are_shown_in_one_way.Goals as goal

pub returns : goal.returns
returns c =
    let ones : Ones = record {
      played = c.scripts_are_played_in_one_way.ensures;
      reports = λ posts bytes. c.files_give_one_report.ensures (codes "roster") standard (log_name ∷ [])
          (Some (text_of (roster_tree posts)) ∷ Some bytes ∷ []);
    } in
    record { shown = one_shown ones; refused = one_refusal ones; either = not_both ones }
