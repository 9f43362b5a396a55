use Rattle.auditorium_core.proofs.CitedLaws.{CitedLaws}
use Rattle.auditorium_core.proofs.OneRun.{histories_determine_runs, written_files_determine_answers}
use Rattle.auditorium_core.proofs.laws.histories_determine_answers.Goals as goal

pub returns : goal.returns
returns c =
    let laws : CitedLaws = assumption in
    record { histories = histories_determine_runs laws.plays; files = written_files_determine_answers laws }
