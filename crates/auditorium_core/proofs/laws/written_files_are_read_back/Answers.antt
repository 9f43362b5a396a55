use Rattle.auditorium_core.proofs.ReadBack.{plays_are_read_back, repairs_are_read_back, runs_are_read_back}
use Rattle.auditorium_core.proofs.laws.written_files_are_read_back.Goals as goal

pub returns : goal.returns
returns c = record { play = plays_are_read_back; repair = repairs_are_read_back; run = runs_are_read_back }
