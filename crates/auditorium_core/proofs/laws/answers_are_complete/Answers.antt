use Rattle.auditorium_core.proofs.laws.answers_are_complete.Goals as goal
use Rattle.auditorium_core.proofs.{CitedLaws.CitedLaws, Completeness.complete, Imports.IsAny, Imports.IsStill}

pub returns : goal.returns
returns c = let laws : CitedLaws = assumption in record { any = complete laws IsAny; still = complete laws IsStill }
