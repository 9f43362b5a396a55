use Rattle.auditorium_core.proofs.laws.statuses_have_their_words.Goals as goal
use Rattle.auditorium_core.proofs.{Imports.IsAny, Imports.IsStill, Statuses.status_words}

pub returns : goal.returns
returns c = record { any = status_words IsAny; still = status_words IsStill }
