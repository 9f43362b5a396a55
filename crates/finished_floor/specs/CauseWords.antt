-- The words of causes in lines of output.
use Rattle.std.specs.Prelude.{ℕ, List, codes}
use Rattle.finished_floor.specs.declared.loss.LossWhy.{LossWhy}
use Rattle.finished_floor.specs.declared.loss.LossWhy.TheVariants.{Scripted, LinkFull, ToStopped, LogFull, SameDigest}

-- the word of why an entry didn't arrive
abbrev pub loss_why_word : LossWhy → List ℕ
loss_why_word Scripted = codes "Scripted"
loss_why_word LinkFull = codes "LinkFull"
loss_why_word ToStopped = codes "ToStopped"
loss_why_word LogFull = codes "LogFull"
loss_why_word SameDigest = codes "SameDigest"
