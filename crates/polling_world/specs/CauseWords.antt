-- The words of causes in lines of output.
use Rattle.std.specs.Prelude.{ℕ, List, codes}
use Rattle.polling_world.specs.declared.left.LeftWhy.{LeftWhy}
use Rattle.polling_world.specs.declared.left.LeftWhy.TheVariants as left
use Rattle.supervisor_core.specs.CauseWords.{supervisor_not_word}
use Rattle.booth_core.specs.CauseWords.{booth_not_word}

-- the word of why an action isn't done
abbrev pub left_why_word : LeftWhy → List ℕ
left_why_word left.Stopped = codes "Stopped"
left_why_word (left.SupervisorNot why) = supervisor_not_word why
left_why_word (left.BoothNot why) = booth_not_word why
left_why_word left.Full = codes "Full"
left_why_word left.StampSpent = codes "StampSpent"
left_why_word left.Spent = codes "Spent"
left_why_word left.Ready = codes "Ready"
