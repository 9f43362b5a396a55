use denote.Text.{Utf8}
use denote.Shadow.{shadow}
use Rattle.world_orders.proofs.script.Script.take.Given as goal

-- the word is text
abbrev pub invariant-loop-at : goal.invariant-loop-at
invariant-loop-at l = shadow (Utf8 l.kind)
