use denote.Shadow.{shadow}
use denote.Text.{Utf8}
use Rattle.command_hints.proofs.refusals.role_at.Given as goal

-- the name is text
abbrev pub invariant-loop-name : goal.invariant-loop-name
invariant-loop-name l = shadow (Utf8 l.role)
