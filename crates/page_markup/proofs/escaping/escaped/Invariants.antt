use Rattle.std.proofs.Common.{◌≡◌, take}
use Rattle.page_markup.specs.Escaping.{escaped}
use Rattle.page_markup.proofs.escaping.escaped.Given as goal

-- the bytes so far
abbrev pub invariant-loop-byte : goal.invariant-loop-byte
invariant-loop-byte l = l.out.items ≡ escaped (take l.byte-index l.text)
