use Rattle.std.proofs.Common.{◌≡◌, drop}
use Rattle.folder_calls.specs.Placing.{after_last}
use Rattle.folder_calls.proofs.names.after_last.Given as goal

-- what follows the last slash of the rest follows that of the whole
abbrev pub invariant-loop-byte : goal.invariant-loop-byte
invariant-loop-byte l = record {
  part : after_last l.part (drop l.byte-index l.bytes) ≡ after_last l.bytes l.bytes;
  at : l.at ≡ l.byte-index;
}
