-- What was read for a signature and for its verification, without the room of its vectors.
use Rattle.office_commands.specs.declared.endorse.ToSign.{ToSign}
use Rattle.office_commands.specs.declared.endorsed.ToVerify.{ToVerify}
use Rattle.office_commands.specs.Endorse.{Unsigned}
use Rattle.office_commands.specs.Endorsed.{Signed}

-- what was read for a signature, as a value
abbrev pub unsigned_of : ToSign → Unsigned
unsigned_of read = record { office = read.office; bytes = read.bytes.items }

-- what was read for a verification, as a value
abbrev pub signed_of : ToVerify → Signed
signed_of read = record {
  key = read.key.items;
  bytes = read.bytes.items;
  signature = read.signature.items;
}
