-- What an entry shows of other entries.
use Rattle.std.specs.Prelude.{ℕ, List}
use Rattle.entry_order.specs.Node.{Node}
use Rattle.entry_format.specs.declared.entry.Entry.{Entry}
use Rattle.entry_format.specs.declared.plain.Plain.{Plain}
use Rattle.entry_format.specs.SealedEntry.{SealedEntry}

-- an entry with this digest
abbrev pub node_with : Entry → List ℕ → Node
node_with entry digest = record {
  digest = digest;
  names = entry.names;
  maker = entry.maker;
  number = entry.number;
  stamp = entry.stamp;
}

-- one whose signature isn't checked
abbrev pub node_of : Plain → Node
node_of plain = node_with plain.entry plain.digest

-- a sealed one
abbrev pub node_of_sealed : SealedEntry → Node
node_of_sealed sealed = node_with sealed.entry sealed.digest
