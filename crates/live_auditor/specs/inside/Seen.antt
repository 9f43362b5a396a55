-- Whether an entry was seen before.
use Rattle.std.specs.Prelude.{◌≡◌, List}
use Rattle.std.specs.List.{Contains}
use Rattle.entry_format.specs.Nodes.{node_of_sealed}
use Rattle.entry_format.specs.SealedEntry.{SealedEntry}
use Rattle.entry_format.specs.Sealing.{IsSealed}
use Rattle.entry_order.specs.Naming.{IsNew}
use Rattle.live_auditor.specs.Adding.{Collides}
use Rattle.live_auditor.specs.declared.seen.Seen.{Seen}
use Rattle.live_auditor.specs.declared.seen.Seen.TheVariants as seen

-- one of the entries is of the same text; the parts of both belong together
pub record HasSameText (entries : List SealedEntry) (e : SealedEntry) : Type 0 where
  pub other : SealedEntry
  pub there : Contains entries other
  pub kept : IsSealed other
  pub itself : IsSealed e
  pub same : other.text ≡ e.text

-- none has e's digest, one has e's text too, or one has another
abbrev pub IsSeen : List SealedEntry → SealedEntry → Seen → Type 0
IsSeen entries e seen.New = IsNew node_of_sealed entries e
IsSeen entries e seen.Known = HasSameText entries e
IsSeen entries e seen.Collides = Collides entries e
