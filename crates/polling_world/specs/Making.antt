-- The entry that a machine makes (Auditorium, EVT 2007).
use Rattle.std.specs.Prelude.{ℕ, ◌+◌, List, length}
use Rattle.sha2.specs.Sha256.{sha256}
use Rattle.canonical_sexp.specs.Text.{text_of}
use Rattle.lms_sign.specs.Secret.{public_of, signed_by}
use Rattle.roster.specs.declared.post.Post.{Post}
use Rattle.roster.specs.RosterText.{roster_tree}
use Rattle.entry_format.specs.declared.deed.Deed.{Deed}
use Rattle.entry_format.specs.declared.entry.Entry.{Entry}
use Rattle.entry_format.specs.EntryText.{body_tree, signed_tree}
use Rattle.entry_format.specs.Nodes.{node_of_sealed}
use Rattle.entry_format.specs.SealedEntry.{SealedEntry}
use Rattle.entry_format.specs.Sealing.{sealed_from}
use Rattle.entry_order.specs.declared.event.Event.{Event}
use Rattle.entry_order.specs.Frontier.{frontier}
use Rattle.entry_order.specs.History.{held, sent, greatest_stamp}
use Rattle.polling_world.specs.Configs.{Config}

-- the election of a roster: SHA-256 of its text (Auditorium, EVT 2007)
unfoldable pub election_of : List Post → List ℕ
election_of machines = sha256 (text_of (roster_tree machines))

-- what the machine says
abbrev pub entry_with : Config → ℕ → ℕ → List (List ℕ) → Deed → Entry
entry_with config k stamp names deed = record {
  version = config.version;
  election = election_of config.roster;
  maker = config.number;
  number = k;
  stamp = stamp;
  names = names;
  deed = deed;
}

-- the entry, signed with this signature, as the machine's
abbrev pub sealed_with : Config → Entry → List ℕ → SealedEntry
sealed_with config entry signature =
    sealed_from entry signature (text_of (signed_tree entry signature)) (public_of config.key)

-- the machine's k-th entry, with this stamp, these names and this deed, signed at the key's index k
-- (RFC 8554; Auditorium, EVT 2007)
unfoldable pub made : Config → ℕ → ℕ → List (List ℕ) → Deed → SealedEntry
made config k stamp names deed =
    let entry = entry_with config k stamp names deed in
    sealed_with config entry (signed_by (record config.key { next = k }) (text_of (body_tree entry)))

-- what the machine would send after this history: its number is how many entries it sent, its stamp
-- is one more than the greatest that it holds, and it names the frontier (Auditorium, EVT 2007;
-- Lamport 1978)
abbrev pub next_entry : Config → List (Event SealedEntry) → Deed → SealedEntry
next_entry config h deed =
    made config (length (sent h)) (1 + greatest_stamp node_of_sealed (held h)) (frontier node_of_sealed (held h)) deed
