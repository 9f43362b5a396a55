-- What is left of a machine's log, and what it is read as.
use Rattle.std.specs.Prelude.{◌≡◌, ℕ, ◌+◌, ◌<◌, ◌≤◌, List, [], length, map, take, All, None, Some, slice_get}
use Rattle.canonical_sexp.specs.Text.{text_of}
use Rattle.roster.specs.declared.post.Post.{Post}
use Rattle.entry_format.specs.SealedEntry.{SealedEntry}
use Rattle.entry_order.specs.declared.event.Event.{Event}
use Rattle.entry_order.specs.World.{World, history}
use Rattle.log_files.specs.declared.plain_log.End.{End}
use Rattle.log_files.specs.declared.plain_log.End.TheVariants.{Clean, Torn, Malformed}
use Rattle.log_files.specs.declared.sealed_log.Kept.{Kept}
use Rattle.log_files.specs.Logs.{LogRead}
use Rattle.log_files.specs.LogText.{header_tree, AreLog}
use Rattle.log_files.specs.SealedLog.{event_of, BreaksAt, IsReadSealed}
use Rattle.log_files.specs.Written.{log_text}
use Rattle.polling_world.specs.Making.{election_of}

-- the bytes are the owner's log up to some place at or after the end of its header: everything
-- after it is gone
pub record IsLeftOf (owner : ℕ) (events : List (Event SealedEntry)) (bytes : List ℕ) : Type 0 where
  pub place : ℕ
  pub after_header : length (text_of (header_tree owner)) ≤ place
  pub cut : bytes ≡ take place (log_text owner events)

-- where the header and the records of the first n events end in the text of the log
abbrev pub end_of : ℕ → List (Event SealedEntry) → ℕ → ℕ
end_of owner events count = length (log_text owner (take count events))

-- of bytes of this size this many records are complete: these fit, and there is none more, or it
-- doesn't fit
pub record StandWhole (owner : ℕ) (events : List (Event SealedEntry)) (size count : ℕ) : Type 0 where
  pub some_of : count ≤ length events
  pub fit : end_of owner events count ≤ size
  pub no_more : count < length events → size < end_of owner events (count + 1)

-- the end of bytes of this size whose whole records end at a place: clean there, or else torn
-- inside the record that begins there
abbrev pub IsCutAt : ℕ → ℕ → End → Type 0
IsCutAt place size Clean = size ≡ place
IsCutAt place size (Torn at) = (place < size) × (at ≡ place)
IsCutAt place size (Malformed at why) = ⊥

-- The log that was read is the owner's, and its records are the events that are complete in the
-- bytes, in order, each at its place. None is refused, and they break nowhere.
pub record IsPrefixRead (owner : ℕ) (events : List (Event SealedEntry)) (bytes : List ℕ) (log : LogRead) : Type 0 where
  pub count : ℕ
  pub whole : StandWhole owner events (length bytes) count
  pub of_owner : log.owner ≡ owner
  pub kept : map event_of log.kept ≡ take count events
  pub places : (i : ℕ) (kept : Kept) → slice_get log.kept i ≡ Some kept → kept.place ≡ i
  pub none_refused : log.refused ≡ []
  pub ends : IsCutAt (end_of owner events count) (length bytes) log.end
  pub no_break : log.broke ≡ None

-- a complete log is read: its records are all of the events, and it ends after the last
pub record IsWholeRead (owner : ℕ) (events : List (Event SealedEntry)) (log : LogRead) : Type 0 where
  pub prefix : IsPrefixRead owner events (log_text owner events) log
  pub kept : map event_of log.kept ≡ events
  pub ends : log.end ≡ Clean

-- the bytes are a log of the owner under the roster, of which no record is refused and which breaks
-- nowhere
pub record IsUnbrokenLog (posts : List Post) (owner : ℕ) (bytes : List ℕ) : Type 0 where
  pub kept : List Kept
  pub end : End
  pub says : AreLog (IsReadSealed posts (election_of posts)) bytes owner kept [] end
  pub no_break : BreaksAt owner kept None

-- the bytes are what is left of the log of a machine of w
abbrev pub IsLeftIn : World SealedEntry → List ℕ → Type 0
IsLeftIn w bytes = (machine : ℕ) × (machine < length w) × IsLeftOf machine (history w machine) bytes

-- each of the files is; any machine's log may be there once, several times or not at all
abbrev pub AreLeftOf : World SealedEntry → List (List ℕ) → Type 0
AreLeftOf w files = All (IsLeftIn w) files

-- the log is what the log of a machine of w, or what is left of it, is read as
pub record IsReadIn (w : World SealedEntry) (log : LogRead) : Type 0 where
  pub machine : ℕ
  pub bytes : List ℕ
  pub there : machine < length w
  pub read : IsPrefixRead machine (history w machine) bytes log

-- each of the logs is
abbrev pub AreReadIn : World SealedEntry → List LogRead → Type 0
AreReadIn w logs = All (IsReadIn w) logs
