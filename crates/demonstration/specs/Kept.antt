-- What a demonstration keeps of a log: its text, cut one byte after the record that ends a session.
use Rattle.std.specs.Prelude.{◌≡◌, ◌⊎◌, ℕ, ◌+◌, ◌<◌, ◌==◌, Bool, true, false, List, All, take, Some, slice_get}
use Rattle.entry_format.specs.declared.deed.Deed.{Deed}
use Rattle.entry_format.specs.declared.deed.Deed.TheVariants.{Cast, Cancel, Challenge}
use Rattle.entry_format.specs.SealedEntry.{SealedEntry}
use Rattle.entry_order.specs.declared.event.Event.{Event}
use Rattle.entry_order.specs.History.{entry_of}
use Rattle.log_files.specs.Written.{log_text}
use Rattle.honest_places.specs.WhatIsLeft.{end_of}

-- a booth ends a session with a ballot that is cast, with one that is challenged, or with none
-- (VoteBox, USENIX Security 2008)
abbrev pub is_end_of : ℕ → Deed → Bool
is_end_of session (Cast ended ballot) = ended == session
is_end_of session (Challenge ended ballot) = ended == session
is_end_of session (Cancel ended) = ended == session
is_end_of session other = false

-- the entry that was sent or got ends the session
abbrev pub ends_session : ℕ → Event SealedEntry → Bool
ends_session session event = is_end_of session (entry_of event).entry.deed

-- the last event that ends the session is at this place of the history
pub record IsLastEnd (session : ℕ) (events : List (Event SealedEntry)) (place : ℕ) : Type 0 where
  pub event : Event SealedEntry
  pub stands : slice_get events place ≡ Some event
  pub ends : ends_session session event ≡ true
  pub last : (later : ℕ) (other : Event SealedEntry) → place < later → slice_get events later ≡ Some other →
      ends_session session other ≡ false

-- no event ends the session
abbrev pub HasNoEnd : ℕ → List (Event SealedEntry) → Type 0
HasNoEnd session events = All (λ event. ends_session session event ≡ false) events

-- What is kept is the log up to one byte after the record of the last event that ends the session.
-- It is the whole log where nothing follows that record, and where no event ends the session.
abbrev pub IsKeptOf : ℕ → ℕ → List (Event SealedEntry) → List ℕ → Type 0
IsKeptOf session owner events bytes =
    ((place : ℕ) × IsLastEnd session events place
    × (bytes ≡ take (end_of owner events (place + 1) + 1) (log_text owner events)))
    ⊎ (HasNoEnd session events × (bytes ≡ log_text owner events))
