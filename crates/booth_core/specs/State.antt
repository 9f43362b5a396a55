-- What a history is to a booth's state.
use Rattle.std.specs.Prelude.{◌≡◌, ◌↔◌, ℕ, List, IsTrue, Contains}
use Rattle.entry_format.specs.declared.deed.How.TheVariants as word
use Rattle.entry_format.specs.declared.entry.Entry.{Entry}
use Rattle.booth_core.specs.Notes.{Notes}
use Rattle.booth_core.specs.Causes.{IsAuthorised, IsOverriddenTo, IsClosed, HasActivated, HasCommittedTo, HasEndedOwn}

-- the state is that of a booth that holds these entries
pub record StandsFor (notes : Notes) (owner : ℕ) (entries : List Entry) : Type 0 where
  pub same_owner : notes.owner ≡ owner
  pub closed : IsTrue notes.closed ↔ IsClosed entries
  pub authorised : (session : ℕ) → Contains notes.authorised session ↔ IsAuthorised owner entries session
  pub to_cancel : (session : ℕ) → Contains notes.to_cancel session ↔ IsOverriddenTo word.Cancel entries session
  pub to_cast : (session : ℕ) → Contains notes.to_cast session ↔ IsOverriddenTo word.Cast entries session
  pub activated : (session : ℕ) → Contains notes.activated session ↔ HasActivated owner entries session
  pub committed : (session : ℕ) (ballot : List ℕ) →
      Contains notes.committed (record { session = session; ballot = ballot })
      ↔ HasCommittedTo owner entries session ballot
  pub ended : (session : ℕ) → Contains notes.ended session ↔ HasEndedOwn owner entries session
