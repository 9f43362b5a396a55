-- What a history is to the supervisor's state.
use Rattle.std.specs.Prelude.{◌≡◌, ◌↔◌, ℕ, List, IsTrue, Contains}
use Rattle.entry_format.specs.declared.deed.How.TheVariants as word
use Rattle.entry_format.specs.declared.entry.Entry.{Entry}
use Rattle.deed_history.specs.Held.{HasEnded}
use Rattle.supervisor_core.specs.Notes.{Notes}
use Rattle.supervisor_core.specs.Causes.{HasOpened, HasClosed, HasAuthorised, HasOverridden, IsCommitted, IsRunning}

-- the state is that of a supervisor that holds these entries
pub record StandsFor (notes : Notes) (owner : ℕ) (entries : List Entry) : Type 0 where
  pub same_owner : notes.owner ≡ owner
  pub opened : IsTrue notes.opened ↔ HasOpened owner entries
  pub closed : IsTrue notes.closed ↔ HasClosed owner entries
  pub authorised : (session : ℕ) → Contains notes.authorised session ↔ HasAuthorised owner entries session
  pub running : (booth session : ℕ) →
      Contains notes.running (record { booth = booth; session = session }) ↔ IsRunning owner entries booth session
  pub ended : (session : ℕ) → Contains notes.ended session ↔ HasEnded entries session
  pub to_cancel : (session : ℕ) →
      Contains notes.to_cancel session ↔ HasOverridden owner entries session word.Cancel
  pub to_cast : (session : ℕ) → Contains notes.to_cast session ↔ HasOverridden owner entries session word.Cast
  pub committed : (session : ℕ) → Contains notes.committed session ↔ IsCommitted entries session
