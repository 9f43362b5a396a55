-- A sealed entry as a value.
use Rattle.std.specs.Prelude.{ℕ, List}
use Rattle.entry_format.specs.declared.entry.Entry.{Entry}

-- an entry with its signature, its signed text, the text's digest and its maker's key
pub record SealedEntry : Type 0 where
  pub entry : Entry
  pub signature : List ℕ
  pub text : List ℕ
  pub digest : List ℕ
  pub key : List ℕ
