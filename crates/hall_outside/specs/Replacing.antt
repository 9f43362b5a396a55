-- Which files are replaced, and which are read.
use Rattle.std.specs.Prelude.{◌≡◌, ◌≢◌, true, false}
use Rattle.hall_outside.specs.declared.refusals.Standing.{Standing}
use Rattle.hall_outside.specs.declared.refusals.Refusal.{Refusal}
use Rattle.hall_outside.specs.declared.refusals.Refusal.TheVariants.{NotRegular, Protected, WasRead, OtherName}

-- What may be replaced: a regular file that its owner may write. One that holds a secret has no other
-- name, and any other one wasn't read.
pub record MayReplace (file : Standing) : Type 0 where
  pub regular : file.is_regular ≡ true
  pub writable : file.owner_writes ≡ true
  pub alone : file.is_secret ≡ true → file.links ≡ 1
  pub unread : file.is_secret ≡ false → file.was_read ≡ false

-- What may be read: any file, but one that holds a secret has to be a regular file with no other name.
abbrev pub MayRead : Standing → Type 0
MayRead file = file.is_secret ≡ true → (file.is_regular ≡ true) × (file.links ≡ 1)

-- what a refusal says of the file
abbrev pub IsReasonFor : Refusal → Standing → Type 0
IsReasonFor NotRegular file = file.is_regular ≡ false
IsReasonFor Protected file = file.owner_writes ≡ false
IsReasonFor WasRead file = (file.is_secret ≡ false) × (file.was_read ≡ true)
IsReasonFor OtherName file = (file.is_secret ≡ true) × (file.links ≢ 1)
