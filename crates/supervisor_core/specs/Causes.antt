-- What a history says against a deed of the supervisor, who owns it (VoteBox, USENIX Security
-- 2008).
use Rattle.std.specs.Prelude.{◌≡◌, ℕ, List}
use Rattle.entry_format.specs.declared.deed.Deed.TheVariants.{Opened, Authorise, Override, Closed}
use Rattle.entry_format.specs.declared.deed.How.{How}
use Rattle.entry_format.specs.declared.deed.How.TheVariants as word
use Rattle.entry_format.specs.declared.entry.Entry.{Entry}
use Rattle.deed_history.specs.Deeds.{Authorises, Commits}
use Rattle.deed_history.specs.Held.{HoldsSome, HoldsOwn, HasEnded}

-- an own Opened is held (VoteBox, USENIX Security 2008)
abbrev pub HasOpened : ℕ → List Entry → Type 0
HasOpened owner entries = HoldsOwn owner entries (λ deed. deed ≡ Opened)

-- an own Closed is held
abbrev pub HasClosed : ℕ → List Entry → Type 0
HasClosed owner entries = HoldsOwn owner entries (λ deed. deed ≡ Closed)

-- an own Authorise of the session is held (VoteBox, USENIX Security 2008)
abbrev pub HasAuthorised : ℕ → List Entry → ℕ → Type 0
HasAuthorised owner entries session = HoldsOwn owner entries (Authorises session)

-- an own Override of the session that says the word is held (VoteBox, USENIX Security 2008)
abbrev pub HasOverridden : ℕ → List Entry → ℕ → How → Type 0
HasOverridden owner entries session how = HoldsOwn owner entries (λ deed. deed ≡ Override session how)

-- the other word of an Override
abbrev pub other : How → How
other word.Cancel = word.Cast
other word.Cast = word.Cancel

-- a Commit of the session is held, by whichever booth (VoteBox, USENIX Security 2008)
abbrev pub IsCommitted : List Entry → ℕ → Type 0
IsCommitted entries session = HoldsSome entries (Commits session)

-- an own Authorise of the booth and the session is held, and the session hasn't ended (VoteBox,
-- USENIX Security 2008)
abbrev pub IsRunning : ℕ → List Entry → ℕ → ℕ → Type 0
IsRunning owner entries booth session =
    HoldsOwn owner entries (λ deed. deed ≡ Authorise booth session) × (HasEnded entries session → ⊥)

-- an own Authorise of the booth is held whose session hasn't ended (VoteBox, USENIX Security 2008)
abbrev pub IsBusy : ℕ → List Entry → ℕ → Type 0
IsBusy owner entries booth = (session : ℕ) × IsRunning owner entries booth session

-- an own Authorise is held whose session hasn't ended
abbrev pub HasSessionsLeft : ℕ → List Entry → Type 0
HasSessionsLeft owner entries = (booth : ℕ) × IsBusy owner entries booth
