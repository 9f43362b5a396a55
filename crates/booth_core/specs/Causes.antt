-- What a history says against a deed of the booth that owns it (VoteBox, USENIX Security 2008).
use Rattle.std.specs.Prelude.{◌≡◌, ℕ, List}
use Rattle.entry_format.specs.declared.deed.Deed.TheVariants.{Authorise, Override, Closed, Activate, Commit}
use Rattle.entry_format.specs.declared.deed.How.{How}
use Rattle.entry_format.specs.declared.entry.Entry.{Entry}
use Rattle.deed_history.specs.Deeds.{Overrides, Commits, Ends}
use Rattle.deed_history.specs.Held.{HoldsSome, HoldsOwn}

-- an Authorise of the session that names this booth is held (VoteBox, USENIX Security 2008)
abbrev pub IsAuthorised : ℕ → List Entry → ℕ → Type 0
IsAuthorised owner entries session = HoldsSome entries (λ deed. deed ≡ Authorise owner session)

-- an Override of the session is held, whichever word it says (VoteBox, USENIX Security 2008)
abbrev pub IsOverridden : List Entry → ℕ → Type 0
IsOverridden entries session = HoldsSome entries (Overrides session)

-- an Override of the session that says the word is held
abbrev pub IsOverriddenTo : How → List Entry → ℕ → Type 0
IsOverriddenTo how entries session = HoldsSome entries (λ deed. deed ≡ Override session how)

-- a Closed is held
abbrev pub IsClosed : List Entry → Type 0
IsClosed entries = HoldsSome entries (λ deed. deed ≡ Closed)

-- an own Activate of the session is held (VoteBox, USENIX Security 2008)
abbrev pub HasActivated : ℕ → List Entry → ℕ → Type 0
HasActivated owner entries session = HoldsOwn owner entries (λ deed. deed ≡ Activate session)

-- an own Commit of the session is held (VoteBox, USENIX Security 2008)
abbrev pub HasCommitted : ℕ → List Entry → ℕ → Type 0
HasCommitted owner entries session = HoldsOwn owner entries (Commits session)

-- an own Commit of the session to the ballot is held
abbrev pub HasCommittedTo : ℕ → List Entry → ℕ → List ℕ → Type 0
HasCommittedTo owner entries session ballot = HoldsOwn owner entries (λ deed. deed ≡ Commit session ballot)

-- an own Cast, Cancel or Challenge of the session is held (VoteBox, USENIX Security 2008)
abbrev pub HasEndedOwn : ℕ → List Entry → ℕ → Type 0
HasEndedOwn owner entries session = HoldsOwn owner entries (Ends session)
