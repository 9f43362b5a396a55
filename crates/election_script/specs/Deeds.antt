-- What a `do` line says, by the words after its first, or the first cause against it.
use Rattle.std.specs.Prelude.{ℕ, List, [], ◌∷◌, Ok, Err}
use Rattle.entry_format.specs.declared.deed.Deed.{Deed}
use Rattle.entry_format.specs.declared.deed.Deed.TheVariants.{Opened, Authorise, Override, Closed, Activate, Commit}
use Rattle.entry_format.specs.declared.deed.Deed.TheVariants.{Cast, Cancel, Challenge}
use Rattle.entry_format.specs.declared.deed.How.{How}
use Rattle.entry_format.specs.declared.deed.How.TheVariants as how
use Rattle.roster.specs.declared.post.Role.{Role}
use Rattle.roster.specs.declared.post.Role.TheVariants.{Supervisor, Booth}
use Rattle.input_causes.specs.declared.script.ScriptWhy.TheVariants.{WrongCount}
use Rattle.election_script.specs.declared.kinds.DeedName.{DeedName}
use Rattle.election_script.specs.declared.kinds.DeedName.TheVariants as deed
use Rattle.election_script.specs.Kinds.{deed_names, how_names}
use Rattle.election_script.specs.Words.{LineRead, ◌>>=◌, in_table, session_read, ballot_read}
use Rattle.election_script.specs.Machines.{Machines, machine_of_role}

-- a machine of the role, and a session
abbrev pub machine_and_session : Machines → Role → List ℕ → List ℕ → LineRead (ℕ × ℕ)
machine_and_session machines role name word = do
  place ← machine_of_role machines role name
  session ← session_read word
  Ok (place, session)

-- a machine of the role, for a deed without more words
abbrev pub plain_deed : Machines → Role → List ℕ → List (List ℕ) → LineRead ℕ
plain_deed machines role name [] = machine_of_role machines role name
plain_deed machines role name words = Err WrongCount

-- a machine of the role and a session, for a deed with a session
abbrev pub session_deed : Machines → Role → List ℕ → List (List ℕ) → LineRead (ℕ × ℕ)
session_deed machines role name (session ∷ []) = machine_and_session machines role name session
session_deed machines role name words = Err WrongCount

-- the supervisor, a session and how it is overridden
abbrev pub override_deed : Machines → List ℕ → List (List ℕ) → LineRead (ℕ × ℕ × How)
override_deed machines name (session ∷ word ∷ []) = do
  read ← machine_and_session machines Supervisor name session
  how ← in_table how_names word
  Ok (read.0, read.1, how)
override_deed machines name words = Err WrongCount

-- a booth, a session and a ballot
abbrev pub ballot_deed : Machines → List ℕ → List (List ℕ) → LineRead (ℕ × ℕ × List ℕ)
ballot_deed machines name (session ∷ digits ∷ []) = do
  read ← machine_and_session machines Booth name session
  ballot ← ballot_read digits
  Ok (read.0, read.1, ballot)
ballot_deed machines name words = Err WrongCount

-- the supervisor, and the booth and the session that it authorises
abbrev pub authorise_deed : Machines → List ℕ → List (List ℕ) → LineRead (ℕ × ℕ × ℕ)
authorise_deed machines name (booth ∷ session ∷ []) = do
  place ← machine_of_role machines Supervisor name
  read ← machine_and_session machines Booth booth session
  Ok (place, read.0, read.1)
authorise_deed machines name words = Err WrongCount

-- a machine, and its deed of this name
abbrev pub named_deed : Machines → List ℕ → DeedName → List (List ℕ) → LineRead (ℕ × Deed)
named_deed machines name deed.Open words = plain_deed machines Supervisor name words >>= λ place. Ok (place, Opened)
named_deed machines name deed.Authorise words =
    authorise_deed machines name words >>= λ read. Ok (read.0, Authorise read.1 read.2)
named_deed machines name deed.Override words =
    session_deed machines Supervisor name words >>= λ read. Ok (read.0, Override read.1 how.Cancel)
named_deed machines name deed.OverrideHow words =
    override_deed machines name words >>= λ read. Ok (read.0, Override read.1 read.2)
named_deed machines name deed.Close words = plain_deed machines Supervisor name words >>= λ place. Ok (place, Closed)
named_deed machines name deed.Activate words =
    session_deed machines Booth name words >>= λ read. Ok (read.0, Activate read.1)
named_deed machines name deed.Commit words =
    ballot_deed machines name words >>= λ read. Ok (read.0, Commit read.1 read.2)
named_deed machines name deed.Cast words = ballot_deed machines name words >>= λ read. Ok (read.0, Cast read.1 read.2)
named_deed machines name deed.Cancel words =
    session_deed machines Booth name words >>= λ read. Ok (read.0, Cancel read.1)
named_deed machines name deed.Challenge words =
    ballot_deed machines name words >>= λ read. Ok (read.0, Challenge read.1 read.2)

-- a `do` line of a version: a machine, and its deed
abbrev pub do_read : ℕ → Machines → List (List ℕ) → LineRead (ℕ × Deed)
do_read version machines (name ∷ word ∷ words) = do
  deed ← in_table (deed_names version) word
  named_deed machines name deed words
do_read version machines words = Err WrongCount
