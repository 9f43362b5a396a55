-- What rules see of entries.
use Rattle.std.specs.Prelude.{ℕ, ◌<◌, List, length, replicate, All, Option, Some, None, slice_get}
use Rattle.roster.specs.declared.post.Role.{Role}
use Rattle.roster.specs.declared.post.Role.TheVariants.{Booth}
use Rattle.roster.specs.declared.post.Post.{Post}
use Rattle.entry_format.specs.declared.deed.Deed.{Deed}
use Rattle.entry_format.specs.declared.deed.Deed.TheVariants as deed
use Rattle.entry_format.specs.declared.deed.How.TheVariants as how
use Rattle.entry_format.specs.declared.entry.Entry.{Entry}
use Rattle.entry_format.specs.SealedEntry.{SealedEntry}
use Rattle.rule_language.specs.declared.kind.Kind.{Kind}
use Rattle.rule_language.specs.declared.kind.Kind.TheVariants as kind
use Rattle.rule_language.specs.declared.row.Row.{Row}

-- the maker of each entry is one of the machines
abbrev pub HaveMakers : List Post → List SealedEntry → Type 0
HaveMakers machines entries = All (λ (sealed : SealedEntry). sealed.entry.maker < length machines) entries

-- the kind of a deed: an override that says Cast is a kind of its own
abbrev pub kind_of : Deed → Kind
kind_of deed.Opened = kind.Opened
kind_of (deed.Authorise booth session) = kind.Authorise
kind_of (deed.Override session how.Cancel) = kind.Override
kind_of (deed.Override session how.Cast) = kind.Forced
kind_of deed.Closed = kind.Closed
kind_of (deed.Activate session) = kind.Activate
kind_of (deed.Commit session ballot) = kind.Commit
kind_of (deed.Cast session ballot) = kind.Cast
kind_of (deed.Cancel session) = kind.Cancel
kind_of (deed.Challenge session ballot) = kind.Challenge

-- its session, or 0
abbrev pub session_of : Deed → ℕ
session_of deed.Opened = 0
session_of (deed.Authorise booth session) = session
session_of (deed.Override session how) = session
session_of deed.Closed = 0
session_of (deed.Activate session) = session
session_of (deed.Commit session ballot) = session
session_of (deed.Cast session ballot) = session
session_of (deed.Cancel session) = session
session_of (deed.Challenge session ballot) = session

-- its ballot, or 32 zero octets
abbrev pub ballot_of : Deed → List ℕ
ballot_of (deed.Commit session ballot) = ballot
ballot_of (deed.Cast session ballot) = ballot
ballot_of (deed.Challenge session ballot) = ballot
ballot_of other = replicate 32 0

-- the booth that it names, or 0
abbrev pub booth_of : Deed → ℕ
booth_of (deed.Authorise booth session) = booth
booth_of other = 0

-- the role of a machine; one that the roster lacks has a booth's
abbrev pub role_in : Option Post → Role
role_in None = Booth
role_in (Some post) = post.role

-- the row of an entry: what a rule sees of what it says
abbrev pub row_said : List Post → Entry → Row
row_said machines entry = record {
  kind = kind_of entry.deed;
  maker = entry.maker;
  role = role_in (slice_get machines entry.maker);
  number = entry.number;
  session = session_of entry.deed;
  ballot = ballot_of entry.deed;
  booth = booth_of entry.deed;
}

-- the row of a sealed entry
abbrev pub row_of : List Post → SealedEntry → Row
row_of machines sealed = row_said machines sealed.entry
