-- A plain entry can say anything.
use Rattle.entry_format.specs.declared.deed.Deed.TheVariants as deed
use Rattle.entry_format.specs.declared.deed.How.TheVariants as how
use Rattle.rule_language.specs.declared.kind.Kind.TheVariants as kind
use Rattle.canonical_sexp.specs.{Forest.count_of, Sexp.forest_of, Text.Fits, Text.max_members, Text.text_of}
use Rattle.canonical_sexp.specs.declared.sexp.Sexp.TheVariants.{Atom}
use Rattle.entry_format.proofs.Limits.{signed_fits}
use Rattle.entry_format.specs.EntryText.{IsDeed, IsDeedIn, IsDigest, IsEntry, IsSignedText, signed_tree}
use Rattle.entry_format.specs.{Nodes.node_of, Plains.plain_of, SealedEntry.SealedEntry, Sealing.IsSealed}
use Rattle.entry_format.specs.declared.{deed.Deed.Deed, entry.Entry.Entry, plain.Plain.Plain}
use Rattle.entry_order.proofs.Lists.{Contains-head, Contains-later, Contains-none}
use Rattle.entry_order.specs.Ascending.{IsAscending}
use Rattle.roster.specs.declared.post.Post.{Post}
use Rattle.rule_exactness.specs.Exact.{AreDigests, CanSay, IsMade, IsWellFormed, Saying}
use Rattle.rule_language.specs.{Kinds.has_ballot, Kinds.has_booth, Kinds.has_session, declared.kind.Kind.Kind}
use Rattle.sha2.proofs.Facts256.{length-sha256}
use Rattle.std.proofs.Common.{[], ap, arith, inr, length, List, map, refl, subst, true, ℕ, ◌<◌, ◌^◌, ◌∙◌, ◌∷◌, ◌≡◌, ◌≢◌}
use Rattle.std.proofs.{Common.◌≤◌, lemmas.List.length-replicate}
use Rattle.std.proofs.lemmas.List.Elements.{All-contains, All-from_recursion}
use Rattle.std.specs.List.{AllByRecursion as ByRecursion}
use Rattle.survivor_rows.specs.Rows.{ballot_of, booth_of, kind_of, row_said, session_of}

-- the deed of a kind
abbrev pub deed_said : Kind → ℕ → List ℕ → ℕ → Deed
deed_said kind.Any session ballot booth = deed.Opened
deed_said kind.Opened session ballot booth = deed.Opened
deed_said kind.Authorise session ballot booth = deed.Authorise booth session
deed_said kind.Override session ballot booth = deed.Override session how.Cancel
deed_said kind.Forced session ballot booth = deed.Override session how.Cast
deed_said kind.Closed session ballot booth = deed.Closed
deed_said kind.Activate session ballot booth = deed.Activate session
deed_said kind.Commit session ballot booth = deed.Commit session ballot
deed_said kind.Cast session ballot booth = deed.Cast session ballot
deed_said kind.Cancel session ballot booth = deed.Cancel session
deed_said kind.Challenge session ballot booth = deed.Challenge session ballot

-- an entry of an election that says this, of this maker, with these names and this digest
abbrev pub made : List ℕ → Saying → ℕ → List (List ℕ) → List ℕ → Plain
made election s maker names digest = record {
  entry = record {
    version = 2;
    election = election;
    maker = maker;
    number = s.number;
    stamp = 0;
    names = names;
    deed = deed_said s.kind s.session s.ballot s.booth;
  };
  digest = digest;
}

kind_said : (k : Kind) (n : ℕ) (b : List ℕ) (m : ℕ) → k ≢ kind.Any → kind_of (deed_said k n b m) ≡ k
kind_said kind.Any n b m real = absurd (real refl)
kind_said kind.Opened n b m real = refl
kind_said kind.Authorise n b m real = refl
kind_said kind.Override n b m real = refl
kind_said kind.Forced n b m real = refl
kind_said kind.Closed n b m real = refl
kind_said kind.Activate n b m real = refl
kind_said kind.Commit n b m real = refl
kind_said kind.Cast n b m real = refl
kind_said kind.Cancel n b m real = refl
kind_said kind.Challenge n b m real = refl

session_said : (k : Kind) (n : ℕ) (b : List ℕ) (m : ℕ) → has_session k ≡ true → session_of (deed_said k n b m) ≡ n
session_said kind.Any n b m has = cc
session_said kind.Opened n b m has = cc
session_said kind.Closed n b m has = cc
session_said kind.Authorise n b m has = refl
session_said kind.Override n b m has = refl
session_said kind.Forced n b m has = refl
session_said kind.Activate n b m has = refl
session_said kind.Commit n b m has = refl
session_said kind.Cast n b m has = refl
session_said kind.Cancel n b m has = refl
session_said kind.Challenge n b m has = refl

ballot_said : (k : Kind) (n : ℕ) (b : List ℕ) (m : ℕ) → has_ballot k ≡ true → ballot_of (deed_said k n b m) ≡ b
ballot_said kind.Commit n b m has = refl
ballot_said kind.Cast n b m has = refl
ballot_said kind.Challenge n b m has = refl
ballot_said k n b m has = cc

booth_said : (k : Kind) (n : ℕ) (b : List ℕ) (m : ℕ) → has_booth k ≡ true → booth_of (deed_said k n b m) ≡ m
booth_said kind.Authorise n b m has = refl
booth_said k n b m has = cc

-- whatever the roster's machines
pub plain_can_say : (machines : List Post) (election : List ℕ) →
    CanSay node_of (λ (plain : Plain). row_said machines plain.entry) (made election)
plain_can_say machines election = record {
  digest = λ s m ns d. refl;
  names = λ s m ns d. refl;
  maker = λ s m ns d. refl;
  one_maker = λ e. refl;
  kind = λ s m ns d real. kind_said s.kind s.session s.ballot s.booth real;
  number = λ s m ns d. refl;
  session = λ s m ns d has. session_said s.kind s.session s.ballot s.booth has;
  ballot = λ s m ns d has. ballot_said s.kind s.session s.ballot s.booth has;
  booth = λ s m ns d has. booth_said s.kind s.session s.ballot s.booth has;
}

-- such a deed is one of an entry's
deed_right : (k : Kind) (n : ℕ) (b : List ℕ) (m : ℕ) → n < 2 ^ 32 → length b ≡ 32 → m < 2 ^ 32 → IsDeed (deed_said k n b m)
deed_right kind.Any n b m small right low = tt
deed_right kind.Opened n b m small right low = tt
deed_right kind.Authorise n b m small right low = (low, small)
deed_right kind.Override n b m small right low = small
deed_right kind.Forced n b m small right low = small
deed_right kind.Closed n b m small right low = tt
deed_right kind.Activate n b m small right low = small
deed_right kind.Commit n b m small right low = (small, right)
deed_right kind.Cast n b m small right low = (small, right)
deed_right kind.Cancel n b m small right low = small
deed_right kind.Challenge n b m small right low = (small, right)

deed_in : (k : Kind) (n : ℕ) (b : List ℕ) (m : ℕ) → IsDeedIn 2 (deed_said k n b m)
deed_in kind.Any n b m = tt
deed_in kind.Opened n b m = tt
deed_in kind.Authorise n b m = tt
deed_in kind.Override n b m = tt
deed_in kind.Forced n b m = refl
deed_in kind.Closed n b m = tt
deed_in kind.Activate n b m = tt
deed_in kind.Commit n b m = tt
deed_in kind.Cast n b m = tt
deed_in kind.Cancel n b m = tt
deed_in kind.Challenge n b m = refl

-- at most one name rises
rising_few : (ns : List (List ℕ)) → length ns ≤ 1 → IsAscending ns
rising_few [] few = tt
rising_few (n ∷ []) few = (λ c there. absurd (Contains-none c there), tt)
rising_few (n ∷ m ∷ ns) few = absurd (omega arith)

digests_each : (ns : List (List ℕ)) → AreDigests ns → ByRecursion IsDigest ns
digests_each [] are = tt
digests_each (n ∷ ns) are =
    (are n (Contains-head n ns), digests_each ns (λ d there. are d (Contains-later n ns d there)))

module _ (election : List ℕ) (right : IsDigest election) where
  -- an entry of what is sayable is an entry
  entry_right : (plain : Plain) → IsMade (made election) plain → IsEntry plain.entry × (length plain.entry.names ≤ 1)
  entry_right plain is =
      let s = is.says in
      let all = All-from_recursion IsDigest is.names (digests_each is.names is.named) in
      let entry : IsEntry (made election s is.maker is.names is.digest).entry =
      record {
        version = inr refl;
        election = right;
        maker = is.small;
        number = is.sayable.number;
        stamp = omega arith;
        names = all;
        deed = deed_right s.kind s.session s.ballot s.booth is.sayable.session is.sayable.ballot is.sayable.booth;
        of_version = deed_in s.kind s.session s.ballot s.booth;
      } in
      subst (λ (p : Plain). IsEntry p.entry × (length p.entry.names ≤ 1)) is.is (entry, is.few)

  -- so a text says it
  pub made_said : (plain : Plain) → IsMade (made election) plain →
      (text signature : List ℕ) × IsSignedText text plain.entry signature
  made_said plain is =
      let (entry, few) = entry_right plain is in
      let fits = signed_fits plain.entry [] entry (omega arith) (omega arith) in
      (text_of (signed_tree plain.entry []), [], record { lawful = entry; within = fits; spelt = refl })

  pub made_rising : (plain : Plain) → IsMade (made election) plain → IsAscending plain.entry.names
  made_rising plain is =
      subst (λ (p : Plain). IsAscending p.entry.names) is.is (rising_few is.names is.few)

  pub made_digest : (plain : Plain) → IsMade (made election) plain → IsDigest plain.digest
  made_digest plain is = subst (λ (p : Plain). IsDigest p.digest) is.is is.long

  pub made_election : (plain : Plain) → IsMade (made election) plain → plain.entry.election ≡ election
  made_election plain is = subst (λ (p : Plain). p.entry.election ≡ election) is.is refl

-- ---- and what a sealed entry says is lawful

-- there is an atom for each name
names_counted : (names : List (List ℕ)) → count_of (forest_of (map Atom names)) ≡ length names
names_counted [] = refl
names_counted (name ∷ names) = let rest = names_counted names in omega (arith, rest)

sealed_names : (entry : Entry) (signature : List ℕ) → Fits (signed_tree entry signature) → length entry.names ≤ 16384
sealed_names entry signature fits =
    let following = fits.2.1.2 in
    let names : count_of (forest_of (map Atom entry.names)) ≤ max_members = following.1.1.1.1.1.1.1 in
    omega (arith, names_counted entry.names)

deed_numbers : (deed : Deed) → IsDeed deed → (session_of deed < 2 ^ 32) × (length (ballot_of deed) ≡ 32) × (booth_of deed < 2 ^ 32)
deed_numbers deed.Opened is = (omega arith, length-replicate {A = ℕ} 32 0, omega arith)
deed_numbers (deed.Authorise booth session) is = (is.1, length-replicate {A = ℕ} 32 0, is.0)
deed_numbers (deed.Override session how) is = (is, length-replicate {A = ℕ} 32 0, omega arith)
deed_numbers deed.Closed is = (omega arith, length-replicate {A = ℕ} 32 0, omega arith)
deed_numbers (deed.Activate session) is = (is, length-replicate {A = ℕ} 32 0, omega arith)
deed_numbers (deed.Commit session ballot) is = (is.0, is.1, omega arith)
deed_numbers (deed.Cast session ballot) is = (is.0, is.1, omega arith)
deed_numbers (deed.Cancel session) is = (is, length-replicate {A = ℕ} 32 0, omega arith)
deed_numbers (deed.Challenge session ballot) is = (is.0, is.1, omega arith)

pub sealed_lawful : (machines : List Post) (sealed : SealedEntry) → IsSealed sealed →
    IsWellFormed node_of (λ (plain : Plain). row_said machines plain.entry) (plain_of sealed)
sealed_lawful machines sealed is =
    let entry = is.spelt.lawful in
    let numbers = deed_numbers sealed.entry.deed entry.deed in
    record {
      digest = ap (λ (d : List ℕ). length d) is.hashed ∙ length-sha256 sealed.text;
      few = sealed_names sealed.entry sealed.signature is.spelt.within;
      names = λ d there. All-contains IsDigest sealed.entry.names d entry.names there;
      maker = entry.maker;
      number = entry.number;
      session = numbers.0;
      ballot = numbers.1;
      booth = numbers.2;
    }
