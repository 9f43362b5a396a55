-- An entry more.
use Rattle.live_auditor.proofs.Imports.{[], All-filter, All-push, ap, AreGiven, arith, Bool, bytes_eq, bytes_eq-Decides}
use Rattle.live_auditor.proofs.Imports.{Contains, Contains-cons_cases, Contains-filter_cases, Contains-none}
use Rattle.live_auditor.proofs.Imports.{Contains-push_cases, Distinct, distinct, filter, HasRoomFor, IsLive}
use Rattle.live_auditor.proofs.Imports.{IsNew, IsOfMachine, length, length-append, length-filter_both, List, LiveState}
use Rattle.live_auditor.proofs.Imports.{lower, ltb-true, nat_lt, node_of_sealed, not, Post, refl, SealedEntry, sym}
use Rattle.live_auditor.proofs.Imports.{true≢false, ℕ, ◌++◌, ◌<◌, ◌∙◌, ◌∷◌, ◌≢◌, ◌≤◌}

-- of one and others that have other digests, no two have one digest if no two of the others have
apart_first : (x : SealedEntry) (others : List SealedEntry) → Distinct node_of_sealed others →
    IsNew node_of_sealed others x → Distinct node_of_sealed (x ∷ others)
apart_first x others apart new e f has also same =
    grind (arith, Contains-cons_cases x others e has, Contains-cons_cases x others f also, apart e f, new e, new f)

-- of entries, each of them once, no two have one digest
once_apart : (given : List SealedEntry) → Distinct node_of_sealed (distinct node_of_sealed given)
once_apart [] = λ e f has also same. absurd (Contains-none e has)
once_apart (x ∷ xs) =
    let others = λ (g : SealedEntry). not (bytes_eq g.digest x.digest) in
    let kept = Contains-filter_cases others (distinct node_of_sealed xs) in
    apart_first x (filter others (distinct node_of_sealed xs))
    (λ e f has also. once_apart xs e f (kept e has).0 (kept f also).0)
    (λ e has is. true≢false (sym (kept e has).1 ∙ ap not ((bytes_eq-Decides e.digest x.digest).1 is)))

-- with one more that has another digest, no two of entries have one either
pub apart_more : (given : List SealedEntry) (e : SealedEntry) → Distinct node_of_sealed given →
    IsNew node_of_sealed given e → Distinct node_of_sealed (given ++ e ∷ [])
apart_more given e apart new f g has also same =
    grind (arith, Contains-push_cases given e f has, Contains-push_cases given e g also, apart f g, new f, new g)

-- a filter keeps no more than there is
filter_shorter : {X : Type 0} (p : X → Bool) (xs : List X) → length (filter p xs) ≤ length xs
filter_shorter p xs = omega (arith, length-filter_both p (λ x. not (p x)) (λ x. refl) xs)

-- nor are more distinct
pub distinct_shorter : (given : List SealedEntry) → length (distinct node_of_sealed given) ≤ length given
distinct_shorter [] = omega arith
distinct_shorter (e ∷ es) =
    let kept = filter_shorter (λ (f : SealedEntry). not (bytes_eq f.digest e.digest)) (distinct node_of_sealed es) in
    omega (arith, distinct_shorter es, kept)

-- those with lower stamps
pub in_lower : (added : List SealedEntry) (below : ℕ) (f : SealedEntry) → Contains (lower below added) f →
    Contains added f × (f.entry.stamp < below)
in_lower added below f has =
    let (there, low) = Contains-filter_cases (λ (g : SealedEntry). nat_lt g.entry.stamp below) added f has in
    (there, ltb-true f.entry.stamp below low)

-- are entries of the machines, too
pub given_lower : {machines : List Post} (added : List SealedEntry) (below : ℕ) → AreGiven machines added →
    AreGiven machines (lower below added)
given_lower {machines} added below is =
    let low = λ (e : SealedEntry). nat_lt e.entry.stamp below in
    record {
      of_machines = All-filter low (IsOfMachine machines) added is.of_machines;
      few = omega (arith, filter_shorter low added, is.few);
      apart = λ e f has also. is.apart e f (in_lower added below e has).0 (in_lower added below f also).0;
    }

-- so are the entries of an audit
pub given_live : (live : LiveState) → IsLive live → AreGiven live.machines live.added
given_live live is =
    record { of_machines = is.of_machines; few = is.few; apart = rw is.once at (once_apart live.added) }

-- and one more
pub given_more : {machines : List Post} {added : List SealedEntry} (e : SealedEntry) → AreGiven machines added →
    IsOfMachine machines e → HasRoomFor added e → AreGiven machines (added ++ e ∷ [])
given_more {machines} {added} e is machine room = record {
  of_machines = All-push (IsOfMachine machines) added e is.of_machines machine;
  few = omega (arith, length-append added (e ∷ []), room.1);
  apart = apart_more added e is.apart room.0;
}
