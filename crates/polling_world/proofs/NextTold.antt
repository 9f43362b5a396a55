-- What a machine may send is decided, so there is a function that says it.
use Rattle.std.proofs.Common.{Option, Some, None}
use Rattle.polling_world.proofs.Imports.{◌≡◌, ◌∙◌, ℕ, ◌^◌, ◌<◌, Bool, true, false, List, length, ◌⊎◌, inl, inr, refl}
use Rattle.polling_world.proofs.Imports.{sym, subst, ap, arith, slice_get, cases_lt, IsFirstOf, Deed, node_of_sealed}
use Rattle.polling_world.proofs.Imports.{SealedEntry, Event, IsNew, has_digest, held, sent, has_digest_from}
use Rattle.polling_world.proofs.Imports.{IsNew-from_test, whole_or_not, Role, Supervisor, Booth, one_first, Config}
use Rattle.polling_world.proofs.Imports.{next_entry, IsNextOf, IsNextAt, TellsNext, MayDo, RoleRefuses}
use Rattle.polling_world.proofs.Imports.{IsWholeHistory, entries_in, MaySend, next_action}
use Rattle.std.specs.Prelude.{Result, Ok, Err}
use Rattle.supervisor_core.specs.Table as supervisor
use Rattle.supervisor_core.proofs.Answered as supervisor_answer
use Rattle.booth_core.specs.Table as booth
use Rattle.booth_core.proofs.Answered as booth_answer

-- it holds, or it doesn't
abbrev Either : Type 0 → Type 0
Either P = P ⊎ (P → ⊥)

-- of two that each hold or don't, both hold or not
both : {P Q : Type 0} → Either P → Either Q → Either (P × Q)
both (inl p) (inl q) = inl (p, q)
both (inl p) (inr not) = inr (λ (_, q). not q)
both (inr not) q = inr (λ (p, _). not p)

-- a number is below another or it isn't
less_either : (m n : ℕ) → Either (m < n)
less_either m n = elim (cases_lt m n) [ inl less ↦ inl less | inr more ↦ inr (λ less. omega arith) ]

-- an answer is that no cause applies, or another
row_either : {Cause : Type 0} (row : List (Type 0 × Cause)) (answer : Result (Unit {0}) Cause) → IsFirstOf row answer →
    Either (IsFirstOf row (Ok tt))
row_either row (Ok done) is = inl is
row_either row (Err why) is = inr (λ may. let same = one_first row (Ok tt) (Err why) may is in cc)

-- whatever the role, its rules allow a deed or they don't
role_either : (role : Role) (owner : ℕ) (h : List (Event SealedEntry)) (deed : Deed)
    → Either (RoleRefuses role owner h deed (Ok tt))
role_either Supervisor owner h deed =
    let (answer, first) = supervisor_answer.answered owner (entries_in h) deed in
    row_either (supervisor.causes_of owner (entries_in h) deed) answer first
role_either Booth owner h deed =
    let (whole, tells) = whole_or_not node_of_sealed (held h) in
    let (answer, first) = booth_answer.answered owner (entries_in h) (IsWholeHistory h) whole deed tells in
    row_either (booth.causes_of owner (entries_in h) (IsWholeHistory h) deed) answer first

-- an entry's digest is new among those held or it isn't
new_either : (h : List (Event SealedEntry)) (e : SealedEntry) → Either (IsNew node_of_sealed (held h) e)
new_either h e = by (has_digest node_of_sealed (held h) e.digest) refl
  where
    -- the same by the test whether it is held
    by : (b : Bool) → has_digest node_of_sealed (held h) e.digest ≡ b → Either (IsNew node_of_sealed (held h) e)
    by false is = inl (IsNew-from_test node_of_sealed (held h) e is)
    by true is = inr
        (λ new. let (g, there, bears) = has_digest_from node_of_sealed (held h) e.digest is in new g there bears)

-- what is sent, or that nothing may be
abbrev Told : Config → List (Event SealedEntry) → Type 0
Told config h = (o : Option SealedEntry) × IsNextOf config h o

-- what is asked of a deed before its entry may be sent
abbrev Asked : Config → List (Event SealedEntry) → Deed → Type 0
Asked config h deed =
    MayDo config h deed × ((length h < config.log) × ((length (sent h) < 2 ^ config.key.height)
    × IsNew node_of_sealed (held h) (next_entry config h deed)))

-- a machine sends nothing else than the entry of its next action
pub same_deed : (config : Config) (h : List (Event SealedEntry)) (deed : Deed) → next_action config h ≡ Some deed
    → (e : SealedEntry) → (may : MaySend config h e) → may.deed ≡ deed
same_deed config h deed is e may = let action = may.action in cc

-- what is sent is known by whether the machine has an action left
told_at : (config : Config) (h : List (Event SealedEntry)) (action : Option Deed) → next_action config h ≡ action
    → Told config h
told_at config h None is = (None, λ e may. let action = may.action in cc)
told_at config h (Some deed) is =
    elim (both (role_either config.role config.number h deed) (both (less_either (length h) config.log)
    (both (less_either (length (sent h)) (2 ^ config.key.height)) (new_either h (next_entry config h deed))))) [
      | inl (allowed, (room, (unspent, new))) ↦ (
        Some (next_entry config h deed),
        record { deed = deed; action = is; allowed = allowed; room = room; unspent = unspent; made = refl; new = new },
      )
      | inr not ↦ (
        None,
        λ e may. not (subst (Asked config h) (same_deed config h deed is e may)
            (may.allowed, (may.room, (may.unspent, rw (may.made) at (may.new))))),
      )
    ]

-- for each history it is known what the machine may send
told : (config : Config) (h : List (Event SealedEntry)) → Told config h
told config h = told_at config h (next_action config h) refl

-- of a machine that may not be there
told_of : Option Config → List (Event SealedEntry) → Option SealedEntry
told_of None h = None
told_of (Some config) h = (told config h).0

-- what is said of a machine, if it is there, is what it may send
told_is : (o : Option Config) (h : List (Event SealedEntry)) → IsNextAt o h (told_of o h)
unfolding told_of
told_is None h = refl
told_is (Some config) h = (told config h).1

-- there is a function that says what each of these machines may send
pub next_of : List Config → ℕ → List (Event SealedEntry) → Option SealedEntry
next_of configs m h = told_of (slice_get configs m) h

-- that function says it for each machine
pub tells_next : (configs : List Config) → TellsNext configs (next_of configs)
unfolding next_of
tells_next configs = λ m h. told_is (slice_get configs m) h

-- and each such function says the same
pub one_next : (config : Config) (h : List (Event SealedEntry)) (o p : Option SealedEntry) → IsNextOf config h o
    → IsNextOf config h p → o ≡ p
one_next config h None None first second = refl
one_next config h None (Some f) first second = absurd (first f second)
one_next config h (Some e) None first second = absurd (second e first)
one_next config h (Some e) (Some f) first second =
    let deed : first.deed ≡ second.deed = same_deed config h second.deed second.action e first in
    ap Some (first.made ∙ ap (λ d. next_entry config h d) deed ∙ sym second.made)

-- and so for a machine that may not be there
one_at : (at : Option Config) (h : List (Event SealedEntry)) (o p : Option SealedEntry) → IsNextAt at h o
    → IsNextAt at h p → o ≡ p
one_at None h o p first second = first ∙ sym second
one_at (Some config) h o p first second = one_next config h o p first second

-- two functions that say what the machines may send agree on each history
pub tells_same : (configs : List Config) (next other : ℕ → List (Event SealedEntry) → Option SealedEntry)
    → TellsNext configs next → TellsNext configs other → (m : ℕ) (h : List (Event SealedEntry)) → next m h ≡ other m h
tells_same configs next other first second m h =
    one_at (slice_get configs m) h (next m h) (other m h) (first m h) (second m h)
