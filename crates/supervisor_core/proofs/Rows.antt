-- What the tests of the supervisor's rows decide.
use Rattle.entry_format.specs.declared.deed.How.TheVariants as word
use Rattle.deed_history.proofs.Deciding.{Decided}
use Rattle.entry_format.specs.declared.{deed.How.How, entry.Entry.Entry}
use Rattle.std.proofs.Common.{[], ap, arith, Bool, length, List, refl, subst, ℕ, ◌<◌, ◌∷◌, ◌≡◌}
use Rattle.std.specs.Prelude.{Any, Contains, IsTrue, ◌↔◌}
use Rattle.supervisor_core.specs.Causes.{HasSessionsLeft, IsBusy, IsCommitted}
use Rattle.supervisor_core.specs.{Notes.Notes, State.StandsFor, declared.running.Running.Running}

-- a session at a booth
abbrev run : ℕ → ℕ → Running
run session booth = record { booth = booth; session = session }

-- a list has a member exactly when it has a length
pub some_member : (running : List Running) →
    (0 < length running) ↔ ((booth session : ℕ) × Contains running (run session booth))
some_member [] = (λ some. absurd (omega arith), λ one. absurd (omega arith))
some_member (one ∷ rest) = (λ some. (one.booth, one.session, (0, omega arith, refl)), λ any. omega arith)

-- a booth is busy where it has one of the noted sessions
abbrev pub busy_is : {notes : Notes} {owner : ℕ} {entries : List Entry} {busy : Bool} (booth : ℕ) →
    StandsFor notes owner entries → IsTrue busy ↔ Any (λ session. session.booth ≡ booth) notes.running →
    Decided (IsBusy owner entries booth)
busy_is {notes} {owner} {entries} {busy} booth stands any = (
  busy,
  (
    λ told.
        let (i, one, within, at, at_booth) = any.0 told in
        let same : one ≡ run one.session booth = ap (run one.session) at_booth in
        (one.session, (stands.running booth one.session).0 (subst (Contains notes.running) same (i, within, at))),
    λ (session, runs).
        let (i, within, at) = (stands.running booth session).1 runs in
        any.1 (i, run session booth, within, at, refl),
  ),
)

-- sessions are left where one is noted
abbrev pub left_is : {notes : Notes} {owner : ℕ} {entries : List Entry} {left : Bool} → StandsFor notes owner entries →
    IsTrue left ↔ (0 < length notes.running) → Decided (HasSessionsLeft owner entries)
left_is {notes} {owner} {entries} {left} stands any = (
  left,
  (
    λ told.
        let (booth, session, there) = (some_member notes.running).0 (any.0 told) in
        (booth, (session, (stands.running booth session).0 there)),
    λ (booth, (session, runs)).
        any.1 ((some_member notes.running).1 (booth, session, (stands.running booth session).1 runs)),
  ),
)

-- an override would cast with nothing committed where it says so and no commitment is noted
abbrev pub lacking_is : {notes : Notes} {owner : ℕ} {entries : List Entry} {lacking : Bool} {session : ℕ} {how : How} →
    StandsFor notes owner entries → IsTrue lacking ↔ ((how ≡ word.Cast) × (Contains notes.committed session → ⊥)) →
    Decided ((how ≡ word.Cast) × (IsCommitted entries session → ⊥))
lacking_is {notes} {owner} {entries} {lacking} {session} stands lacks = (
  lacking,
  (
    λ told. let (says, none) = lacks.0 told in (says, λ is. none ((stands.committed session).1 is)),
    λ (says, none). lacks.1 (says, λ at. none ((stands.committed session).0 at)),
  ),
)
