-- The rules of a role.
use Rattle.polling_world.proofs.Imports.{◌≡◌, ◌∙◌, ℕ, List, [], ◌∷◌, ◌++◌, refl, sym, ap, inl, inr, IsTrue, ◌↔◌}
use Rattle.polling_world.proofs.Imports.{one_first, Deed, Cast, Challenge, Entry, SealedEntry, Event, Role, Supervisor}
use Rattle.polling_world.proofs.Imports.{Booth, IsFirstOf, BoothNot, SupervisorNot, Rules, StandFor, LeftWhy}
use Rattle.polling_world.proofs.Imports.{MachineState, needs_whole, RoleRefuses, IsWholeHistory, entries_in, Refuses}
use Rattle.polling_world.proofs.Imports.{IsGoing, IsWhy}
use Rattle.std.specs.Prelude.{Result, Ok, Err}
use Rattle.booth_core.specs.Table as booth
use Rattle.supervisor_core.specs.Table as supervisor
use Rattle.supervisor_core.specs.Notes as supervisor_notes
use Rattle.supervisor_core.specs.State as supervisor_state
use Rattle.booth_core.specs.Notes as booth_notes
use Rattle.booth_core.specs.State as booth_state
use Rattle.polling_world.specs.declared.rules.Rules.TheVariants as rules
use Rattle.polling_world.specs.declared.left.LeftWhy.TheVariants as left

-- ---- one answer

-- an answer of a role's rules as a machine's
abbrev told : {Cause : Type 0} → (Cause → LeftWhy) → Result (Unit {0}) Cause → Result (Unit {0}) LeftWhy
told cause (Ok done) = Ok done
told cause (Err why) = Err (cause why)

-- what a supervisor's rules answer is an answer of theirs
supervisor_said : (owner : ℕ) (h : List (Event SealedEntry)) (deed : Deed) (answer : Result (Unit {0}) LeftWhy) →
    RoleRefuses Supervisor owner h deed answer → (r : Result (Unit {0}) SupervisorNot)
    × supervisor.Refuses owner (entries_in h) deed r × (answer ≡ told (λ why. left.SupervisorNot why) r)
supervisor_said owner h deed (Ok done) says = (Ok done, says, refl)
supervisor_said owner h deed (Err (left.SupervisorNot why)) says = (Err why, says, refl)
supervisor_said owner h deed (Err _) says = absurd says

-- and so is what a booth's answer
booth_said : (owner : ℕ) (h : List (Event SealedEntry)) (deed : Deed) (answer : Result (Unit {0}) LeftWhy) →
    RoleRefuses Booth owner h deed answer → (r : Result (Unit {0}) BoothNot)
    × booth.Refuses owner (entries_in h) (IsWholeHistory h) deed r × (answer ≡ told (λ why. left.BoothNot why) r)
booth_said owner h deed (Ok done) says = (Ok done, says, refl)
booth_said owner h deed (Err (left.BoothNot why)) says = (Err why, says, refl)
booth_said owner h deed (Err _) says = absurd says

-- the rules give one answer, whatever the role
pub one_rule : (role : Role) (owner : ℕ) (h : List (Event SealedEntry)) (deed : Deed)
    (a b : Result (Unit {0}) LeftWhy) → RoleRefuses role owner h deed a → RoleRefuses role owner h deed b → a ≡ b
one_rule Supervisor owner h deed a b says also =
    let (r, one, is) = supervisor_said owner h deed a says in
    let (s, two, same) = supervisor_said owner h deed b also in
    is ∙ ap (told left.SupervisorNot) (one_first (supervisor.causes_of owner (entries_in h) deed) r s one two)
    ∙ sym same
one_rule Booth owner h deed a b says also =
    let (r, one, is) = booth_said owner h deed a says in
    let (s, two, same) = booth_said owner h deed b also in
    is ∙ ap (told left.BoothNot)
    (one_first (booth.causes_of owner (entries_in h) (IsWholeHistory h) deed) r s one two) ∙ sym same

-- where the machine hasn't stopped, a cause that its rules give is the first against the deed
pub refused_why : (m : MachineState) (deed : Deed) (why : LeftWhy) → IsGoing m →
    Refuses m.config m.events deed (Err why) → IsWhy m deed why
refused_why m deed why going refused = by m.config.role why refused refused
  where
    -- the same by the role and the cause
    by : (role : Role) (why : LeftWhy) → RoleRefuses role m.config.number m.events deed (Err why) →
        Refuses m.config m.events deed (Err why) → IsWhy m deed why
    by Supervisor (left.SupervisorNot why) says refused = record { going = going; refused = refused }
    by Supervisor _ says refused = absurd says
    by Booth (left.BoothNot why) says refused = record { going = going; refused = refused }
    by Booth _ says refused = absurd says

-- ---- whether the log is whole

-- the last cause of a row by another fact that holds alike
last_alike : {Cause : Type 0} (A B : Type 0) (row : List (Type 0 × Cause)) (last : Cause)
    (answer : Result (Unit {0}) Cause) → A ↔ B → IsFirstOf (row ++ ((A → ⊥), last) ∷ []) answer →
    IsFirstOf (row ++ ((B → ⊥), last) ∷ []) answer
last_alike A B [] last answer same (inl (lacks, is)) = inl (λ b. lacks (same.1 b), is)
last_alike A B [] last answer same (inr (whole, is)) = inr (λ lacks. whole (λ a. lacks (same.0 a)), is)
last_alike A B (cause ∷ row) last answer same (inl first) = inl first
last_alike A B (cause ∷ row) last answer same (inr (not, later)) =
    inr (not, last_alike A B row last answer same later)

-- what a booth's rules answer goes by whether the log is whole only where the deed needs that
pub same_whole : (A B : Type 0) (owner : ℕ) (entries : List Entry) (deed : Deed) (answer : Result (Unit {0}) BoothNot) →
    (IsTrue (needs_whole deed) → A ↔ B) → booth.Refuses owner entries A deed answer →
    booth.Refuses owner entries B deed answer
same_whole A B owner entries (Cast session ballot) answer same first =
    last_alike A B (_ ∷ _ ∷ _ ∷ _ ∷ []) _ answer (same refl) first
same_whole A B owner entries (Challenge session ballot) answer same first =
    last_alike A B (_ ∷ _ ∷ _ ∷ _ ∷ []) _ answer (same refl) first
same_whole A B owner entries _ answer same first = first

-- ---- one entry more

-- the supervisor's rules with one entry more
pub supervisor_noted : (state : Rules) (before after : supervisor_notes.Notes) (entry : Entry) →
    state ≡ rules.Supervisor before →
    ((owner : ℕ) (entries : List Entry) → supervisor_state.StandsFor before owner entries →
    supervisor_state.StandsFor after owner (entries ++ entry ∷ [])) →
    (role : Role) (owner : ℕ) (entries : List Entry) → StandFor state role owner entries →
    StandFor (rules.Supervisor after) role owner (entries ++ entry ∷ [])
supervisor_noted state before after entry is kept Supervisor owner entries stand = kept owner entries (rw is at stand)
supervisor_noted state before after entry is kept Booth owner entries stand = absurd (rw is at stand)

-- a booth's rules with one entry more
pub booth_noted : (state : Rules) (before after : booth_notes.Notes) (entry : Entry) → state ≡ rules.Booth before →
    ((owner : ℕ) (entries : List Entry) → booth_state.StandsFor before owner entries →
    booth_state.StandsFor after owner (entries ++ entry ∷ [])) →
    (role : Role) (owner : ℕ) (entries : List Entry) → StandFor state role owner entries →
    StandFor (rules.Booth after) role owner (entries ++ entry ∷ [])
booth_noted state before after entry is kept Supervisor owner entries stand = absurd (rw is at stand)
booth_noted state before after entry is kept Booth owner entries stand = kept owner entries (rw is at stand)
