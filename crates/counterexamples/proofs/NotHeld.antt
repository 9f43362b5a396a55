-- What small places don't hold, as tests of all that is held compute.
use Rattle.counterexamples.proofs.Imports.{◌≡◌, ◌≢◌, ℕ, Bool, true, false, List, sym, ap, refl, inr, ◌∙◌, ◌==◌, Ok}
use Rattle.counterexamples.proofs.Imports.{Contains, list_any, false≢true, eq-eqb, list_any-from_Any, Deed, Decides}
use Rattle.counterexamples.proofs.Imports.{SealedEntry, node_of_sealed, has_digest, IsBorneIn, list_any_of}
use Rattle.counterexamples.proofs.Imports.{has_digest_of, HoldsSome, HoldsOwn, holds_own, own_decides, holds_decides}
use Rattle.counterexamples.proofs.Imports.{is_opened, opened_decides, is_closed, closed_decides, authorises}
use Rattle.counterexamples.proofs.Imports.{authorises_decides, IsBusy, booth_of}
use Rattle.entry_format.specs.declared.entry.Entry.{Entry}
use Rattle.entry_format.specs.declared.deed.Deed.TheVariants as deed
use Rattle.supervisor_core.specs.Table as supervisor

-- no member is such where a test of them all says so
pub none_such : {T : Type 0} (test : T → Bool) (es : List T) → list_any test es ≡ false → (e : T) → Contains es e →
    test e ≢ true
none_such test es none e c such = false≢true (sym none ∙ list_any_of test es e c such)

-- no entry has a digest that a test of all entries denies
pub none_borne : (es : List SealedEntry) (d : List ℕ) → has_digest node_of_sealed es d ≡ false →
    IsBorneIn node_of_sealed es d → ⊥
none_borne es d none borne = false≢true (sym none ∙ has_digest_of node_of_sealed es d borne)

-- no own entry with such a deed is held, and none of any maker
pub no_own : {test : Deed → Bool} {IsSuch : Deed → Type 0} → ((d : Deed) → Decides (test d) (IsSuch d)) →
    (owner : ℕ) (es : List Entry) → holds_own owner test es ≡ false → HoldsOwn owner es IsSuch → ⊥
no_own {test = test} {IsSuch = IsSuch} decides owner es none held =
    false≢true (sym none ∙ (own_decides owner test IsSuch decides es).1 held)

pub no_any : {test : Deed → Bool} {IsSuch : Deed → Type 0} → ((d : Deed) → Decides (test d) (IsSuch d)) →
    (es : List Entry) → list_any (λ entry. test entry.deed) es ≡ false → HoldsSome es IsSuch → ⊥
no_any {test = test} {IsSuch = IsSuch} decides es none held =
    false≢true (sym none ∙ (holds_decides test IsSuch decides es).1 held)

-- a booth that no entry names isn't busy
not_busy : (booth owner : ℕ) (es : List Entry) → list_any (λ entry. booth_of entry.deed == booth) es ≡ false →
    IsBusy owner es booth → ⊥
not_busy booth owner es none (n, ((k, x, within, is, (own, names)), left)) =
    let test : Entry → Bool = λ entry. booth_of entry.deed == booth in
    let yes : test x ≡ true = eq-eqb (booth_of x.deed) booth (ap booth_of names) in
    false≢true (sym none ∙ list_any-from_Any test es (k, x, within, is, yes))

-- a supervisor that has opened and hasn't closed may authorise a new session for a booth that no entry names
pub may_authorise : (booth n owner : ℕ) (es : List Entry) → holds_own owner is_opened es ≡ true →
    holds_own owner is_closed es ≡ false → holds_own owner (authorises n) es ≡ false →
    list_any (λ entry. booth_of entry.deed == booth) es ≡ false →
    supervisor.Refuses owner es (deed.Authorise booth n) (Ok tt)
may_authorise booth n owner es opened closed used busy = inr (
  λ unopened. unopened ((own_decides owner is_opened (λ d. d ≡ deed.Opened) opened_decides es).0 opened),
  inr (
    no_own closed_decides owner es closed,
    inr (no_own (authorises_decides n) owner es used, inr (not_busy booth owner es busy, refl)),
  ),
)
