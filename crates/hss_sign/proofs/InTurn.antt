-- Calls on one key, one after another.
use Rattle.hss_sign.proofs.Answered.{leaves_differ}
use Rattle.hss_sign.specs.{Calls.EachOnce, Calls.hss_used, Calls.leaves_of, Signings.AreSigningsBy}
use Rattle.hss_sign.specs.Signings.{LeavesSignOnce, NoneAfterTheLast, NumbersRiseByOne, signatures_of, Signing}
use Rattle.hss_sign.specs.{Signings.SpentExactlyAfterTheLast, Signs.leaves_in, TwoLevels.TwoLevelSecret}
use Rattle.hss_sign.specs.declared.secret.HssFault.{HssFault, TheVariants.Spent}
use Rattle.lms_sign.specs.Calls.{accepted}
use Rattle.std.proofs.Common.{[], All, ap, arith, Err, IfOk, inl, inr, IsErrOf, length, List, map, Ok, OnErr, OnOk}
use Rattle.std.proofs.Common.{refl, Result, subst, sym, ℕ, ◌+◌, ◌<◌, ◌^◌, ◌↔◌, ◌∙◌, ◌∷◌, ◌≡◌, ◌≤◌}
use Rattle.std.proofs.lemmas.{Bool.cases_lt, List.Elements.All-cons, List.Elements.All-nil}
use Rattle.std.specs.{Global.Vec, List.range_with_len}

-- what the answers that weren't refused gave
abbrev given : List (Result (Vec ℕ) HssFault) → List (List ℕ)
given answers = map (λ s. s.items) (accepted answers)

-- signatures with the leaves of the key's next numbers
abbrev AreInTurn : TwoLevelSecret → List (List ℕ) → Type 0
AreInTurn key signatures =
    map (leaves_in key.kind key.top) signatures
    ≡ map (leaves_of key.low) (range_with_len key.next (length signatures))

-- one answer before others that are in turn
one_before : (key after : TwoLevelSecret) (answer : Result (Vec ℕ) HssFault) (later : List (Result (Vec ℕ) HssFault))
    → IfOk answer (λ s. leaves_in key.kind key.top s.items ≡ leaves_of key.low key.next)
    → OnOk answer (after ≡ hss_used key 1) → OnErr answer (after ≡ key) → AreInTurn after (given later)
    → AreInTurn key (given (answer ∷ later))
one_before key after (Ok s) later leaves used refused turn =
    let rest : AreInTurn (hss_used key 1) (given later) =
    subst (λ (k : TwoLevelSecret). AreInTurn k (given later)) used turn in
    ap (λ (first : ℕ × ℕ). first ∷ map (leaves_in key.kind key.top) (given later)) leaves
    ∙ ap (λ (pairs : List (ℕ × ℕ)). leaves_of key.low key.next ∷ pairs) rest
one_before key after (Err f) later leaves used refused turn =
    subst (λ (k : TwoLevelSecret). AreInTurn k (given later)) refused turn

pub numbers_rise_by_one : NumbersRiseByOne
numbers_rise_by_one key [] on = refl
numbers_rise_by_one key (call ∷ calls) (is, on) =
    one_before key call.after call.answer (map (λ c. c.answer) calls) is.leaves is.used is.refused
    (numbers_rise_by_one call.after calls on)

pub leaves_sign_once : LeavesSignOnce
leaves_sign_once key calls on =
    subst EachOnce (sym (numbers_rise_by_one key calls on))
    (leaves_differ key.low key.next (length (signatures_of calls)))

-- a call leaves the number of all leaves, and the number that comes after all the signatures
counted : (key after : TwoLevelSecret) (answer : Result (Vec ℕ) HssFault) (later : List (Result (Vec ℕ) HssFault))
    → OnOk answer (after ≡ hss_used key 1) → OnErr answer (after ≡ key)
    → (after.top + after.low ≡ key.top + key.low)
    × (after.next + length (given later) ≡ key.next + length (given (answer ∷ later)))
counted key after (Ok s) later used refused =
    let next : after.next ≡ key.next + 1 = ap (λ (k : TwoLevelSecret). k.next) used in
    let n : ℕ = length (given later) in
    (ap (λ (k : TwoLevelSecret). k.top + k.low) used, omega (arith, next))
counted key after (Err f) later used refused = (
  ap (λ (k : TwoLevelSecret). k.top + k.low) refused,
  ap (λ (k : TwoLevelSecret). k.next + length (given later)) refused,
)

pub spent_exactly : SpentExactlyAfterTheLast
spent_exactly key [] call more (is, on) =
    let none : key.next ≡ key.next + 0 = omega arith in
    subst (λ (n : ℕ). IsErrOf call.answer Spent ↔ (n ≡ 2 ^ (key.top + key.low))) none is.answered.spent
spent_exactly key (first ∷ before) call more (is, on) =
    let after = first.after in
    let (all, number) = counted key after first.answer (map (λ c. c.answer) before) is.used is.refused in
    subst (λ (n : ℕ). IsErrOf call.answer Spent ↔ (n ≡ 2 ^ (key.top + key.low))) number
    (subst (λ (h : ℕ). IsErrOf call.answer Spent ↔ (after.next + length (signatures_of before) ≡ 2 ^ h)) all
    (spent_exactly after before call more on))

-- each call is refused as spent
abbrev AreSpent : List Signing → Type 0
AreSpent calls = All (λ call. IsErrOf call.answer Spent) calls

-- a spent key signs no more
all_spent : (key : TwoLevelSecret) (calls : List Signing) → key.next ≡ 2 ^ (key.top + key.low)
    → AreSigningsBy key calls → AreSpent calls
all_spent key [] full on = All-nil (λ call. IsErrOf call.answer Spent)
all_spent key (call ∷ calls) full (is, on) =
    let spent : call.answer ≡ Err Spent = is.answered.spent.1 full in
    let same : call.after ≡ key =
    subst (λ (r : Result (Vec ℕ) HssFault). OnErr r (call.after ≡ key)) spent is.refused in
    let left : call.after.next ≡ 2 ^ (call.after.top + call.after.low) =
    subst (λ (k : TwoLevelSecret). k.next ≡ 2 ^ (k.top + k.low)) (sym same) full in
    All-cons (λ call. IsErrOf call.answer Spent) call calls spent (all_spent call.after calls left on)

-- a key that isn't past its last number isn't after a call
still_within : (key after : TwoLevelSecret) (answer : Result (Vec ℕ) HssFault)
    → (IsErrOf answer Spent ↔ (key.next ≡ 2 ^ (key.top + key.low)))
    → OnOk answer (after ≡ hss_used key 1) → OnErr answer (after ≡ key) → key.next ≤ 2 ^ (key.top + key.low)
    → after.next ≤ 2 ^ (after.top + after.low)
still_within key after (Ok s) spent used refused within =
    let below : key.next < 2 ^ (key.top + key.low) =
    elim (cases_lt key.next (2 ^ (key.top + key.low))) [
      | inl lt ↦ lt
      | inr ge ↦ (
          let full : key.next ≡ 2 ^ (key.top + key.low) = omega arith in
          let no : Ok s ≡ Err Spent = spent.1 full in
          cc)
    ] in
    subst (λ (k : TwoLevelSecret). k.next ≤ 2 ^ (k.top + k.low)) (sym used) (omega (arith, below))
still_within key after (Err f) spent used refused within =
    subst (λ (k : TwoLevelSecret). k.next ≤ 2 ^ (k.top + k.low)) (sym refused) within

-- a number isn't past the last, and is the last only if the calls after it are refused as spent
abbrev EndsAt : ℕ → ℕ → List Signing → Type 0
EndsAt n most more = (n ≤ most) × (n ≡ most → AreSpent more)

pub none_after : NoneAfterTheLast
none_after key [] more within on =
    let none : key.next ≡ key.next + 0 = omega arith in
    subst (λ (n : ℕ). EndsAt n (2 ^ (key.top + key.low)) more) none (within, λ full. all_spent key more full on)
none_after key (call ∷ before) more within (is, on) =
    let after = call.after in
    let (all, number) = counted key after call.answer (map (λ c. c.answer) before) is.used is.refused in
    let inside = still_within key after call.answer is.answered.spent is.used is.refused within in
    subst (λ (n : ℕ). EndsAt n (2 ^ (key.top + key.low)) more) number
    (subst (λ (h : ℕ). EndsAt (after.next + length (signatures_of before)) (2 ^ h) more) all
    (none_after after before more inside on))
