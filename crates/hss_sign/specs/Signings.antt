-- Calls of `sign` and of `sign_by` on one key, in any mixture.
use Rattle.std.specs.Prelude.{◌≡◌, ◌↔◌, ℕ, ◌+◌, ◌^◌, ◌≤◌, List, [], ◌∷◌, ◌++◌, All, length, map, ⊤}
use Rattle.std.specs.Prelude.{Result, IfOk, IsErrOf, OnErr, OnOk}
use Rattle.std.specs.Global.{Vec}
use Rattle.std.specs.List.{range_with_len}
use Rattle.lms_sign.specs.Calls.{accepted}
use Rattle.hss_sign.specs.declared.secret.HssFault.{HssFault}
use Rattle.hss_sign.specs.declared.secret.HssFault.TheVariants.{Spent}
use Rattle.hss_sign.specs.Calls.{EachOnce, IsHssAnswer, hss_used, leaves_of}
use Rattle.hss_sign.specs.Signs.{leaves_in}
use Rattle.hss_sign.specs.TwoLevels.{TwoLevelSecret}

-- a call: its message, its answer, and the key after it
pub record Signing : Type 0 where
  pub message : List ℕ
  pub answer : Result (Vec ℕ) HssFault
  pub after : TwoLevelSecret

-- a call of `sign` or `sign_by` on the key: its answer, the leaves that its signature names, and what
-- it uses up
pub record IsSigningBy (key : TwoLevelSecret) (call : Signing) : Type 0 where
  pub answered : IsHssAnswer key call.message call.answer
  pub leaves : IfOk call.answer (λ s. leaves_in key.kind key.top s.items ≡ leaves_of key.low key.next)
  pub used : OnOk call.answer (call.after ≡ hss_used key 1)
  pub refused : OnErr call.answer (call.after ≡ key)

-- such calls one after another, each on the key as the one before left it
abbrev pub AreSigningsBy : TwoLevelSecret → List Signing → Type 0
AreSigningsBy key [] = ⊤
AreSigningsBy key (call ∷ calls) = IsSigningBy key call × AreSigningsBy call.after calls

-- the signatures that the calls gave, in order
abbrev pub signatures_of : List Signing → List (List ℕ)
signatures_of calls = map (λ s. s.items) (accepted (map (λ call. call.answer) calls))

-- over any calls, the signatures are made with the leaves of the key's next number, the number after
-- it, and so on, each by one more than the last
abbrev pub NumbersRiseByOne : Type 0
NumbersRiseByOne =
    (key : TwoLevelSecret) (calls : List Signing) → AreSigningsBy key calls →
    map (leaves_in key.kind key.top) (signatures_of calls)
    ≡ map (leaves_of key.low) (range_with_len key.next (length (signatures_of calls)))

-- over any calls, no two signatures are made with the same leaf of the same low tree
abbrev pub LeavesSignOnce : Type 0
LeavesSignOnce =
    (key : TwoLevelSecret) (calls : List Signing) → AreSigningsBy key calls →
    EachOnce (map (leaves_in key.kind key.top) (signatures_of calls))

-- a call is refused as spent exactly if the signatures before it used up the last number
abbrev pub SpentExactlyAfterTheLast : Type 0
SpentExactlyAfterTheLast =
    (key : TwoLevelSecret) (before : List Signing) (call : Signing) (more : List Signing) →
    AreSigningsBy key (before ++ call ∷ more) →
    IsErrOf call.answer Spent ↔ (key.next + length (signatures_of before) ≡ 2 ^ (key.top + key.low))

-- of a key that isn't past its last number, as no `HssSecret` is, there are no more signatures than
-- numbers left, and once these are used up every further call is refused as spent
abbrev pub NoneAfterTheLast : Type 0
NoneAfterTheLast =
    (key : TwoLevelSecret) (before more : List Signing) → key.next ≤ 2 ^ (key.top + key.low) →
    AreSigningsBy key (before ++ more) →
    (key.next + length (signatures_of before) ≤ 2 ^ (key.top + key.low))
    × (key.next + length (signatures_of before) ≡ 2 ^ (key.top + key.low) →
    All (λ call. IsErrOf call.answer Spent) more)
