-- Signing again and again.
use Rattle.std.specs.Prelude.{◌≡◌, ◌≢◌, ◌↔◌, ℕ, ◌+◌, ◌/◌, ◌%◌, ◌^◌, ◌<◌, List, [], length, take, slice_index_or}
use Rattle.std.specs.Prelude.{Result, Err, IfOk, IsErrOf}
use Rattle.std.specs.Global.{Vec}
use Rattle.lms_sign.specs.Calls.{accepted}
use Rattle.hss_sign.specs.declared.secret.HssFault.{HssFault}
use Rattle.hss_sign.specs.declared.secret.HssFault.TheVariants.{Spent, Memory}
use Rattle.hss_sign.specs.TwoLevels.{TwoLevelSecret, hss_signed}

-- the key when it has made n signatures more
abbrev pub hss_used : TwoLevelSecret → ℕ → TwoLevelSecret
hss_used s n = record s { next = s.next + n }

-- the leaves that make signature n: those of the top tree and of the low tree
abbrev pub leaves_of : ℕ → ℕ → ℕ × ℕ
leaves_of low n = (n / 2 ^ low, n % 2 ^ low)

-- no pair is in the list twice
abbrev pub EachOnce : List (ℕ × ℕ) → Type 0
EachOnce pairs = (j k : ℕ) → j < k → k < length pairs →
    slice_index_or pairs j (0, 0) ≢ slice_index_or pairs k (0, 0)

-- what the key may answer when it is to sign the message
pub record IsHssAnswer (s : TwoLevelSecret) (message : List ℕ) (answer : Result (Vec ℕ) HssFault) : Type 0 where
  pub signed : IfOk answer (λ signature. signature.items ≡ hss_signed s s.next message)
  pub spent : IsErrOf answer Spent ↔ (s.next ≡ 2 ^ (s.top + s.low))

-- answer k is one to message k, of the key that has made the accepted signatures before it
abbrev pub HssAnswersEach : TwoLevelSecret → List (List ℕ) → List (Result (Vec ℕ) HssFault) → Type 0
HssAnswersEach s messages answers = (k : ℕ) → k < length answers →
    IsHssAnswer (hss_used s (length (accepted (take k answers)))) (slice_index_or messages k [])
    (slice_index_or answers k (Err Memory))
