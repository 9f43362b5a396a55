-- The causes of losses: they stay as a station goes on, and new losses have one.
use Rattle.machine_floor.proofs.Imports.{◌≡◌, ℕ, ◌<◌, ◌≤◌, List, ◌++◌, length, ap, ◌∙◌, arith, get_or, Some, All}
use Rattle.machine_floor.proofs.Imports.{OutView, Lose, SealedEntry, filter_all, Event, going_on, held_more}
use Rattle.machine_floor.proofs.Imports.{is_scripted, Loss, LossWhy, LinkFull, LogFull, SameDigest, Scripted, ToStopped}
use Rattle.machine_floor.proofs.Imports.{IsWay, IsInCause, IsOutCause, numbered_below, MachineState, with_event}
use Rattle.machine_floor.proofs.Imports.{IsGoing, length-append, lt-ltb, All-contains, filter-append, nat_lt}

-- an end that puts on a link
abbrev pub End : Type 0
End = OutView SealedEntry

-- more entries on a link leave as many with lower numbers
below_grows : (number : ℕ) (xs ys : List SealedEntry) →
    length (numbered_below number xs) ≤ length (numbered_below number (xs ++ ys))
below_grows number xs ys =
    let e = ap length (filter-append (λ (e : SealedEntry). nat_lt e.entry.number number) xs ys) in
    let l = length-append (numbered_below number xs) (numbered_below number ys) in
    omega arith

-- where all have lower numbers, they are as many as were put
below_all : (number : ℕ) (xs : List SealedEntry) → All (λ (x : SealedEntry). x.entry.number < number) xs →
    length (numbered_below number xs) ≡ length xs
below_all number xs all =
    ap length (filter_all (λ (e : SealedEntry). nat_lt e.entry.number number) xs
    (λ x c. lt-ltb x.entry.number number (All-contains (λ (x : SealedEntry). x.entry.number < number) xs x all c)))

-- a cause on a link out stays when more is put there
pub out_stays : (loses : List Lose) (link : ℕ) (outs new : List End) (loss : Loss) (why : LossWhy) →
    ((d : End) → (more : List SealedEntry) × ((get_or new loss.to d).put ≡ (get_or outs loss.to d).put ++ more)) →
    IsOutCause loses link outs loss why → IsOutCause loses link new loss why
out_stays loses link outs new loss Scripted grows cause = cause
out_stays loses link outs new loss LinkFull grows cause = (
  cause.0,
  λ d.
      let more = grows d in
      let was = cause.1 d in
      let kept = below_grows loss.number (get_or outs loss.to d).put more.0 in
      let now = ap (λ (l : List SealedEntry). length (numbered_below loss.number l)) more.1 in
      omega arith,
)
out_stays loses link outs new loss ToStopped grows cause = cause
out_stays loses link outs new loss LogFull grows cause = cause
out_stays loses link outs new loss SameDigest grows cause = cause

-- the lines name the loss as they name its entry
named : (loses : List Lose) (e : SealedEntry) (loss : Loss) → loss.from ≡ e.entry.maker →
    loss.number ≡ e.entry.number →
    is_scripted loses loss.from loss.number loss.to ≡ is_scripted loses e.entry.maker e.entry.number loss.to
named loses e loss from number =
    ap (λ m. is_scripted loses m loss.number loss.to) from
    ∙ ap (λ n. is_scripted loses e.entry.maker n loss.to) number

-- a new loss has the cause that its way gives
pub out_new : (loses : List Lose) (link : ℕ) (e : SealedEntry) (outs new : List End) (loss : Loss) (why : LossWhy)
    (some : End) → loss.from ≡ e.entry.maker → loss.number ≡ e.entry.number →
    ((d : End) → IsWay (is_scripted loses e.entry.maker e.entry.number loss.to) link e (get_or outs loss.to d)
    (get_or new loss.to d) (Some why)) →
    ((d : End) → All (λ (x : SealedEntry). x.entry.number < e.entry.number) (get_or outs loss.to d).put) →
    IsOutCause loses link new loss why
out_new loses link e outs new loss Scripted some from number way lower =
    named loses e loss from number ∙ (way some).0
out_new loses link e outs new loss LinkFull some from number way lower = (
  named loses e loss from number ∙ (way some).0,
  λ d.
      let full = (way d).1.full in
      let all = below_all e.entry.number (get_or outs loss.to d).put (lower d) in
      let put = ap (λ (l : List SealedEntry). length (numbered_below loss.number l)) (way d).1.put in
      let at = ap (λ n. length (numbered_below n (get_or outs loss.to d).put)) number in
      omega arith,
)
out_new loses link e outs new loss ToStopped some from number way lower = way some
out_new loses link e outs new loss LogFull some from number way lower = way some
out_new loses link e outs new loss SameDigest some from number way lower = way some

-- a cause on a link in stays when the machine goes on
pub in_stays : (m : MachineState) (x : Event SealedEntry) (y : SealedEntry) (why : LossWhy) → IsGoing m →
    length m.events < m.config.log → IsInCause m y why → IsInCause (with_event x m) y why
in_stays m x y Scripted going room cause = cause
in_stays m x y LinkFull going room cause = cause
in_stays m x y ToStopped going room cause = absurd (going_on m going cause)
in_stays m x y LogFull going room (unstopped, full) = absurd (omega (arith, room, full))
in_stays m x y SameDigest going room (g, in_h, same) = (g, held_more m.events x g in_h, same)
