-- What was lost before a sweep and in it: each loss keeps its cause, in whatever order losses are
-- reported.
use Rattle.finished_floor.proofs.Arriving.{is_of_parts, itself}
use Rattle.finished_floor.proofs.Grown.{are_placed, count_more, held_still, log_is, longer, machines_still, now_at}
use Rattle.finished_floor.proofs.{Grown.sent_more, Grown.sent_still, Imports.All-contains}
use Rattle.finished_floor.proofs.Imports.{and_parts, ap, AreLostAsScripted, AreMachinesOf, ArePlaced, AreScripted}
use Rattle.finished_floor.proofs.Imports.{arith, Bool, cases_lt, Contains, Contains-append_cases, Contains-append_left}
use Rattle.finished_floor.proofs.Imports.{Contains-get_or, Contains-permutation, count_sent, false, filter}
use Rattle.finished_floor.proofs.Imports.{filter-append, get_or, HaveGrown, history, inl, inr, is_before_link}
use Rattle.finished_floor.proofs.Imports.{is_kept_off, is_of, IsCauseSoFar, IsLicensed, IsLossCause, IsOnWay}
use Rattle.finished_floor.proofs.Imports.{IsPermutation, IsPermutation-sym, IsWithinStop, length, length-append}
use Rattle.finished_floor.proofs.Imports.{LinkFull, List, list_any, list_any-append, list_any-IsPermutation}
use Rattle.finished_floor.proofs.Imports.{list_any_of, list_any_some, LogFull, Loss, LossWhy, MachineState, nat_lt, not}
use Rattle.finished_floor.proofs.Imports.{put_before, refl, SameDigest, Script, Scripted, SealedEntry, sent, Some, sym}
use Rattle.finished_floor.proofs.Imports.{ToStopped, true, world_of, ℕ, ◌&&◌, ◌++◌, ◌<◌, ◌||◌, ◌∙◌, ◌≡◌, ◌≤◌}
use Rattle.finished_floor.proofs.{Lists.filter_same, Numbers.numbers_below, Places.legal_at}
use Rattle.std.specs.Prelude.{All}

-- what is true of each member is true of all
pub all_by : {X : Type 0} (P : X → Type 0) (xs : List X) → ((x : X) → Contains xs x → P x) → All P xs
all_by P xs each k d lt = each (get_or xs k d) (Contains-get_or xs k d lt)

module _ (script : Script) (ms ns : List MachineState) (of : AreMachinesOf script ms) (grown : HaveGrown ms ns)
    (placed : ArePlaced ns) (before lost after told : List Loss) (losses : after ≡ before ++ lost)
    (moved : IsPermutation after told) (only : All (IsOnWay ms) before)
    (causes : All (λ loss. IsCauseSoFar script ms before loss loss.why) before)
    (scripted : AreLostAsScripted script ms before) (licensed : All (IsLicensed script.loses ns) lost) where
  -- the machines are the script's still
  now_of : AreMachinesOf script ns
  now_of = machines_still ms ns grown script of placed

  -- what holds of what was lost before and since holds of what is reported
  told_all : (P : Loss → Type 0) → ((l : Loss) → Contains before l → P l) → ((l : Loss) → Contains lost l → P l) →
      All P told
  told_all P old new =
      all_by P told (λ l c. elim (Contains-append_cases before lost l
      (rw losses at (Contains-permutation told after l (IsPermutation-sym after told moved) c)))
      [ inl there ↦ old l there | inr there ↦ new l there ])

  -- each loss that is reported is on a way between two machines
  pub all_on_way : All (IsOnWay ns) told
  all_on_way =
      let count = grown.count in
      told_all (IsOnWay ns)
      (λ l c. let is = All-contains (IsOnWay ms) before l only c in
      let more = count_more ms ns grown l.from in
      record { from = omega arith; to = omega arith; other = is.other; number = omega arith })
      (λ l c. let is = All-contains (IsLicensed script.loses ns) lost l licensed c in
      record { from = is.from; to = is.to; other = is.other; number = is.number })

  module _ (from number to : ℕ) (sent_then : number < count_sent ms from) where
    -- the loss kept the entry off the link
    abbrev is_off : Loss → Bool
    is_off loss = is_of from number to loss && is_before_link loss.why

    -- of what was sent before, the sweep kept nothing off a link that wasn't
    scripted_before : (l : Loss) → IsLicensed script.loses ns l → is_of from number to l ≡ true → (why : LossWhy) →
        IsLossCause script.loses ns l why → is_before_link why ≡ true → is_kept_off before from number to ≡ true
    scripted_before l is of_this Scripted cause off =
        let (f, n, t) = is_of_parts l from number to of_this in
        let this : Loss = record { from = l.from; number = l.number; to = l.to; why = Scripted } in
        list_any_of is_off before this (scripted l.from l.number l.to (rw (← grown.count) is.from)
        (rw (← grown.count) is.to) is.other (rw (f, n) sent_then) cause) (rw (itself this from number to f n t))
    scripted_before l is of_this LinkFull cause off = absurd cause
    scripted_before l is of_this ToStopped cause off = cc
    scripted_before l is of_this LogFull cause off = cc
    scripted_before l is of_this SameDigest cause off = cc

    -- so after the sweep an entry that was sent before is kept off the link exactly when it was
    kept_off_same : is_kept_off told from number to ≡ is_kept_off before from number to
    kept_off_same =
        sym (list_any-IsPermutation is_off after told moved) ∙ ap (list_any is_off) losses
        ∙ list_any-append is_off before lost ∙ by _ (list_any is_off lost) (λ off.
        let (l, there, kept) = list_any_some is_off lost off in
        let is = All-contains (IsLicensed script.loses ns) lost l licensed there in
        let parts = and_parts (is_of from number to l) (is_before_link l.why) kept in
        scripted_before l is parts.0 l.why is.cause parts.1)
      where
        -- what adds nothing
        by : (a b : Bool) → (b ≡ true → a ≡ true) → (a || b) ≡ a
        by true b adds = refl
        by false true adds = sym (adds refl)
        by false false adds = refl

  -- so as many entries with lower numbers were put on a link
  put_more : (from number to : ℕ) → length (put_before ms before from number to)
      ≤ length (put_before ns told from number to)
  put_more from number to =
      let es : List SealedEntry = sent (history (world_of ms) from) in
      let (later, grows) = sent_more ms ns grown from in
      let q : SealedEntry → Bool =
      λ e. nat_lt e.entry.number number && not (is_kept_off told from e.entry.number to) in
      let same : filter q es ≡ put_before ms before from number to =
      filter_same q _ es (λ e c. ap (λ b. nat_lt e.entry.number number && not b) (kept_off_same from e.entry.number to
      (numbers_below from _ (legal_at ms (are_placed script ms of) from) e c).0)) in
      let k = ap length (ap (filter q) grows ∙ filter-append q es later) in
      let both = length-append (filter q es) (filter q later) in
      let n = ap length same in
      omega arith

  -- a machine that has as many events as it stops at stays so
  stop_still : (m n : MachineState) → m.stop ≡ Some (length m.events) → n.stop ≡ m.stop →
      length m.events ≤ length n.events → IsWithinStop n.stop (length n.events) → n.stop ≡ Some (length n.events)
  stop_still m n at same low within =
      let high : length n.events ≤ length m.events = rw (same ∙ at) at within in
      same ∙ at ∙ ap (λ (i : ℕ). Some i) (omega arith)

  -- a cause stays
  cause_still : (l : Loss) (why : LossWhy) → IsCauseSoFar script ms before l why → IsCauseSoFar script ns told l why
  cause_still l Scripted cause = cause
  cause_still l LinkFull (named, was) = let more = put_more l.from l.number l.to in (named, omega arith)
  cause_still l ToStopped (m, is, stopped) =
      let (n, there, grows) = now_at ms ns grown l.to m is in
      (n, there, stop_still m n stopped grows.stop (longer m n grows) (placed l.to n there).machine.stop)
  cause_still l LogFull (m, is, unstopped, full) =
      let (n, there, grows) = now_at ms ns grown l.to m is in
      let low = longer m n grows in
      let within = (placed l.to n there).machine.within in
      let log = log_is script l.to n (now_of.each l.to n there) in
      let same : length n.events ≡ length m.events = omega arith in
      (n, there, (λ at. unstopped (sym grows.stop ∙ at ∙ ap (λ (k : ℕ). Some k) same)), omega arith)
  cause_still l SameDigest (m, is, (entry, was_sent, numbered, borne)) =
      let (n, there, grows) = now_at ms ns grown l.to m is in
      (n, there, (entry, sent_still ms ns grown l.from entry was_sent, numbered, held_still m n _ grows borne))

  -- and what is lost in the sweep has one
  cause_new : (l : Loss) (why : LossWhy) → IsLossCause script.loses ns l why → IsCauseSoFar script ns told l why
  cause_new l Scripted cause = cause
  cause_new l LinkFull cause = absurd cause
  cause_new l ToStopped cause = cause
  cause_new l LogFull (m, is, unstopped, full) =
      (m, is, unstopped, full ∙ log_is script l.to m (now_of.each l.to m is))
  cause_new l SameDigest cause = cause

  -- each loss that is reported has its cause
  pub all_caused : All (λ loss. IsCauseSoFar script ns told loss loss.why) told
  all_caused =
      told_all (λ loss. IsCauseSoFar script ns told loss loss.why)
      (λ l c. cause_still l l.why
      (All-contains (λ loss. IsCauseSoFar script ms before loss loss.why) before l causes c))
      (λ l c. cause_new l l.why (All-contains (IsLicensed script.loses ns) lost l licensed c).cause)

  -- each entry that a line names is lost so
  pub all_scripted : AreScripted script.loses ms ns after → AreLostAsScripted script ns told
  all_scripted since from number to lf lt differs low named =
      Contains-permutation after told (record { from = from; number = number; to = to; why = Scripted }) moved
      (elim (cases_lt number (count_sent ms from)) [
        | inl then ↦ rw losses (Contains-append_left before lost _
            (scripted from number to (rw (← grown.count) lf) (rw (← grown.count) lt) differs then named))
        | inr later ↦ since from number to lf lt differs later low named
      ])
