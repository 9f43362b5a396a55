-- What the stations of a script leave together, once the links between them are finished.
use Rattle.machine_floor.proofs.Gathers.{gather_pair}
use Rattle.machine_floor.proofs.Imports.{[], All, All-contains, all_at, all_by, AllZip, and_from, and_parts, ap}
use Rattle.machine_floor.proofs.Imports.{AreEndsOf, AreGathered, AreLostAsScripted, AreNewStations, AreOnce, AreOnWay}
use Rattle.machine_floor.proofs.Imports.{AreRests, arith, arriving, Bool, by_of, cases_Bool, cases_lt, Contains}
use Rattle.machine_floor.proofs.Imports.{Contains-append_left, Contains-filter_cases, Contains-flat_map}
use Rattle.machine_floor.proofs.Imports.{Contains-flat_map_cases, Contains-get_or, Contains-head, Contains-later}
use Rattle.machine_floor.proofs.Imports.{Contains-sent_cases, Differ, differ_sym, element_at, Event, false, filter}
use Rattle.machine_floor.proofs.Imports.{filter_twice, flat_map, get-map, get-map_from, get_or, get_or_from_slice_get}
use Rattle.machine_floor.proofs.Imports.{got_from, history, history_of, inl, inr, InView, is_before_link, is_kept_off}
use Rattle.machine_floor.proofs.Imports.{is_lost, is_of, is_of_parts, is_scripted, IsBalanced, IsCauseSoFar, IsFresh}
use Rattle.machine_floor.proofs.Imports.{IsInCause, IsLegal, IsNewStation, IsOfEar, IsOfHand, IsOnWay, IsOutCause}
use Rattle.machine_floor.proofs.Imports.{IsStation, IsStopOf, itself, length, length-map, LinkFull, LinkView, List}
use Rattle.machine_floor.proofs.Imports.{list_any_of, list_any_some, LogFull, Lose, lose_lines_of, Loss, LossWhy}
use Rattle.machine_floor.proofs.Imports.{machine_of, MachineState, made_of, map, member_at, member_split, nat_lt}
use Rattle.machine_floor.proofs.Imports.{node_of_sealed, not, not-true, not_from_false, numbered_below, numbers_below}
use Rattle.machine_floor.proofs.Imports.{once_append, Option, or_cases, or_left, or_right, other_from, other_to}
use Rattle.machine_floor.proofs.Imports.{OutView, pass_of, passes_of, place_of, Post, put_before, refl, roster_of}
use Rattle.machine_floor.proofs.Imports.{same_Some, SameDigest, Script, Scripted, SealedEntry, Sent, sent, slice_get}
use Rattle.machine_floor.proofs.Imports.{slice_get_within, Some, StationState, subst, suc, sym, ticks_from, ToStopped}
use Rattle.machine_floor.proofs.Imports.{true, true≢false, Waiting, waits_of, world_of, ℕ, ◌&&◌, ◌++◌, ◌+◌, ◌<◌, ◌==◌}
use Rattle.machine_floor.proofs.Imports.{◌||◌, ◌∙◌, ◌∷◌, ◌≡◌, ◌≢◌, ◌≤◌, ◌⊎◌}
use Rattle.machine_floor.proofs.Linked.{ends_in, ends_out, row_is, rows_are}

-- two tests that hold together are one
same_test : (x y : Bool) → (x ≡ true → y ≡ true) → (y ≡ true → x ≡ true) → x ≡ y
same_test true y to from = sym (to refl)
same_test false true to from = from refl
same_test false false to from = refl

-- of lists that differ in all pairs of places nothing is lost twice
once_all : {X : Type 0} (f : X → List Loss) (xs : List X) →
    ((k : ℕ) (x : X) → slice_get xs k ≡ Some x → AreOnce (f x)) →
    ((k j : ℕ) (x y : X) → k ≢ j → slice_get xs k ≡ Some x → slice_get xs j ≡ Some y → (a b : Loss) →
    Contains (f x) a → Contains (f y) b → Differ a b) → AreOnce (flat_map f xs)
once_all f [] each across = λ i j d lt within. absurd (omega arith)
once_all f (x ∷ xs) each across =
    once_append (f x) (flat_map f xs) (each 0 x refl)
    (once_all f xs (λ k y s. each (suc k) y s)
    (λ k j y z differs s t. across (suc k) (suc j) y z (λ e. differs (omega arith)) s t))
    (λ i j d li lj.
    let b = get_or (flat_map f xs) j d in
    let (y, in_xs, in_y) = Contains-flat_map_cases f xs b (Contains-get_or (flat_map f xs) j d lj) in
    let (k, stands) = place_of xs y in_xs in
    across 0 (suc k) x y (λ e. absurd (omega arith)) refl stands (get_or (f x) i d) b (Contains-get_or (f x) i d li)
    in_y)

-- the lines on one machine name its losses as all lines do
lines_name : (own : ℕ) (loses : List Lose) (number to : ℕ) →
    is_scripted (lose_lines_of own loses) own number to ≡ is_scripted loses own number to
lines_name own [] number to = refl
lines_name own (lose ∷ loses) number to =
    let rest = lines_name own loses number to in
    elim (cases_Bool (lose.from == own)) [
      | inl is ↦ rw (is, is) (ap (λ b. ((lose.number == number) && (lose.to == to)) || b) rest)
      | inr isnt ↦ rw isnt rest
    ]

-- what passes one test of many that pass another
fewer_pass : {X : Type 0} (p q : X → Bool) (xs : List X) → ((x : X) → Contains xs x → p x ≡ true → q x ≡ true) →
    length (filter p xs) ≤ length (filter q xs)
fewer_pass p q [] weaker = omega arith
fewer_pass p q (x ∷ xs) weaker =
    let rest = fewer_pass p q xs (λ y c. weaker y (Contains-later x xs y c)) in
    elim (cases_Bool (p x)) [
      | inl is ↦ rw (is, weaker x (Contains-head x xs) is) (omega arith)
      | inr isnt ↦ elim (cases_Bool (q x)) [
        | inl also ↦ rw (isnt, also) (omega arith)
        | inr not_so ↦ rw (isnt, not_so) rest
      ]
    ]

-- each entry that a machine sent has its number as maker
makers_sent : (owner : ℕ) (h : List (Event SealedEntry)) → IsLegal node_of_sealed owner h → (x : SealedEntry) →
    Contains (sent h) x → x.entry.maker ≡ owner
makers_sent owner h legal x c =
    let (before, after, is) = member_split h (Sent x) (Contains-sent_cases h x c) in
    (legal before (Sent x) after is).1.maker

-- the ticks report who did the events
by_ticks : (place : ℕ) (h : List (Event SealedEntry)) → by_of (ticks_from place h) ≡ passes_of h
by_ticks place [] = refl
by_ticks place (x ∷ h) = ap (λ l. Some (pass_of x) ∷ l) (by_ticks (place + 1) h)

-- what relates two images of each member relates the lists of the images
zip_maps : {X A B : Type 0} (R : A → B → Type 0) (f : X → A) (g : X → B) (xs : List X) →
    ((x : X) → Contains xs x → R (f x) (g x)) → AllZip R (map f xs) (map g xs)
zip_maps R f g [] each = tt
zip_maps R f g (x ∷ xs) each =
    (each x (Contains-head x xs), zip_maps R f g xs (λ y c. each y (Contains-later x xs y c)))

-- no cause of an ear is one of a hand
not_before : (m : MachineState) (x : SealedEntry) (why : LossWhy) → IsInCause m x why → is_before_link why ≡ true → ⊥
not_before m x Scripted cause is = cause
not_before m x LinkFull cause is = cause
not_before m x ToStopped cause is = true≢false (sym is)
not_before m x LogFull cause is = true≢false (sym is)
not_before m x SameDigest cause is = true≢false (sym is)

module _ (script : Script) (links : List (List LinkView)) (ss : List StationState) (all : All IsStation ss)
    (new : AreNewStations script links (map made_of ss)) where
  -- their machines
  abbrev machines : List MachineState
  machines = map (λ (s : StationState). s.machine) ss

  -- their ends that put
  abbrev outs : List (List (OutView SealedEntry))
  outs = map (λ (s : StationState). s.outs) ss

  -- their ends that take
  abbrev inns : List (List (InView SealedEntry))
  inns = map (λ (s : StationState). s.inns) ss

  -- all that they lost
  abbrev lost : List Loss
  lost = flat_map (λ (s : StationState). s.losses) ss

  -- there is a row of links for each station
  rows : length links ≡ length ss
  rows = new.rows ∙ length-map ss made_of

  -- and a machine
  count : length machines ≡ length ss
  count = length-map ss (λ (s : StationState). s.machine)

  -- what is known of the station at a place
  record At (a : ℕ) (s : StationState) : Type 0 where
    pub stands : slice_get ss a ≡ Some s
    pub within : a < length ss
    pub is : IsStation s
    -- as it was made, it is the script's new station at this place
    pub made : IsNewStation script links a (made_of s)
    -- its machine's number is its place
    pub number : s.machine.config.number ≡ a
    -- it has an end to and from each station
    pub outs_long : length s.outs ≡ length ss
    pub inns_long : length s.inns ≡ length ss
    -- its machine and its ends are at this place among all
    pub machine_at : slice_get machines a ≡ Some s.machine
    pub history_at : history (world_of machines) a ≡ s.machine.events
    pub outs_at : get_or outs a [] ≡ s.outs
    pub inns_at : get_or inns a [] ≡ s.inns

  -- all this is known of each
  at : (a : ℕ) (s : StationState) → slice_get ss a ≡ Some s → At a s
  at a s stands =
      let is = all_at IsStation ss a s all stands in
      let made = new.each a (made_of s) (get-map made_of ss a s stands) in
      let long = sym (rows_are links s made.ends) ∙ rows in
      let machine_at = get-map (λ (s : StationState). s.machine) ss a s stands in
      record {
        stands = stands;
        within = slice_get_within ss a s stands;
        is = is;
        made = made;
        number = ap (λ (m : MachineState). m.config.number) made.machine.2;
        outs_long = long;
        inns_long = is.as_many ∙ long;
        machine_at = machine_at;
        history_at = ap history_of (get-map machine_of machines a s.machine machine_at);
        outs_at = get_or_from_slice_get outs a s.outs [] (get-map (λ (s : StationState). s.outs) ss a s stands);
        inns_at = get_or_from_slice_get inns a s.inns [] (get-map (λ (s : StationState). s.inns) ss a s stands);
      }

  -- at each place is a station
  some_at : (a : ℕ) → a < length ss → (s : StationState) × At a s
  some_at a lt = let (s, stands) = element_at ss a lt in (s, at a s stands)

  -- the station at a place is one
  same_station : {a b : ℕ} {s t : StationState} → At a s → At b t → a ≡ b → s ≡ t
  same_station {a} {b} {s} {t} p q e = same_Some s t (sym p.stands ∙ ap (slice_get ss) e ∙ q.stands)

  module _ {a : ℕ} {s : StationState} (p : At a s) where
    -- what its machine sent is what was sent at this place
    sent_at : sent (history (world_of machines) a) ≡ sent s.machine.events
    sent_at = ap sent p.history_at

    -- its lines name its entries as all lines of the script do
    named : (number to : ℕ) → is_scripted s.loses a number to ≡ is_scripted script.loses a number to
    named number to = ap (λ l. is_scripted l a number to) p.made.loses ∙ lines_name a script.loses number to

    -- what it lost is of its hand or of its ear
    whose : (x : Loss) → Contains s.losses x → ((x.from ≡ a) × IsOfHand s x) ⊎ ((x.to ≡ a) × IsOfEar s x)
    whose x c = elim (All-contains (λ (loss : Loss). IsOfHand s loss ⊎ IsOfEar s loss) s.losses x p.is.fits c) [
      | inl hand ↦ inl (hand.0 ∙ p.number, hand)
      | inr ear ↦ inr (ear.0 ∙ p.number, ear)
    ]

    -- what it lost is among all that was lost
    lost_too : (x : Loss) → Contains s.losses x → Contains lost x
    lost_too x c = Contains-flat_map (λ (s : StationState). s.losses) ss s x (member_at ss a s p.stands) c

  -- each loss is of the hand of its sender, or of the ear of its receiver
  loser : (x : Loss) → Contains lost x →
      ((s : StationState) × At x.from s × Contains s.losses x × IsOfHand s x) ⊎
      ((t : StationState) × At x.to t × Contains t.losses x × IsOfEar t x)
  loser x c =
      let (s, in_all, in_s) = Contains-flat_map_cases (λ (s : StationState). s.losses) ss x c in
      let (a, stands) = place_of ss s in_all in
      let p = at a s stands in
      elim (whose p x in_s) [
        | inl (from, hand) ↦ inl (s, rw (← from) at p, in_s, hand)
        | inr (to, ear) ↦ inr (s, rw (← to) at p, in_s, ear)
      ]

  -- so what is lost between two machines is what one of the two lost
  either : {a b : ℕ} {s t : StationState} → At a s → At b t → (k : ℕ) →
      is_lost lost a k b ≡ (is_lost s.losses a k b || is_lost t.losses a k b)
  either {a} {b} {s} {t} p q k =
      same_test (is_lost lost a k b) (is_lost s.losses a k b || is_lost t.losses a k b)
      (λ is.
      let (x, in_lost, so) = list_any_some (is_of a k b) lost is in
      let (from, _, to) = is_of_parts x a k b so in
      elim (loser x in_lost) [
        | inl (u, r, in_u, _) ↦ (let same = same_station r p from in
            or_left (is_lost s.losses a k b) (is_lost t.losses a k b)
            (list_any_of (is_of a k b) s.losses x (rw same at in_u) so))
        | inr (u, r, in_u, _) ↦ (let same = same_station r q to in
            or_right (is_lost s.losses a k b) (is_lost t.losses a k b)
            (list_any_of (is_of a k b) t.losses x (rw same at in_u) so))
      ])
      (λ is. elim (or_cases (is_lost s.losses a k b) (is_lost t.losses a k b) is) [
        | inl mine ↦ (let (x, in_s, so) = list_any_some (is_of a k b) s.losses mine in
            list_any_of (is_of a k b) lost x (lost_too p x in_s) so)
        | inr theirs ↦ (let (x, in_t, so) = list_any_some (is_of a k b) t.losses theirs in
            list_any_of (is_of a k b) lost x (lost_too q x in_t) so)
      ])

  -- the ends of the stations are those of the links
  pub ends_are : AreEndsOf links outs inns
  ends_are = record {
    few = elim (cases_lt 0 (length ss)) [
      | inl lt ↦ (let (s, p) = some_at 0 lt in let l = p.outs_long in let f = p.is.few in omega (arith, rows))
      | inr none ↦ omega (arith, rows)
    ];
    senders = length-map ss (λ (s : StationState). s.outs) ∙ sym rows;
    receivers = length-map ss (λ (s : StationState). s.inns) ∙ sym rows;
    row = λ a lt. let (s, p) = some_at a (omega (arith, rows)) in let l = p.outs_long in
        row_is links s p.made.ends a (omega (arith, rows)) ∙ l ∙ sym rows;
    outs_row = λ a lt. let (s, p) = some_at a (omega (arith, rows)) in ap length p.outs_at ∙ p.outs_long ∙ sym rows;
    inns_row = λ b lt. let (s, p) = some_at b (omega (arith, rows)) in ap length p.inns_at ∙ p.inns_long ∙ sym rows;
    puts = λ a b l d la lb. let (s, p) = some_at a (omega (arith, rows)) in let long = p.outs_long in
        rw p.outs_at (rw p.number at (ends_out links s p.made.ends b l d (omega (arith, rows))));
    takes = λ a b l e la lb. let (t, q) = some_at b (omega (arith, rows)) in let long = q.inns_long in
        rw q.inns_at (rw q.number at (ends_in links t q.made.ends a l e (omega (arith, rows))));
    makers = λ a b d la lb differs.
        let (s, p) = some_at a (omega (arith, rows)) in let long = p.outs_long in
        rw (p.outs_at, p.is.puts b d (omega (arith, rows)) (λ e. differs (sym (e ∙ p.number))))
        (all_by (λ (x : SealedEntry). x.entry.maker ≡ a)
        (arriving node_of_sealed s.losses s.machine.config.number b (sent s.machine.events))
        (λ x c. makers_sent s.machine.config.number s.machine.events p.is.machine.legal x
        (Contains-filter_cases
        (λ (e : SealedEntry). not (is_lost s.losses s.machine.config.number e.entry.number b))
        (sent s.machine.events) x c).0 ∙ p.number));
  }

  module _ (waits : List Waiting) (rests : AreRests (length ss) outs inns waits) where
    -- what was put on a link is what was taken and what waits
    finished : {a b : ℕ} {s t : StationState} → At a s → At b t → a ≢ b →
        (d : OutView SealedEntry) (e : InView SealedEntry) →
        (get_or s.outs b d).put ≡ (get_or t.inns a e).taken ++ waits_of waits a b
    finished {a} {b} p q differs d e = rw (p.outs_at, q.inns_at) at (rests.rest a b d e p.within q.within differs)

    -- what was taken was sent, and its sender didn't lose it
    taken_sent : {a b : ℕ} {s t : StationState} → At a s → At b t → a ≢ b → (i : InView SealedEntry)
        (x : SealedEntry) → Contains (get_or t.inns a i).taken x →
        Contains (sent s.machine.events) x × (is_lost s.losses a x.entry.number b ≡ false)
    taken_sent {a} {b} {s} {t} p q differs i x c =
        let long = p.outs_long in let within = q.within in
        let (out, _) = element_at s.outs b (omega arith) in
        let puts = rw p.number at (p.is.puts b out (omega arith) (λ e. differs (sym (e ∙ p.number)))) in
        let put : Contains (get_or s.outs b out).put x =
        rw (finished p q differs out i) (Contains-append_left (get_or t.inns a i).taken (waits_of waits a b) x c) in
        let kept = Contains-filter_cases (λ (e : SealedEntry). not (is_lost s.losses a e.entry.number b))
        (sent s.machine.events) x (rw puts at put) in
        (kept.0, not-true (is_lost s.losses a x.entry.number b) kept.1)

    -- the entry of a loss of an ear
    record HeardOff (x : Loss) (t : StationState) : Type 0 where
      -- the station that sent it
      pub sender : StationState
      pub sends : At x.from sender
      -- which isn't the hearer
      pub apart : x.from ≢ x.to
      -- what was taken and not heard
      pub entry : SealedEntry
      pub was_sent : Contains (sent sender.machine.events) entry
      -- its sender didn't lose it on this way
      pub kept : is_lost sender.losses x.from entry.entry.number x.to ≡ false
      -- the loss gives its number
      pub number : entry.entry.number ≡ x.number
      -- the hearer has this cause not to hear it
      pub cause : IsInCause t.machine entry x.why

    -- each loss of an ear has such an entry
    heard_off : (x : Loss) {t : StationState} → At x.to t → IsOfEar t x → HeardOff x t
    heard_off x {t} q (hearer, below, other, taken) =
        let (s, p) = some_at x.from (let l = q.outs_long in omega arith) in
        let apart : x.from ≢ x.to = λ e. other (e ∙ hearer) in
        let (inn, _) = element_at t.inns x.from (let l = q.inns_long in let o = q.outs_long in omega arith) in
        let (entry, was_taken, tells, cause) = taken inn in
        let (was_sent, kept) = taken_sent p q apart inn entry was_taken in
        record {
          sender = s;
          sends = p;
          apart = apart;
          entry = entry;
          was_sent = was_sent;
          kept = kept;
          number = tells;
          cause = cause;
        }

    -- what a machine got of another, and what waits for it, are what the other sent and isn't lost,
    -- in order
    balanced : IsBalanced node_of_sealed (length machines) (history (world_of machines)) lost (waits_of waits)
    balanced a b la lb apart =
        let (s, p) = some_at a (omega (arith, count)) in
        let (t, q) = some_at b (omega (arith, count)) in
        let (out, at_out) = element_at s.outs b (let l = p.outs_long in omega (arith, count)) in
        let (inn, at_inn) = element_at t.inns a (let l = q.inns_long in omega (arith, count)) in
        let out_is = get_or_from_slice_get s.outs b out out at_out in
        let inn_is = get_or_from_slice_get t.inns a inn inn at_inn in
        ap (λ (h : List (Event SealedEntry)). got_from node_of_sealed a h ++ waits_of waits a b) q.history_at
        ∙ gather_pair s t lost a b (waits_of waits a b) p.is q.is p.number q.number apart
        (slice_get_within s.outs b out at_out) (slice_get_within t.inns a inn at_inn) out inn out_is inn_is
        (rw (out_is, inn_is) at (finished p q apart out inn)) (either p q)
        ∙ ap (arriving node_of_sealed lost a b) (sym (sent_at p))

    -- a loss of a hand and one of an ear are of different entries
    hand_ear : (x y : Loss) {s t : StationState} → At x.from s → At y.to t → Contains s.losses x → IsOfEar t y →
        Differ x y
    hand_ear x y {s} {t} p q c ear =
        elim (cases_Bool (is_of x.from x.number x.to y)) [
          | inl is ↦ (let (maker, number, to) = is_of_parts y x.from x.number x.to is in
              let off = heard_off y q ear in
              let sender : off.sender ≡ s = same_station off.sends p maker in
              let lost_there = list_any_of (is_of y.from off.entry.entry.number y.to) s.losses x c
              (itself x y.from off.entry.entry.number y.to (sym maker) (sym (off.number ∙ number)) (sym to)) in
              absurd (true≢false (sym lost_there ∙ rw sender at off.kept)))
          | inr isnt ↦ isnt
        ]

    -- losses of two stations are of different entries, or on different ways
    across : (a b : ℕ) (s t : StationState) → a ≢ b → slice_get ss a ≡ Some s → slice_get ss b ≡ Some t →
        (x y : Loss) → Contains s.losses x → Contains t.losses y → Differ x y
    across a b s t apart stands standing x y c d =
        let p = at a s stands in let q = at b t standing in
        elim (whose p x c) [
          | inl (f, hand) ↦ elim (whose q y d) [
            | inl (g, _) ↦ other_from y x.from x.number x.to (λ e. apart (sym f ∙ sym e ∙ g))
            | inr (g, ear) ↦ hand_ear x y (rw (← f) at p) (rw (← g) at q) c ear
          ]
          | inr (f, ear) ↦ elim (whose q y d) [
            | inl (g, _) ↦ differ_sym y x (hand_ear y x (rw (← g) at q) (rw (← f) at p) d ear)
            | inr (g, _) ↦ other_to y x.from x.number x.to (λ e. apart (sym f ∙ sym e ∙ g))
          ]
        ]

    -- each loss is of an entry that one machine sent, on its way to another
    only : (x : Loss) → Contains lost x → IsOnWay machines x
    only x c = elim (loser x c) [
      | inl (s, p, _, (maker, below, to, apart, _)) ↦ record {
        from = omega (arith, count, p.within);
        to = omega (arith, count, p.outs_long);
        other = λ e. apart (sym e ∙ maker);
        number = omega (arith, ap length (sent_at p));
      }
      | inr (t, q, _, ear) ↦ (let off = heard_off x q ear in
          let legal = off.sends.is.machine.legal in
          let low = (numbers_below off.sender.machine.config.number off.sender.machine.events legal off.entry
          off.was_sent).0 in
          record {
            from = omega (arith, count, off.sends.within);
            to = omega (arith, count, q.within);
            other = off.apart;
            number = omega (arith, off.number, ap length (sent_at off.sends));
          })
    ]

    -- what was kept off a link was lost by its sender
    kept_off : {a : ℕ} (b number : ℕ) {s : StationState} → At a s → is_kept_off lost a number b ≡ true →
        is_lost s.losses a number b ≡ true
    kept_off {a} b number {s} p is =
        let test : Loss → Bool = λ loss. is_of a number b loss && is_before_link loss.why in
        let (x, in_lost, so) = list_any_some test lost is in
        let (on_way, before) = and_parts (is_of a number b x) (is_before_link x.why) so in
        let of = is_of_parts x a number b on_way in
        elim (loser x in_lost) [
          | inl (u, r, in_u, _) ↦ (let same = same_station r p of.0 in
              list_any_of (is_of a number b) s.losses x (rw same at in_u) on_way)
          | inr (u, r, _, ear) ↦ (let off = heard_off x r ear in
              absurd (not_before u.machine off.entry x.why off.cause before))
        ]

    -- so what was put on the link before counts as put
    put_counts : {a b : ℕ} (number : ℕ) {s : StationState} → At a s → b < length ss → b ≢ a →
        (d : OutView SealedEntry) →
        length (numbered_below number (get_or s.outs b d).put) ≤ length (put_before machines lost a number b)
    put_counts {a} {b} number {s} p lb apart d =
        let below : SealedEntry → Bool = λ e. nat_lt e.entry.number number in
        let kept : SealedEntry → Bool = λ e. not (is_lost s.losses a e.entry.number b) in
        let test : SealedEntry → Bool = λ e. nat_lt e.entry.number number
        && not (is_kept_off lost a e.entry.number b) in
        let es : List SealedEntry = sent s.machine.events in
        let long = p.outs_long in
        let puts = rw p.number at (p.is.puts b d (omega arith) (λ e. apart (e ∙ p.number))) in
        let both : numbered_below number (get_or s.outs b d).put ≡ filter (λ e. kept e && below e) es =
        ap (filter below) puts ∙ filter_twice kept below es in
        let fewer = fewer_pass (λ e. kept e && below e) test es (λ e c h.
        let parts = and_parts (kept e) (below e) h in
        and_from (below e) (not (is_kept_off lost a e.entry.number b)) parts.1
        (elim (cases_Bool (is_kept_off lost a e.entry.number b)) [
          | inl off ↦ absurd (true≢false (sym (kept_off b e.entry.number p off)
              ∙ not-true (is_lost s.losses a e.entry.number b) parts.0))
          | inr on ↦ not_from_false (is_kept_off lost a e.entry.number b) on
        ])) in
        let there_are = ap (λ l. length (filter test l)) (sent_at p) in
        let here = ap length both in
        omega arith

    -- the cause of a loss on a link out is one between the machines of the script
    hand_cause : (x : Loss) (why : LossWhy) {s : StationState} → At x.from s → x.to < length ss → x.to ≢ x.from →
        IsOutCause s.loses s.link s.outs x why → IsCauseSoFar script machines lost x why
    hand_cause x Scripted p lb apart cause = sym (named p x.number x.to) ∙ cause
    hand_cause x LinkFull {s} p lb apart cause =
        let (out, _) = element_at s.outs x.to (let l = p.outs_long in omega arith) in
        let many = cause.1 out in
        let link = p.made.link in
        let fewer = put_counts x.number p lb apart out in
        (sym (named p x.number x.to) ∙ cause.0, omega arith)
    hand_cause x ToStopped p lb apart cause = absurd cause
    hand_cause x LogFull p lb apart cause = absurd cause
    hand_cause x SameDigest p lb apart cause = absurd cause

    -- and so is the cause for which an entry wasn't heard
    ear_cause : (x : Loss) (why : LossWhy) {t : StationState} → At x.to t → (off : HeardOff x t) →
        IsInCause t.machine off.entry why → IsCauseSoFar script machines lost x why
    ear_cause x Scripted q off cause = absurd cause
    ear_cause x LinkFull q off cause = absurd cause
    ear_cause x ToStopped {t} q off cause = (t.machine, q.machine_at, cause)
    ear_cause x LogFull {t} q off cause = (
      t.machine,
      q.machine_at,
      cause.0,
      cause.1 ∙ ap (λ (m : MachineState). m.config.log) q.made.machine.2,
    )
    ear_cause x SameDigest {t} q off cause =
        (t.machine, q.machine_at, (off.entry, rw (sent_at off.sends) off.was_sent, off.number, cause))

    -- each loss has its cause between the machines of the script
    caused : (x : Loss) → Contains lost x → IsCauseSoFar script machines lost x x.why
    caused x c = elim (loser x c) [
      | inl (s, p, _, (maker, _, to, apart, cause)) ↦
          hand_cause x x.why p (let l = p.outs_long in omega arith) (λ e. apart (e ∙ maker)) cause
      | inr (t, q, _, ear) ↦ (let off = heard_off x q ear in ear_cause x x.why q off off.cause)
    ]

    -- each entry that was sent and that a line of the script names is lost so
    scripted : AreLostAsScripted script machines lost
    scripted from number to lf lt apart low named_there =
        let (s, p) = some_at from (omega (arith, count)) in
        let n = ap length (sent_at p) in let l = p.outs_long in
        let told = p.is.scripted number to (omega arith) (omega (arith, count)) (λ e. apart (sym (e ∙ p.number)))
        (rw p.number (named p number to ∙ named_there)) in
        lost_too p (record { from = from; number = number; to = to; why = Scripted }) (rw p.number at told)

    -- all that threads leave
    pub collected : (posts : List Post) → posts ≡ roster_of script →
        AreGathered script posts machines waits lost (map (λ (s : StationState). by_of s.ticks) ss)
    collected posts is = record {
      roster = is;
      machines = record {
        count = count ∙ sym (length-map ss made_of) ∙ new.count;
        each = λ place m stands.
            let (s, standing, same) = get-map_from (λ (s : StationState). s.machine) ss place m stands in
            let p = at place s standing in
            let stop = ap (λ (m : MachineState). m.stop) p.made.machine.2 in
            rw (← same) (record {
              stop = subst (IsStopOf script.stops place) (sym stop) p.made.stops;
              made = subst (λ t. IsFresh script place t (record s.machine { events = [] })) (sym stop)
                  p.made.machine;
              machine = p.is.machine;
            });
      };
      makers = λ place m e stands c.
          let (s, standing, same) = get-map_from (λ (s : StationState). s.machine) ss place m stands in
          let p = at place s standing in
          let low = p.is.makers e (rw (← same) at c) in
          let l = p.outs_long in omega (arith, count);
      on_way = subst (λ n. AreOnWay n waits) (sym count) rests.on_way;
      balanced = balanced;
      once = once_all (λ (s : StationState). s.losses) ss (λ k s stands. (at k s stands).is.once) across;
      only = all_by (IsOnWay machines) lost only;
      causes = all_by (λ (x : Loss). IsCauseSoFar script machines lost x x.why) lost caused;
      scripted = scripted;
      by = zip_maps (λ (m : MachineState) (row : List (Option ℕ)). row ≡ passes_of m.events)
          (λ (s : StationState). s.machine) (λ (s : StationState). by_of s.ticks) ss
          (λ s c. let (a, stands) = place_of ss s c in
          ap by_of (at a s stands).is.ticks ∙ by_ticks 0 s.machine.events);
    }
