-- Sending to one machine after another.
use Rattle.floor_links.proofs.Imports.{◌≡◌, ◌≢◌, ℕ, ◌+◌, ◌<◌, ◌≤◌, Bool, false, List, [], ◌∷◌, ◌++◌, length, refl}
use Rattle.floor_links.proofs.Imports.{sym, ap, ◌∙◌, subst, arith, inl, inr, set, get_or, Option, Some, None}
use Rattle.floor_links.proofs.Imports.{get_or-set_same, get_or-set_other, length-append, All, AllPairs}
use Rattle.floor_links.proofs.Imports.{all_pairs_push, cases_eq, append_assoc, append-nil, All-append, All-push}
use Rattle.floor_links.proofs.Imports.{All-nil, All-pop, Contains-append_left, Contains-push, list_any_none}
use Rattle.floor_links.proofs.Imports.{length-set, SealedEntry, OutView, LinkView, Lose, max_actions, Loss, LossWhy}
use Rattle.floor_links.proofs.Imports.{is_lost, is_of, lost_push, other_to, HaveCapacity, link_at, loss_of, lost_by}
use Rattle.floor_links.proofs.Imports.{is_scripted, IsWay, IsSentTo, IsTold, IsSentOn, IsSentBelow, AreCopies}

-- the end of a link that puts
abbrev End : Type 0
End = OutView SealedEntry

-- the losses are of the entry, on its way to this machine
abbrev AreOn : SealedEntry → ℕ → List Loss → Type 0
AreOn e to losses =
    All (λ (loss : Loss). (loss.from ≡ e.entry.maker) × (loss.number ≡ e.entry.number) × (loss.to ≡ to)) losses

-- none of the losses is on the way to a machine that wasn't reached
none_there : (lost : List Loss) (from number to most : ℕ) → All (λ (loss : Loss). loss.to < most) lost →
    most ≤ to → is_lost lost from number to ≡ false
none_there lost from number to most below above =
    list_any_none (is_of from number to) lost
    (λ k d lt. other_to (get_or lost k d) from number to (let h = below k d lt in omega arith))

-- what one machine more adds to the losses
record AddsOne (lost : List Loss) (most : ℕ) (e : SealedEntry) (cause : Option LossWhy) : Type 0 where
  -- it is at most one loss
  short : length (lost_by e most cause) ≤ 1
  -- it is of this entry, on its way to this machine
  are : AreOn e most (lost_by e most cause)
  -- what became of the entry on this way is reported
  told : IsTold (lost ++ lost_by e most cause) e most cause
  -- what became of it on other ways is reported as before
  others : (to : ℕ) → to ≢ most → (c : Option LossWhy) → IsTold lost e to c
      → IsTold (lost ++ lost_by e most cause) e to c
  -- the losses ascend by their receivers
  rising : AllPairs (λ (a b : Loss). a.to < b.to) (lost ++ lost_by e most cause)

-- a loss on another way is reported as before
told_kept : (lost : List Loss) (e : SealedEntry) (most to : ℕ) (why : LossWhy) → to ≢ most → (c : Option LossWhy) →
    IsTold lost e to c → IsTold (lost ++ loss_of e most why ∷ []) e to c
told_kept lost e most to why n None told =
    lost_push lost (loss_of e most why) e.entry.maker e.entry.number to
    (other_to (loss_of e most why) e.entry.maker e.entry.number to (λ s. n (sym s))) ∙ told
told_kept lost e most to why n (Some w) told =
    Contains-append_left lost (loss_of e most why ∷ []) (loss_of e to w) told

-- one machine more adds one loss at most, which leaves all others as they are reported
adds_one : (lost : List Loss) (most : ℕ) (e : SealedEntry) (cause : Option LossWhy) →
    All (λ (loss : Loss). loss.to < most) lost → AllPairs (λ (a b : Loss). a.to < b.to) lost →
    AddsOne lost most e cause
adds_one lost most e None below rising = record {
  short = omega arith;
  are = λ k d lt. absurd (omega arith);
  told = ap (λ l. is_lost l e.entry.maker e.entry.number most) (append-nil lost)
      ∙ none_there lost e.entry.maker e.entry.number most most below (omega arith);
  others = λ to n c told. subst (λ (l : List Loss). IsTold l e to c) (sym (append-nil lost)) told;
  rising = subst (AllPairs (λ (a b : Loss). a.to < b.to)) (sym (append-nil lost)) rising;
}
adds_one lost most e (Some why) below rising = record {
  short = omega arith;
  are = All-push (λ (loss : Loss). (loss.from ≡ e.entry.maker) × (loss.number ≡ e.entry.number) × (loss.to ≡ most)) []
      (loss_of e most why)
      (All-nil (λ (loss : Loss). (loss.from ≡ e.entry.maker) × (loss.number ≡ e.entry.number) × (loss.to ≡ most)))
      (refl, refl, refl);
  told = Contains-push lost (loss_of e most why);
  others = λ to n c told. told_kept lost e most to why n c told;
  rising = all_pairs_push (λ (a b : Loss). a.to < b.to) lost (loss_of e most why) rising (λ k d lt. below k d lt);
}

module _ (loses : List Lose) (capacity : ℕ) where
  -- before anything was sent
  sent_to_none : (e : SealedEntry) (outs : List End) → IsSentBelow loses capacity 0 e outs outs []
  sent_to_none e outs = record {
    count = refl;
    few = omega arith;
    rising = λ i j d lt within. absurd (omega arith);
    losses = λ k d lt. absurd (omega arith);
    queues = λ to d lt. (refl, refl);
    done = λ to d lt differs. absurd (omega arith);
    own = λ d. refl;
    left = λ to d above lt. refl;
  }

  -- the maker itself is passed over
  passed_over : (most : ℕ) (e : SealedEntry) (outs new : List End) (lost : List Loss) → most ≡ e.entry.maker →
      IsSentBelow loses capacity most e outs new lost → IsSentBelow loses capacity (most + 1) e outs new lost
  passed_over most e outs new lost own is = record {
    count = is.count;
    few = let h = is.few in omega arith;
    rising = is.rising;
    losses = λ k d lt.
        let (maker, number, below, apart) = is.losses k d lt in (maker, number, omega (arith, below), apart);
    queues = is.queues;
    done = λ to d lt differs. is.done to d (let n : to ≢ most = λ s. differs (s ∙ own) in omega arith) differs;
    own = is.own;
    left = λ to d above lt. is.left to d (omega arith) lt;
  }

  -- one machine more
  sent_to_one_more : (most : ℕ) (e : SealedEntry) (outs new : List End) (lost before after : List Loss)
      (old end : End) →
      most < length outs → most ≢ e.entry.maker → IsSentBelow loses capacity most e outs new lost →
      ((d : End) → get_or new most d ≡ old) →
      IsSentTo (is_scripted loses e.entry.maker e.entry.number most) capacity most e old end before after →
      (more : List Loss) × (after ≡ before ++ more) × (length more ≤ 1) ×
      IsSentBelow loses capacity (most + 1) e outs (set new most end) (lost ++ more)
  sent_to_one_more most e outs new lost before after old end within differs is stood sends =
      let below : All (λ (loss : Loss). loss.to < most) lost = λ k d lt. (is.losses k d lt).2 in
      let more : List Loss = lost_by e most sends.cause in
      let adds : AddsOne lost most e sends.cause = adds_one lost most e sends.cause below is.rising in
      let On : ℕ → End → End → Type 0 = λ k a b. IsSentOn (is_scripted loses e.entry.maker e.entry.number k) capacity k
      e a b (lost ++ more) in
      let base : On most old end = record { cause = sends.cause; way = sends.way; told = adds.told } in
      let was : (d : End) → old ≡ get_or outs most d = λ d. sym (stood d) ∙ is.left most d (omega arith) within in
      let here : (d : End) → get_or (set new most end) most d ≡ end = λ d.
      get_or-set_same new most end d (let c = is.count in omega arith) in (
        more,
        sends.losses,
        adds.short,
        record {
          count = length-set new most end ∙ is.count;
          few = let h = is.few in let g = adds.short in omega (arith, length-append lost more);
          rising = adds.rising;
          losses = All-append (λ (loss : Loss). (loss.from ≡ e.entry.maker) × (loss.number ≡ e.entry.number) ×
              (loss.to < most + 1) × (loss.to ≢ e.entry.maker)) lost more
              (λ k d lt. let (maker, number, lower, apart) = is.losses k d lt in
              (maker, number, omega (arith, lower), apart))
              (λ k d lt. let (maker, number, to_most) = adds.are k d lt in
              (maker, number, omega (arith, to_most), λ s. differs (sym to_most ∙ s)));
          queues = λ to d lt.
              elim (cases_eq to most) [
                | inl s ↦ (let now : get_or (set new most end) to d ≡ end =
                    ap (λ n. get_or (set new most end) n d) s ∙ here d in
                    let then : old ≡ get_or outs to d = was d ∙ ap (λ n. get_or outs n d) (sym s) in (
                      ap (λ (x : End). x.queue) now ∙ sends.queue ∙ ap (λ (x : End). x.queue) then,
                      ap (λ (x : End). x.from) now ∙ sends.from ∙ ap (λ (x : End). x.from) then,
                    ))
                | inr n ↦ (let there : get_or (set new most end) to d ≡ get_or new to d =
                    get_or-set_other new most to end d n in
                    let (queue, from) = is.queues to d lt in
                    (ap (λ (x : End). x.queue) there ∙ queue, ap (λ (x : End). x.from) there ∙ from))
              ];
          done = λ to d lt apart.
              elim (cases_eq to most) [
                | inl s ↦ subst (λ k. On k (get_or outs k d) (get_or (set new most end) k d)) (sym s)
                    (subst (λ a. On most a (get_or (set new most end) most d)) (was d)
                    (subst (λ b. On most old b) (sym (here d)) base))
                | inr n ↦ (let there : get_or (set new most end) to d ≡ get_or new to d =
                    get_or-set_other new most to end d n in
                    let done = is.done to d (omega arith) apart in
                    record {
                      cause = done.cause;
                      way = subst (λ x. IsWay (is_scripted loses e.entry.maker e.entry.number to) capacity e
                          (get_or outs to d) x done.cause) (sym there) done.way;
                      told = adds.others to n done.cause done.told;
                    })
              ];
          own = λ d. get_or-set_other new most e.entry.maker end d (λ s. differs (sym s)) ∙ is.own d;
          left = λ to d above lt. get_or-set_other new most to end d (omega arith) ∙ is.left to d (omega arith) lt;
        },
      )

-- at most one loss
few_by : (e : SealedEntry) (to : ℕ) (cause : Option LossWhy) → length (lost_by e to cause) ≤ 1
few_by e to None = omega arith
few_by e to (Some why) = omega arith

-- where sending to one machine after another has come
pub record Sending (links : List (List LinkView)) (loses : List Lose) (own number count : ℕ)
    (copies0 : List SealedEntry)
    (outs0 : List End) (losses0 : List Loss) (to : ℕ) (copies : List SealedEntry) (outs : List End) (losses : List Loss)
    : Type 0 where
  -- there is an end for each machine
  pub as_many : length outs ≡ count
  -- as there was before
  pub in_all : count ≡ length outs0
  -- what is left are copies of the entry
  pub are_copies : AreCopies own number copies
  -- up to the maker itself there is a copy for each machine that is left but it
  pub before : to ≤ own → length copies + to + 1 ≡ count
  -- after it there is one for each that is left
  pub following : own < to → length copies + to ≡ count
  -- the ends of the machines that are left are as they were
  pub left : (k : ℕ) (d : End) → to ≤ k → k < count → get_or outs k d ≡ get_or outs0 k d
  -- there are no more new losses than machines were reached
  pub room : length losses ≤ length losses0 + to
  pub sent : (e : SealedEntry) (capacity : ℕ) → (e.entry.maker ≡ own) → (e.entry.number ≡ number) →
      All (λ (x : SealedEntry). x ≡ e) copies0 → HaveCapacity links own count capacity →
      All (λ (x : SealedEntry). x ≡ e) copies ×
      ((lost : List Loss) × (losses ≡ losses0 ++ lost) × IsSentBelow loses capacity to e outs0 outs lost)

module _ (links : List (List LinkView)) (loses : List Lose) (own number count : ℕ) (copies0 : List SealedEntry)
    (outs0 : List End) (losses0 : List Loss) where
  -- before the first machine nothing was sent
  pub sending_none : count ≡ length outs0 → AreCopies own number copies0 → length copies0 + 1 ≡ length outs0 →
      Sending links loses own number count copies0 outs0 losses0 0 copies0 outs0 losses0
  sending_none in_all copies many = record {
    as_many = sym in_all;
    in_all = in_all;
    are_copies = copies;
    before = λ h. omega arith;
    following = λ h. absurd (omega arith);
    left = λ k d above lt. refl;
    room = omega arith;
    sent = λ e capacity maker number all holds.
        (all, ([], sym (append-nil losses0), sent_to_none loses capacity e outs0));
  }

  -- the maker itself is passed over
  pub sending_past : (to : ℕ) (copies : List SealedEntry) (outs : List End) (losses : List Loss) → to ≡ own →
      to < count → Sending links loses own number count copies0 outs0 losses0 to copies outs losses →
      Sending links loses own number count copies0 outs0 losses0 (to + 1) copies outs losses
  sending_past to copies outs losses here within is = record {
    as_many = is.as_many;
    in_all = is.in_all;
    are_copies = is.are_copies;
    before = λ h. absurd (omega arith);
    following = λ h. let b = is.before (omega arith) in omega arith;
    left = λ k d above lt. is.left k d (omega arith) lt;
    room = let r = is.room in omega arith;
    sent = λ e capacity maker number all holds.
        let (copies_are, (lost, losses_are, below)) = is.sent e capacity maker number all holds in
        (copies_are, (lost, losses_are, passed_over loses capacity to e outs0 outs lost (here ∙ sym maker) below));
  }

  -- one copy more is sent, to the next machine
  pub sending_more : (to : ℕ) (copies rest : List SealedEntry) (copy : SealedEntry) (outs : List End)
      (losses after : List Loss) (old end : End) (scripted : Bool) (link : LinkView) →
      to ≢ own → to < count → copies ≡ rest ++ copy ∷ [] → ((d : End) → get_or outs to d ≡ old) →
      scripted ≡ is_scripted loses own number to → link ≡ link_at links own to link →
      IsSentTo scripted link.capacity to copy old end losses after →
      Sending links loses own number count copies0 outs0 losses0 to copies outs losses →
      Sending links loses own number count copies0 outs0 losses0 (to + 1) rest (set outs to end) after
  sending_more to copies rest copy outs losses after old end scripted link differs within split stood names there sends
      is =
      let shorter : length copies ≡ length rest + 1 = omega (arith, ap length split, length-append rest (copy ∷ [])) in
      let added : length after ≤ length losses + 1 =
      (let f = few_by copy to sends.cause in
      omega (arith, ap length sends.losses, length-append losses (lost_by copy to sends.cause)))
      in
      record {
        as_many = length-set outs to end ∙ is.as_many;
        in_all = is.in_all;
        are_copies = (All-pop (λ (x : SealedEntry). (x.entry.maker ≡ own) × (x.entry.number ≡ number) ×
            (x.entry.number < max_actions)) copies rest (Some copy) split is.are_copies).0;
        before = λ h. let b = is.before (omega arith) in omega arith;
        following = λ h. let b = is.following (omega arith) in omega arith;
        left = λ k d above lt. get_or-set_other outs to k end d (omega arith) ∙ is.left k d (omega arith) lt;
        room = let r = is.room in omega arith;
        sent = λ e capacity by at all holds.
            let (copies_are, (lost, losses_are, below)) = is.sent e capacity by at all holds in
            let (rest_are, same) = All-pop (λ (x : SealedEntry). x ≡ e) copies rest (Some copy) split copies_are in
            let of : ℕ → ℕ → Bool = λ m n. is_scripted loses m n to in
            let named : scripted ≡ is_scripted loses e.entry.maker e.entry.number to =
            names ∙ ap (λ m. of m number) (sym by) ∙ ap (λ n. of e.entry.maker n) (sym at) in
            let holding : link.capacity ≡ capacity =
            ap (λ (l : LinkView). l.capacity) there ∙ holds to link within in
            let To : Bool → ℕ → SealedEntry → Type 0 = λ b n x. IsSentTo b n to x old end losses after in
            let one : To (is_scripted loses e.entry.maker e.entry.number to) capacity e =
            subst (λ b. To b capacity e) named
            (subst (λ n. To scripted n e) holding (subst (λ x. To scripted link.capacity x) same sends)) in
            let (more, after_is, _, below_next) = sent_to_one_more loses capacity to e outs0 outs lost losses after old
            end (omega (arith, is.in_all)) (λ s. differs (s ∙ by)) below stood one in (
              rest_are,
              (lost ++ more, after_is ∙ ap (λ l. l ++ more) losses_are ∙ append_assoc losses0 lost more, below_next),
            );
      }
