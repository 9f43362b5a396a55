-- What a turn does to what was put, and to what was taken.
use Rattle.floor_links.proofs.Imports.{◌≡◌, ◌≢◌, ℕ, ◌<◌, true, false, cond, List, [], ◌∷◌, ◌++◌, sym, ap, ◌∙◌, arith}
use Rattle.floor_links.proofs.Imports.{◌⊎◌, inl, inr, get_or, All, ◌==◌, ◌||◌, Contains, filter, cases_eq, eq-eqb}
use Rattle.floor_links.proofs.Imports.{ne_eqb, append-nil, All-contains, filter-append, list_any_none, or-false}
use Rattle.floor_links.proofs.Imports.{node_of_sealed, SealedEntry, Event, Sent, Got, Loss, is_lost, is_of, arriving}
use Rattle.floor_links.proofs.Imports.{got, got_from, lost_either, lost_push, lost_now, other_number, other_from}
use Rattle.floor_links.proofs.Imports.{other_to, got-push, got-sent, arriving_same, arriving_kept, arriving_lost}

-- no loss is of this entry
pub none_of : (losses : List Loss) (from number to : ℕ) →
    All (λ (loss : Loss). is_of from number to loss ≡ false) losses → is_lost losses from number to ≡ false
none_of losses from number to none = list_any_none (is_of from number to) losses none

-- the entry was put, or lost on the way
pub puts_more : (losses lost : List Loss) (own to k : ℕ) (es : List SealedEntry) (e : SealedEntry)
    (old new : List SealedEntry) →
    e.entry.number ≡ k → ((x : SealedEntry) → Contains es x → x.entry.number < k) →
    All (λ (loss : Loss). loss.from ≡ own → loss.number < k) losses → All (λ (loss : Loss). loss.number ≡ k) lost →
    old ≡ arriving node_of_sealed losses own to es →
    ((new ≡ old ++ e ∷ []) × (is_lost lost own k to ≡ false)) ⊎ ((new ≡ old) × (is_lost lost own k to ≡ true)) →
    new ≡ arriving node_of_sealed (losses ++ lost) own to (es ++ e ∷ [])
puts_more losses lost own to k es e old new number below older now was fate =
    let Same : SealedEntry → Type 0 = λ x. is_lost (losses ++ lost) own x.entry.number to
    ≡ is_lost losses own x.entry.number to in
    let same : (x : SealedEntry) → Contains es x → Same x =
    λ x c. lost_either losses lost own x.entry.number to
    ∙ ap (λ b. is_lost losses own x.entry.number to || b)
    (none_of lost own x.entry.number to
    (λ j d lt. other_number (get_or lost j d) own x.entry.number to (λ s. let h = now j d lt in
    let b = below x c in absurd (omega arith))))
    ∙ or-false (is_lost losses own x.entry.number to) in
    let arrived : arriving node_of_sealed (losses ++ lost) own to es ≡ old =
    arriving_same node_of_sealed losses (losses ++ lost) own to es same ∙ sym was in
    let fresh : is_lost losses own k to ≡ false =
    none_of losses own k to (λ j d lt. elim (cases_eq (get_or losses j d).from own) [
      | inl s ↦ other_number (get_or losses j d) own k to (λ n. let h = older j d lt s in absurd (omega arith))
      | inr n ↦ other_from (get_or losses j d) own k to n
    ]) in
    let here : is_lost (losses ++ lost) own e.entry.number to ≡ is_lost lost own k to =
    ap (λ n. is_lost (losses ++ lost) own n to) number ∙ lost_either losses lost own k to
    ∙ ap (λ b. b || is_lost lost own k to) fresh in
    elim fate [
      | inl (put, kept) ↦ put ∙ ap (λ l. l ++ e ∷ []) (sym arrived)
          ∙ sym (arriving_kept node_of_sealed (losses ++ lost) own to es e (here ∙ kept))
      | inr (stays, gone) ↦
          stays ∙ sym arrived ∙ sym (arriving_lost node_of_sealed (losses ++ lost) own to es e (here ∙ gone))
    ]

-- what one side loses on other ways changes nothing
pub other_way : (losses lost : List Loss) (from to : ℕ) (es : List SealedEntry) →
    All (λ (loss : Loss). (loss.from ≢ from) ⊎ (loss.to ≢ to)) lost →
    arriving node_of_sealed (losses ++ lost) from to es ≡ arriving node_of_sealed losses from to es
other_way losses lost from to es other =
    arriving_same node_of_sealed losses (losses ++ lost) from to es
    (λ x c. lost_either losses lost from x.entry.number to
    ∙ ap (λ b. is_lost losses from x.entry.number to || b)
    (none_of lost from x.entry.number to (λ j d lt. elim (other j d lt) [
      | inl n ↦ other_from (get_or lost j d) from x.entry.number to n
      | inr n ↦ other_to (get_or lost j d) from x.entry.number to n
    ]))
    ∙ or-false (is_lost losses from x.entry.number to))

-- of its maker, and of others
pub got_from-here : (h : List (Event SealedEntry)) (x : SealedEntry) (from : ℕ) → x.entry.maker ≡ from →
    got_from node_of_sealed from (h ++ Got x ∷ []) ≡ got_from node_of_sealed from h ++ x ∷ []
got_from-here h x from maker =
    ap (filter (λ (e : SealedEntry). e.entry.maker == from)) (got-push h x)
    ∙ filter-append (λ (e : SealedEntry). e.entry.maker == from) (got h) (x ∷ [])
    ∙ ap (λ b. got_from node_of_sealed from h ++ cond b (x ∷ []) []) (eq-eqb x.entry.maker from maker)

-- what another machine made isn't got of this one
pub got_from-other : (h : List (Event SealedEntry)) (x : SealedEntry) (from : ℕ) → x.entry.maker ≢ from →
    got_from node_of_sealed from (h ++ Got x ∷ []) ≡ got_from node_of_sealed from h
got_from-other h x from maker =
    ap (filter (λ (e : SealedEntry). e.entry.maker == from)) (got-push h x)
    ∙ filter-append (λ (e : SealedEntry). e.entry.maker == from) (got h) (x ∷ [])
    ∙ ap (λ b. got_from node_of_sealed from h ++ cond b (x ∷ []) []) (ne_eqb x.entry.maker from maker)
    ∙ append-nil (got_from node_of_sealed from h)

-- a history that goes on with a sent entry has got the same from each machine
pub got_from-sent : (h : List (Event SealedEntry)) (x : SealedEntry) (from : ℕ) →
    got_from node_of_sealed from (h ++ Sent x ∷ []) ≡ got_from node_of_sealed from h
got_from-sent h x from = ap (filter (λ (e : SealedEntry). e.entry.maker == from)) (got-sent h x)

-- the entry that was taken is heard
pub takes_heard : (losses : List Loss) (from own : ℕ) (taken : List SealedEntry) (x : SealedEntry)
    (heard : List SealedEntry) →
    All (λ (loss : Loss). is_of from x.entry.number own loss ≡ false) losses →
    heard ≡ arriving node_of_sealed losses from own taken →
    heard ++ x ∷ [] ≡ arriving node_of_sealed losses from own (taken ++ x ∷ [])
takes_heard losses from own taken x heard none is =
    ap (λ l. l ++ x ∷ []) is
    ∙ sym (arriving_kept node_of_sealed losses from own taken x (none_of losses from x.entry.number own none))

-- the entry that was taken last is lost, and what was heard stays
pub takes_lost : (losses : List Loss) (loss : Loss) (from own : ℕ) (taken : List SealedEntry) (x : SealedEntry)
    (heard : List SealedEntry) →
    is_of from x.entry.number own loss ≡ true → loss.number ≡ x.entry.number →
    All (λ (y : SealedEntry). y.entry.number < x.entry.number) taken →
    heard ≡ arriving node_of_sealed losses from own taken →
    heard ≡ arriving node_of_sealed (losses ++ loss ∷ []) from own (taken ++ x ∷ [])
takes_lost losses loss from own taken x heard is number before was =
    was
    ∙ sym (arriving_same node_of_sealed losses (losses ++ loss ∷ []) from own taken
    (λ y c. lost_push losses loss from y.entry.number own
    (other_number loss from y.entry.number own (λ s. let b =
    All-contains (λ (y : SealedEntry). y.entry.number < x.entry.number) taken y before c in absurd (omega arith)))))
    ∙ sym (arriving_lost node_of_sealed (losses ++ loss ∷ []) from own taken x
    (lost_now losses loss from x.entry.number own is))
