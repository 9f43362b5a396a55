use Rattle.floor_links.proofs.Imports.{◌≡◌, ◌≢◌, ◌<◌, ◌+◌, ◌++◌, [], ◌∷◌, ℕ, List, Some, length, vec_capacity}
use Rattle.floor_links.proofs.Imports.{vec_len, refl, sym, ap, ◌∙◌, subst, arith, get_or, Vec, Global, inl, inr, All}
use Rattle.floor_links.proofs.Imports.{with_item, get_or_default, cases_lt, All-pop, SealedEntry, Lose, max_actions}
use Rattle.floor_links.proofs.Imports.{OutView, LinkView, IsOutOf, Loss, IsRowOf, link_at, IsSentBelow}
use Rattle.floor_links.proofs.Sent.{Sending, sending_none, sending_past, sending_more}
use Rattle.floor_links.proofs.sending.send_all.Goals as goal
use Rattle.floor_links.proofs.sending.send_all.Goals.{then-to-own+in-Some, else-to-own}

pub loop-to-init : goal.loop-to-init
loop-to-init g c = record {
  on = sending_none c.args.links.now c.args.loses.now c.args.own c.args.number c.len-count.result c.args.copies.items
      c.args.outs.now.items c.args.losses.now.items
      (omega arith) c.requires.copies (let a = c.args.copies.ok.0 in let b = c.args.outs.now.ok.0 in
      let h = c.requires.many in omega arith);
  capacity = refl;
}

module _ (links : List (List LinkView)) (loses : List Lose) (own number count : ℕ) (copies0 : List SealedEntry)
    (outs0 : List (OutView SealedEntry)) (losses0 : List Loss) (to : ℕ) (copies : List SealedEntry)
    (outs : List (OutView SealedEntry)) (losses : List Loss)
    (is : Sending links loses own number count copies0 outs0 losses0 to copies outs losses) where
  -- a copy is left for each receiver that wasn't reached
  some_left : to < count → own < count → to ≢ own → 0 < length copies
  some_left lt inside differs =
      elim (cases_lt own to) [
        | inl h ↦ (let b = is.following h in omega arith)
        | inr h ↦ (let b = is.before h in omega arith)
      ]

  out_is : (out : OutView SealedEntry) → to < count → out ≡ get_or outs to out → out ≡ get_or outs0 to out
  out_is out lt e = e ∙ is.left to out (omega arith) lt

  popped : (rest : List SealedEntry) (copy : SealedEntry) → copies ≡ rest ++ copy ∷ [] →
      (copy.entry.maker ≡ own) × (copy.entry.number ≡ number) × (copy.entry.number < max_actions)
  popped rest copy split =
      (All-pop (λ (x : SealedEntry). (x.entry.maker ≡ own) × (x.entry.number ≡ number) ×
      (x.entry.number < max_actions)) copies rest (Some copy) split is.are_copies).1

  -- the end that is reached is that of the link that is reached
  end_is : (link : LinkView) (out : OutView SealedEntry) → to < count → IsRowOf links own outs0 →
      link ≡ link_at links own to link → out ≡ get_or outs to out → IsOutOf link out
  end_is link out lt row there e =
      let is_out = out_is out lt e in
      let h = row.ends to link out (omega (arith, is.in_all)) in (
        ap (λ (x : OutView SealedEntry). x.queue) is_out ∙ h.0 ∙ sym (ap (λ (x : LinkView). x.queue) there),
        ap (λ (x : OutView SealedEntry). x.from) is_out ∙ h.1 ∙ sym (ap (λ (x : LinkView). x.from) there),
      )

  -- and it has the sender's number
  end_from : (link : LinkView) (out : OutView SealedEntry) → to < count → IsRowOf links own outs0 →
      link ≡ link_at links own to link → out ≡ get_or outs to out → link.from ≡ own
  end_from link out lt row there e =
      sym (end_is link out lt row there e).1 ∙ ap (λ (x : OutView SealedEntry). x.from) (out_is out lt e)
      ∙ row.from to out (omega (arith, is.in_all))

pub unreachable-requires : goal.unreachable-requires
unreachable-requires g c =
    let is = c.loop-to.invariant.on in
    let some : 0 < length c.loop-to.copies.items =
    some_left _ _ _ _ _ _ _ _ _ _ _ _ is (omega arith) (let d = c.args.outs.now.ok.0 in let n = is.in_all in
    let o = c.requires.own in omega arith) c.if-to-own.true in
    let ok = c.loop-to.copies.ok.0 in omega (arith, c.in_default.ensures.cases)

pub link-link-requires-clause-to : goal.link-link-requires-clause-to
link-link-requires-clause-to g c =
    let is = c.loop-to.invariant.on in let n = is.in_all in let row = c.requires.row.row in omega arith

pub send_one-requires-clause-end : goal.send_one-requires-clause-end
send_one-requires-clause-end g c =
    end_is _ _ _ _ _ _ _ _ _ _ _ _ c.loop-to.invariant.on c.link-link.result.now c.index_mut.result.now
    (omega arith) c.requires.row c.link-link.ensures c.index_mut.ensures.value

pub send_one-requires-clause-from : goal.send_one-requires-clause-from
send_one-requires-clause-from g c =
    (popped _ _ _ _ _ _ _ _ _ _ _ _ c.loop-to.invariant.on _ c.in-Some.copy c.in-Some.ensures.items).0
    ∙ sym (end_from _ _ _ _ _ _ _ _ _ _ _ _ c.loop-to.invariant.on c.link-link.result.now c.index_mut.result.now
    (omega arith) c.requires.row c.link-link.ensures c.index_mut.ensures.value)

pub send_one-requires-clause-small : goal.send_one-requires-clause-small
send_one-requires-clause-small g c =
    (popped _ _ _ _ _ _ _ _ _ _ _ _ c.loop-to.invariant.on _ c.in-Some.copy c.in-Some.ensures.items).2

pub send_one-requires-clause-greater : goal.send_one-requires-clause-greater
send_one-requires-clause-greater g c =
    let out = out_is _ _ _ _ _ _ _ _ _ _ _ _ c.loop-to.invariant.on c.index_mut.result.now (omega arith)
    c.index_mut.ensures.value in
    let number = (popped _ _ _ _ _ _ _ _ _ _ _ _ c.loop-to.invariant.on _ c.in-Some.copy c.in-Some.ensures.items).1 in
    let greater = c.requires.greater c.loop-to.to c.index_mut.result.now (let ok = c.args.outs.now.ok.0 in
    let n = c.loop-to.invariant.on.in_all in omega arith) c.if-to-own.true in
    let P : List SealedEntry → ℕ → Type 0 = λ l n. All (λ (before : SealedEntry). before.entry.number < n) l in
    subst (λ n. P c.index_mut.result.now.put n) (sym number)
    (subst (λ (l : List SealedEntry). P l c.args.number) (sym (ap (λ (x : OutView SealedEntry). x.put) out)) greater)

pub send_one-requires-clause-room : goal.send_one-requires-clause-room
send_one-requires-clause-room g c =
    let is = c.loop-to.invariant.on in
    let room = is.room in let n = is.in_all in let many = is.as_many in
    let a = c.loop-to.losses.ok.0 in let b = c.args.losses.now.ok.0 in let d = c.args.outs.now.ok.0 in
    omega (arith, c.requires.room, c.loop-to.invariant.capacity)

pub loop-to-preserved : goal.loop-to-preserved
loop-to-preserved g c =
    let is = c.loop-to.invariant.on in
    let lt : c.loop-to.to < c.len-count.result = omega arith in
    let Goal : Vec SealedEntry Global → Vec (OutView SealedEntry) Global → Vec Loss Global →
    Type 0 = λ copies outs losses. record {
      on : Sending c.args.links.now c.args.loses.now c.args.own c.args.number c.len-count.result c.args.copies.items
          c.args.outs.now.items
          c.args.losses.now.items (c.loop-to.to + 1) copies.items outs.items losses.items;
      capacity : vec_capacity losses ≡ vec_capacity c.args.losses.now;
    } in
    elim c.if-to-own.branch [
      | then-to-own+in-Some w ↦
          subst (λ copies. Goal copies c.if-to-own.outs c.if-to-own.losses) (sym w.copies-is)
          (subst (λ outs. Goal w.pop.new.self outs c.if-to-own.losses) (sym w.outs-is)
          (subst (λ losses. Goal w.pop.new.self (with_item c.loop-to.outs c.loop-to.to w.send_one.new.out) losses)
          (sym w.losses-is)
          (record {
            on = sending_more c.args.links.now c.args.loses.now c.args.own c.args.number c.len-count.result
                c.args.copies.items c.args.outs.now.items
                c.args.losses.now.items c.loop-to.to c.loop-to.copies.items w.pop.new.self.items w.in-Some.copy
                c.loop-to.outs.items c.loop-to.losses.items w.send_one.new.losses.items w.index_mut.result.now
                w.send_one.new.out w.is_scripted-scripted.result w.link-link.result.now
                w.if-to-own.true lt w.in-Some.ensures.items
                (λ d. get_or_default c.loop-to.outs.items c.loop-to.to d w.index_mut.result.now
                (omega (arith, is.as_many)) ∙ sym w.index_mut.ensures.value)
                w.is_scripted-scripted.ensures w.link-link.ensures
                w.send_one.ensures.sent is;
            capacity = w.send_one.ensures.capacity ∙ c.loop-to.invariant.capacity;
          })))
      | else-to-own w ↦
          subst (λ copies. Goal copies c.if-to-own.outs c.if-to-own.losses) (sym w.copies-is)
          (subst (λ outs. Goal c.loop-to.copies outs c.if-to-own.losses) (sym w.outs-is)
          (subst (λ losses. Goal c.loop-to.copies c.loop-to.outs losses) (sym w.losses-is)
          (record {
            on = sending_past c.args.links.now c.args.loses.now c.args.own c.args.number c.len-count.result
                c.args.copies.items c.args.outs.now.items
                c.args.losses.now.items c.loop-to.to c.loop-to.copies.items c.loop-to.outs.items
                c.loop-to.losses.items w.if-to-own.false lt is;
            capacity = c.loop-to.invariant.capacity;
          })))
    ]

pub returns-clause-sent : goal.returns-clause-sent
returns-clause-sent g c =
    λ e capacity maker number all holds.
    let is = c.loop-to.invariant.on in
    let ok = c.args.outs.now.ok.0 in
    let n = is.in_all in
    let count : vec_len c.args.outs.now ≡ c.len-count.result = omega arith in
    let (_, (lost, losses_are, below)) =
    is.sent e capacity maker number all (λ to l lt. holds to l (omega arith)) in
    let end : c.loop-to.to ≡ vec_len c.args.outs.now = omega arith in (
      lost,
      losses_are,
      subst (λ k. IsSentBelow c.args.loses.now capacity k e c.args.outs.now.items c.loop-to.outs.items lost) end below,
    )
