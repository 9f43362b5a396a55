use Rattle.floor_links.proofs.Imports.{◌≡◌, ◌+◌, ◌++◌, [], ◌∷◌, List, Vec, Global, refl, sym, ap, ◌∙◌, subst, arith}
use Rattle.floor_links.proofs.Imports.{vec_len, length-map, SealedEntry, InView, LinkView, AreNewRows, IsRowBelow}
use Rattle.floor_links.proofs.Makings.{AreEmpty, Inns, Outs, lists_of, lists_push, empty_more, rows_none, rows_more}
use Rattle.floor_links.proofs.making.make_links.Goals as goal

pub loop-to-init : goal.loop-to-init
loop-to-init c =
    subst (λ i. AreEmpty 0 (lists_of i)) (sym c.new-inns.ensures.items)
    (record { count = refl; empty = λ k d lt. absurd (omega arith) })

pub loop-to-preserved : goal.loop-to-preserved
loop-to-preserved c =
    let more : lists_of c.push.new.self.items ≡ lists_of c.loop-to.inns.items ++ [] ∷ [] =
    lists_push c.loop-to.inns.items c.push.new.self.items c.new.result c.in_ok-push.ensures.items
    ∙ ap (λ (l : Inns). lists_of c.loop-to.inns.items ++ l ∷ []) c.new.ensures.items in
    subst (AreEmpty (c.loop-to._to + 1)) (sym more)
    (empty_more c.loop-to._to (lists_of c.loop-to.inns.items) c.loop-to.invariant)

pub loop-from-init : goal.loop-from-init
loop-from-init c =
    let inns = lists_of c.loop-to.inns.items in
    let end : c.loop-to._to ≡ c.args.count = omega arith in
    let P : List (List LinkView) → List Outs → Type 0 = λ r o. AreNewRows 0 c.args.count c.args.capacity r o inns in
    subst (λ r. P r (lists_of c.new-outs.result.items)) (sym (ap lists_of c.new-rows.ensures.items))
    (subst (λ o. P [] o) (sym (ap lists_of c.new-outs.ensures.items))
    (rows_none c.args.count c.args.capacity inns (subst (λ n. AreEmpty n inns) end c.loop-to.invariant)))

pub loop-from-preserved : goal.loop-from-preserved
loop-from-preserved c =
    let items : Vec (InView SealedEntry) Global → Inns = λ v. v.items in
    let was = c.loop-from.invariant in
    let count : vec_len c.loop-from.inns ≡ c.args.count =
    (let l = length-map c.loop-from.inns.items items in let k = c.loop-from.inns.ok.0 in
    let t = was.takes_count in omega arith) in
    let row = subst (λ n. IsRowBelow c.loop-from.from c.args.capacity n c.in_ok-row.row.items c.in_ok-row.ends.items
    (lists_of c.loop-from.inns.items) (lists_of c.make_row.new.inns.items)) count c.in_ok-row.ensures in
    let base = rows_more c.loop-from.from c.args.count c.args.capacity (lists_of c.loop-from.rows.items)
    (lists_of c.loop-from.outs.items) (lists_of c.loop-from.inns.items) (lists_of c.make_row.new.inns.items)
    c.in_ok-row.row.items c.in_ok-row.ends.items was row in
    let P : List (List LinkView) → List Outs → Type 0 = λ r o.
    AreNewRows (c.loop-from.from + 1) c.args.count c.args.capacity r o (lists_of c.make_row.new.inns.items) in
    subst (λ r. P r (lists_of c.push-in-loop-from-2.new.self.items))
    (sym (lists_push c.loop-from.rows.items c.push-in-loop-from.new.self.items c.in_ok-row.row
    c.in_ok-push-2.ensures.items))
    (subst (λ o. P (lists_of c.loop-from.rows.items ++ c.in_ok-row.row.items ∷ []) o)
    (sym (lists_push c.loop-from.outs.items c.push-in-loop-from-2.new.self.items c.in_ok-row.ends
    c.in_ok-push-3.ensures.items)) base)

pub returns : goal.returns
returns c =
    let end : c.loop-from.from ≡ c.args.count = omega arith in
    let outs = lists_of c.loop-from.outs.items in
    let inns = lists_of c.loop-from.inns.items in
    subst (λ r. AreNewRows c.args.count c.args.count c.args.capacity r outs inns) (sym c.new-2.ensures)
    (subst (λ n. AreNewRows n c.args.count c.args.capacity (lists_of c.loop-from.rows.items) outs inns) end
    c.loop-from.invariant)
