use Rattle.floor_links.proofs.Imports.{◌≡◌, ◌+◌, ◌<◌, ◌++◌, [], ◌∷◌, List, length, Vec, Global, sym, subst, arith}
use Rattle.floor_links.proofs.Imports.{vec_len, length-map, SealedEntry, InView, LinkView, IsRowBelow}
use Rattle.floor_links.proofs.Makings.{Inns, Outs, lists_of, row_none, row_more}
use Rattle.floor_links.proofs.making.make_row.Goals as goal

pub loop-to-init : goal.loop-to-init
loop-to-init c =
    let inns = lists_of c.args.inns.now.items in
    let P : List LinkView → Outs → Type 0 = λ r o. IsRowBelow c.args.from c.args.capacity 0 r o inns inns in
    subst (λ r. P r c.new-outs.result.items) (sym c.new-row.ensures.items)
    (subst (λ o. P [] o) (sym c.new-outs.ensures.items) (row_none c.args.from c.args.capacity inns))

pub push_at-requires : goal.push_at-requires
push_at-requires c =
    let items : Vec (InView SealedEntry) Global → Inns = λ v. v.items in
    let same = c.loop-to.invariant.takes_count in
    let now = length-map c.loop-to.inns.items items in
    let was = length-map c.args.inns.now.items items in
    let a = c.loop-to.inns.ok.0 in
    let b = c.args.inns.now.ok.0 in
    omega arith

pub loop-to-preserved : goal.loop-to-preserved
loop-to-preserved c =
    let items : Vec (InView SealedEntry) Global → Inns = λ v. v.items in
    let before : List Inns = lists_of c.args.inns.now.items in
    let within : c.loop-to.to < length before =
    (let l = length-map c.args.inns.now.items items in let k = c.args.inns.now.ok.0 in omega arith) in
    let made = c.in_ok-link.ensures in
    let row : List LinkView = c.loop-to.row.items ++ c.in_ok-link.link ∷ [] in
    let outs : Outs = c.loop-to.outs.items ++ c.in_ok-link.out ∷ [] in
    let P : List LinkView → Outs → List Inns → Type 0 = λ r o i.
    IsRowBelow c.args.from c.args.capacity (c.loop-to.to + 1) r o before i in
    subst (λ r. P r c.push-in-loop-to.new.self.items (lists_of c.push_at.new.inns.items))
    (sym c.in_ok-push.ensures.items)
    (subst (λ o. P row o (lists_of c.push_at.new.inns.items)) (sym c.in_ok-push-2.ensures.items)
    (subst (λ i. P row outs i) (sym c.in_ok-push_at.ensures)
    (row_more c.args.from c.args.capacity c.loop-to.to c.loop-to.row.items c.loop-to.outs.items before
    (lists_of c.loop-to.inns.items) c.in_ok-link.link c.in_ok-link.out c.in_ok-link.inn c.loop-to.invariant within
    made.link made.out made.inn)))

pub returns : goal.returns
returns c =
    let end : c.loop-to.to ≡ vec_len c.args.inns.now = omega arith in
    subst (λ n. IsRowBelow c.args.from c.args.capacity n c.loop-to.row.items c.loop-to.outs.items
    (lists_of c.args.inns.now.items) (lists_of c.loop-to.inns.items)) end c.loop-to.invariant
