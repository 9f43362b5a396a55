use Rattle.floor_links.proofs.Imports.{◌≡◌, ◌++◌, [], ◌∷◌, set, get_or, Vec, Global, sym, ap, ◌∙◌, arith, map-set}
use Rattle.floor_links.proofs.Imports.{get_or-map, SealedEntry, InView}
use Rattle.floor_links.proofs.Makings.{Inns, lists_of}
use Rattle.floor_links.proofs.making.push_at.Goals as goal

pub returns : goal.returns
returns c =
    let items : Vec (InView SealedEntry) Global → Inns = λ v. v.items in
    let inns = c.args.inns.now.items in
    let read : c.index_mut.result.now.items ≡ get_or (lists_of inns) c.args.to [] =
    ap items c.index_mut.ensures.value ∙ sym (get_or-map items inns c.args.to c.index_mut.result.now []
    (let k = c.args.inns.now.ok.0 in let r = c.requires in omega arith)) in
    map-set items inns c.args.to c.push.new.self
    ∙ ap (λ (l : Inns). set (lists_of inns) c.args.to l)
    (c.in_ok-push.ensures.items ∙ ap (λ (l : Inns). l ++ c.args.inn ∷ []) read)
