use Rattle.rule_engine.proofs.Imports.{[], ap, get_or, get_or-map, Global, List, map, map-set, set, sym, Vec, ℕ, ◌++◌}
use Rattle.rule_engine.proofs.Imports.{◌∙◌, ◌∷◌, ◌≡◌}
use Rattle.rule_engine.proofs.index.list_at.Goals as goal

pub returns : goal.returns
returns c =
    let items : Vec ℕ Global → List ℕ = λ v. v.items in
    let lists = c.args.lists.now.items in
    let read : c.index_mut.result.now.items ≡ get_or (map items lists) c.args.at [] =
    ap items c.index_mut.ensures.value
    ∙ sym (get_or-map items lists c.args.at c.index_mut.result.now [] c.requires) in
    map-set items lists c.args.at c.push.new.self
    ∙ ap (λ (l : List ℕ). set (map items lists) c.args.at l)
    (c.in_ok-push.ensures.items ∙ ap (λ (l : List ℕ). l ++ c.args.place ∷ []) read)
