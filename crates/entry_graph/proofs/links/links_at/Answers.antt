use Rattle.entry_graph.proofs.links.links_at.Goals as goal
use Rattle.entry_graph.proofs.Imports.{[], ap, append-nil, get_or, length, Links, List, None, number_at, Option}
use Rattle.entry_graph.proofs.Imports.{or-false, or_right, refl, rules, Some, sym, true, with_next, ℕ, ◌++◌, ◌<◌, ◌∙◌}
use Rattle.entry_graph.proofs.{Imports.◌∷◌, Imports.◌≡◌, LinkFacts.next_links}
use Rattle.entry_graph.proofs.links.links_at.Goals.{in-None, in-Some+in_ok-push-in-Some}

-- one name more
pub loop-name-preserved : goal.loop-name-preserved
loop-name-preserved c =
    let names = c.args.names.now in
    let place : List ℕ → Option ℕ = number_at c.args.places.now in
    let i = c.loop-name.name-index in
    let name : List ℕ = get_or names i [] in
    let within : i < length names = c.loop-name-test.true in
    let is : name ≡ get_or names i name = search rules in
    let parents = c.loop-name.parents.items in
    let before : Links = record { parents = parents; ragged = c.loop-name.ragged } in
    let next = next_links place names i name before within is c.loop-name.invariant in
    elim c.match-get.branch [
      | in-Some+in_ok-push-in-Some w ↦
          (let at : place name ≡ Some w.in-Some.place = search rules in
          let pushed : c.match-get.parents.items ≡ parents ++ w.in-Some.place ∷ [] = search rules in
          let same : before.ragged ≡ c.match-get.ragged = sym w.ragged-is in
          (λ k. record { parents = pushed k; ragged = (sym same ∙ sym (or-false before.ragged)) k })
          ∙ ap (with_next before) (sym at) ∙ next)
      | in-None w ↦
          (let none : place name ≡ None = search rules in
          let same : c.match-get.parents.items ≡ parents = ap (λ v. v.items) w.parents-is in
          let ragged : c.match-get.ragged ≡ true = w.ragged-is in
          (λ k. record {
            parents = (same ∙ sym (append-nil parents)) k;
            ragged = (ragged ∙ sym (or_right before.ragged true refl)) k;
          })
          ∙ ap (with_next before) (sym none) ∙ next)
    ]
