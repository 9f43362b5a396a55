-- What survives, by what it says.
use Rattle.log_commands.proofs.Imports.{[], All-contains, ap, AreSurvivors, Completion, completions_exist, Contains}
use Rattle.log_commands.proofs.Imports.{Contains-map, Contains-map_cases, Contains-none, EntryGraph, GivesGraph}
use Rattle.log_commands.proofs.Imports.{HaveMakers, IsExact, length, List, made, node_of, Ok, order_back}
use Rattle.log_commands.proofs.Imports.{order_is_exact, order_seen, Plain, plain_of, plains, Post, refl, SealedEntry}
use Rattle.log_commands.proofs.Imports.{subst, survivors_distinct, sym, whole_back, whole_seen, ◌<◌, ◌∙◌, ◌≡◌}

module _ (machines : List Post) (given : List SealedEntry) (graph : EntryGraph SealedEntry)
    (makers : HaveMakers machines graph.survivors) (gives : GivesGraph given (Ok graph)) where
  -- the survivors' makers are in the roster, and no two have one digest
  pub are_survivors : AreSurvivors node_of (length machines) (plains graph.survivors)
  are_survivors =
      let apart = survivors_distinct given graph gives in
      record {
        in_roster = λ v there.
            let (x, in_x, to_v) = Contains-map_cases plain_of graph.survivors v there in
            subst (λ (u : Plain). u.entry.maker < length machines) to_v
            (All-contains (λ (sealed : SealedEntry). sealed.entry.maker < length machines) graph.survivors x makers in_x);
        distinct = λ v u in_v in_u same.
            let (x, in_x, to_v) = Contains-map_cases plain_of graph.survivors v in_v in
            let (z, in_z, to_u) = Contains-map_cases plain_of graph.survivors u in_u in
            let digests : x.digest ≡ z.digest =
            ap (λ (w : Plain). w.digest) to_v ∙ same ∙ ap (λ (w : Plain). w.digest) (sym to_u) in
            sym to_v ∙ ap plain_of (apart x z in_x in_z digests) ∙ to_u;
      }

  -- the survivors have a completion
  pub some_completion : (G : List Plain) × Completion node_of (length machines) (plains graph.survivors) G
  some_completion =
      completions_exist node_of (made []) (λ d. refl) (λ d. refl) (λ d e there. Contains-none e there)
      (length machines) (plains graph.survivors) are_survivors

  -- what is printed of the survivors' order is exact
  pub is_exact : IsExact (length machines) graph.survivors
  is_exact =
      let S : List SealedEntry = graph.survivors in
      let exact = λ (e f : SealedEntry) (in_e : Contains S e) (in_f : Contains S f).
      order_is_exact node_of made (λ ns d. refl) (λ ns d. refl) (λ ns d. refl) (length machines) (plains S) are_survivors
      (plain_of e) (plain_of f) (Contains-map plain_of S e in_e) (Contains-map plain_of S f in_f) in
      record {
        some = some_completion;
        before = λ e f in_e in_f. (
          λ path. (exact e f in_e in_f).0.0 (order_seen node_of plain_of S e f path),
          λ always. order_back node_of plain_of S e f in_e in_f ((exact e f in_e in_f).0.1 always),
        );
        not_before = λ e f in_e in_f. (
          λ (whole, none). (exact e f in_e in_f).1.0
              (whole_seen node_of plain_of S f in_f whole, λ path. none (order_back node_of plain_of S e f in_e in_f path)),
          λ never.
              let (whole, none) = (exact e f in_e in_f).1.1 never in
              (whole_back node_of plain_of S f whole, λ path. none (order_seen node_of plain_of S e f path)),
        );
      }
