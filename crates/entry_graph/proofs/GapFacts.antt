-- The gaps of entries, by a table of their places.
use Rattle.entry_graph.proofs.Imports.{ap, ArePlaces, Bool, false, filter, gaps, has_digest, has_digest_from}
use Rattle.entry_graph.proofs.Imports.{has_digest_of, is_none, List, member_at, Node, None, not, number_at, Option}
use Rattle.entry_graph.proofs.Imports.{place_of, refl, Some, sym, true, ℕ, ◌∙◌, ◌≡◌}
use Rattle.entry_order.specs.Ascending.{ascending}
use Rattle.std.specs.List.{flat_map}
use mathlib.Core.Path.{fun_ext}

module _ {T : Type 0} (node : T → Node) (S : List T) (table : List (List ℕ × ℕ)) (places : ArePlaces node S table) where
  -- a digest is at no place exactly if no entry has it
  at_none : (d : List ℕ) → is_none (number_at table d) ≡ not (has_digest node S d)
  at_none d = by (number_at table d) refl (has_digest node S d) refl
    where
      -- by whether it is at a place, and whether an entry has it
      by : (o : Option ℕ) → number_at table d ≡ o → (b : Bool) → has_digest node S d ≡ b → is_none o ≡ not b
      by None at true has =
          let (e, there, same) = has_digest_from node S d has in
          let (n, stands) = place_of S e there in
          absurd (places.lacks d n at (e, stands, same))
      by None at false has = refl
      by (Some n) at true has = refl
      by (Some n) at false has =
          let (e, stands, same) = places.found d n at in
          let found : has_digest node S d ≡ true = has_digest_of node S d (e, member_at S n e stands, same) in
          let no : true ≡ false = sym found ∙ has in cc

  -- so what is at no place of what they name, ascending, are their gaps
  pub gaps_at_none : ascending (filter (λ d. is_none (number_at table d)) (flat_map (λ e. (node e).names) S)) ≡ gaps node S
  gaps_at_none =
      ap (λ (p : List ℕ → Bool). ascending (filter p (flat_map (λ e. (node e).names) S)))
      (fun_ext (λ (d : List ℕ). at_none d))
