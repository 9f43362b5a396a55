-- What is asked of the events is asked of their entries.
use Rattle.entry_order.proofs.{Images.same_digests, Images.same_named, Imports.entry_of}
use Rattle.entry_order.proofs.Imports.{Event, frontier, greatest_stamp, has_digest, held, List, max, Node, sym, ℕ, ◌≡◌}
use Rattle.std.proofs.lemmas.{List.Folds.fold-map, Simd.map-map}

module _ {T : Type 0} (node : T → Node) where
  -- what an event shows is what its entry shows
  abbrev pub node_of_event : Event T → Node
  node_of_event x = node (entry_of x)

  -- an event has a digest where its entry has it
  pub has_digest_held : (h : List (Event T)) (d : List ℕ) → has_digest node_of_event h d ≡ has_digest node (held h) d
  has_digest_held h d = sym (same_digests node entry_of h d)

  -- the frontier of the events is that of the entries held
  pub frontier_held : (h : List (Event T)) → frontier node_of_event h ≡ frontier node (held h)
  frontier_held h = simp (map-map, same_named node entry_of)

  -- the greatest stamp of the events is that of the entries held
  pub greatest_stamp_held : (h : List (Event T)) → greatest_stamp node_of_event h ≡ greatest_stamp node (held h)
  greatest_stamp_held h = sym (fold-map (λ top e. max top (node e).stamp) entry_of 0 h)
