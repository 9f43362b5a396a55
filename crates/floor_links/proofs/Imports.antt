-- What the proofs of this crate take from others.
pub use Rattle.broadcast_queues.specs.Ends.{InView, IsNewIn, IsNewOut, IsOutOf, LinkView, OutView}
pub use Rattle.election_script.specs.{Lawful.max_actions, declared.script.Lose.Lose}
pub use Rattle.entry_format.specs.{Nodes.node_of_sealed, SealedEntry.SealedEntry}
pub use Rattle.entry_order.proofs.Lists.{list_any_of}
pub use Rattle.entry_order.specs.declared.event.Event.{Event, TheVariants.Got, TheVariants.Sent}
pub use Rattle.finished_floor.proofs.Arriving.{arriving_kept, arriving_lost, arriving_same, itself, lost_either}
pub use Rattle.finished_floor.proofs.Arriving.{lost_now, lost_push, other_from, other_number, other_to}
pub use Rattle.finished_floor.proofs.Pushes.{got-push, got-sent}
pub use Rattle.finished_floor.specs.Arrivals.{arriving, got, got_from, is_lost, is_of}
pub use Rattle.finished_floor.specs.{OfEntries.loss_of, OfEntries.lost_by, Scripted.is_scripted}
pub use Rattle.finished_floor.specs.declared.loss.{Loss.Loss, LossWhy.LossWhy, LossWhy.TheVariants.LinkFull}
pub use Rattle.finished_floor.specs.declared.loss.LossWhy.TheVariants.{LogFull, SameDigest, Scripted, ToStopped}
pub use Rattle.floor_links.specs.Fresh.{AreNewRows, in_of, IsLinkOf, out_of}
pub use Rattle.floor_links.specs.Rows.{HaveCapacity, IsRowOf, link_at}
pub use Rattle.floor_links.specs.Sendings.{AreCopies, IsSentBelow, IsSentOn, IsSentTo, IsTold, IsWay}
pub use Rattle.floor_links.specs.inside.Growing.{IsRowBelow}
pub use Rattle.std.proofs.Common.{[], ap, arith, Bool, cond, false, get_or, get_or-set_other, get_or-set_same, Global}
pub use Rattle.std.proofs.Common.{inl, inr, length, length-append, List, map, None, Option, refl, set, Some, subst, suc}
pub use Rattle.std.proofs.Common.{sym, true, Vec, vec_capacity, vec_len, zero, ℕ, ◌++◌, ◌+◌, ◌<◌, ◌∙◌, ◌∷◌, ◌≡◌, ◌≢◌}
pub use Rattle.std.proofs.{Common.◌≤◌, Common.◌⊎◌, Math.Bool.or-false, Math.ListN.length-set}
pub use Rattle.std.proofs.lemmas.Bool.{cases_eq, cases_lt, eq-eqb, ne_eqb, true≢false}
pub use Rattle.std.proofs.lemmas.List.{append-nil, append_assoc, get_or-map, get_or_append_left, get_or_default}
pub use Rattle.std.proofs.lemmas.List.{length-map, map-append, map-set}
pub use Rattle.std.proofs.lemmas.List.Elements.{All-append, All-contains, All-nil, All-pop, All-push, at_from_Contains}
pub use Rattle.std.proofs.lemmas.List.Elements.{Contains-append_left, Contains-push, filter-append}
pub use Rattle.std.proofs.lemmas.List.{Folds.list_any_none, Quantifiers.all_pairs_push}
pub use Rattle.std.specs.List.{Contains, filter}
pub use Rattle.std.specs.{Prelude.All, Prelude.AllPairs, Prelude.◌==◌, Prelude.◌||◌, Vec.with_item}
