-- What the proofs of this crate take from others.
pub use Rattle.entangled_log.specs.{Logs.History, Nexts.HasGreatestStamp, Whole.NamesOnlyHeld}
pub use Rattle.entangled_log.specs.inside.Kept.{AreOwn, IsKept, own_after}
pub use Rattle.entry_order.proofs.{Held.frontier_held, Held.has_digest_held, Histories.few_sent}
pub use Rattle.entry_order.proofs.Histories.{greatest_push, IsLegal-none, IsLegal-push, new_from_may, sent-append}
pub use Rattle.entry_order.proofs.{Histories.sent_few, Lists.Contains-head, Lists.Contains-later, Lists.Contains-map}
pub use Rattle.entry_order.proofs.{Lists.Contains-map_cases, Naming.has_digest_from, Naming.has_digest_of}
pub use Rattle.entry_order.proofs.{Places.last_at, Places.member_at, Places.push_before, Stamps.stamp_below}
pub use Rattle.entry_order.specs.Ascending.{ascending}
pub use Rattle.entry_order.specs.History.{entry_of, greatest_stamp, held, IsLegal, MayFollow, sent}
pub use Rattle.entry_order.specs.{Naming.has_digest, Naming.IsBorneIn, Node.Node, Survivors.gaps}
pub use Rattle.entry_order.specs.declared.event.Event.{Event, TheVariants.Got, TheVariants.Sent}
pub use Rattle.log_frontier.proofs.Tables.{lacks_decides}
pub use Rattle.log_frontier.specs.Places.{digest_at, HasNoDigestTwice, IsBorneAt, IsFrontierAt, NamesUnborne, Places}
pub use Rattle.log_frontier.specs.{Places.StandsFor, inside.Noting.lacks_some}
pub use Rattle.std.proofs.Common.{[], ap, arith, Bool, false, get_or, inl, inr, length, length-append, List, map, max}
pub use Rattle.std.proofs.Common.{refl, rules, subst, suc, sym, take, true, vec_capacity, zero, ℕ, ◌++◌, ◌+◌, ◌<◌, ◌∙◌}
pub use Rattle.std.proofs.Common.{◌∷◌, ◌≡◌, ◌≤◌, ◌⊎◌}
pub use Rattle.std.proofs.lemmas.Bool.{cases_lt, false_from_ne_true, not-true, not_from_false, true≢false}
pub use Rattle.std.proofs.lemmas.List.{length-map, map_push, Elements.filter_agree, Folds.flat_map-map}
pub use Rattle.std.proofs.lemmas.Option.{same_Some, slice_get_past, slice_get_read, slice_get_within}
pub use Rattle.std.proofs.lemmas.Result.{IfOk-weaker}
pub use Rattle.std.specs.{List.Contains, List.filter, List.flat_map, List.fold, Option.SomeIff}
pub use Rattle.std.specs.Prelude.{IsNone, IsTrue, not, option_map, slice_get, ◌^◌, ◌↔◌}
