-- What the proofs of this crate take from others.
pub use Rattle.election_script.specs.Lawful.{IsLawful, max_events}
pub use Rattle.election_script.specs.declared.script.{Cast0.Cast0, Lose.Lose, Script.Script, StopAt.StopAt}
pub use Rattle.entry_format.specs.{Nodes.node_of_sealed, SealedEntry.SealedEntry}
pub use Rattle.entry_order.proofs.{Comparisons.less, Comparisons.level, FewStamps.stamps_are_few}
pub use Rattle.entry_order.proofs.Histories.{IsLegal-none, new_from_may, nth_split, sent-append, sent_as_many}
pub use Rattle.entry_order.proofs.{Histories.sent_one_more, Lists.Contains-at, Lists.Contains-cons_cases}
pub use Rattle.entry_order.proofs.Lists.{Contains-filter, Contains-filter_cases, Contains-head, Contains-later}
pub use Rattle.entry_order.proofs.Lists.{Contains-map, Contains-map_cases, Contains-none, filter_all, list_any_of}
pub use Rattle.entry_order.proofs.{Lists.list_any_some, Machines.get_other, Machines.get_same, Machines.in_world}
pub use Rattle.entry_order.proofs.{Merged.merged_is_played_again, Orders.Contains-sent, Orders.Contains-sent_cases}
pub use Rattle.entry_order.proofs.{Orders.member_split, Orders.sent_in_from, Places.one_at}
pub use Rattle.entry_order.specs.History.{entry_of, held, IsLegal, MayFollow, sent}
pub use Rattle.entry_order.specs.{Made.IsMadeBy, Merged.IsMergedOf, Merged.PlacedEvent, Merged.step_of, Naming.Distinct}
pub use Rattle.entry_order.specs.{Naming.IsBorneIn, Node.Node, Receipt.IsOrderly, Receipt.StampsAreFew}
pub use Rattle.entry_order.specs.World.{append, history, history_of, Machine, play, sent_in, start, with_machine, World}
pub use Rattle.entry_order.specs.declared.event.Event.{Event, TheVariants.Got, TheVariants.Sent}
pub use Rattle.entry_order.specs.declared.step.Step.{Step}
pub use Rattle.finished_floor.specs.Arrivals.{AreOnce, arriving, Differ, got, got_from, is_lost, is_of}
pub use Rattle.finished_floor.specs.{Balance.IsBalanced, Done.did, Floors.AreBy, Floors.AreGathered}
pub use Rattle.finished_floor.specs.Floors.{ArePlayedAgain, IsBy, IsCauseSoFar, IsFloorOf, pass_of, passes_of}
pub use Rattle.finished_floor.specs.{Laws.EachIsHeardOrLost, Losses.AreLostAsScripted, Losses.HoldsAnother}
pub use Rattle.finished_floor.specs.Losses.{is_before_link, is_kept_off, IsCauseOf, IsGotOrLost, IsOnWay, IsToldBefore}
pub use Rattle.finished_floor.specs.{Losses.LosesNothing, Losses.put_before, OfEntries.loss_of, OfEntries.lost_by}
pub use Rattle.finished_floor.specs.Placed.{AreMadeByThese, AreOfSent, ArePlaced, count_sent, HasGrown, HaveGrown, IsAt}
pub use Rattle.finished_floor.specs.Places.{AreMachinesOf, IsAtEnd, IsMachineOf, IsStopOf}
pub use Rattle.finished_floor.specs.{Scripted.is_scripted, Swept.AreScripted, Swept.HoldsSame, Swept.IsLicensed}
pub use Rattle.finished_floor.specs.{Swept.IsLossCause, Waits.AreOnWay, Waits.waits_of, Wholes.IsWholeRun}
pub use Rattle.finished_floor.specs.declared.{handing.SweptFloor.SweptFloor, loss.Loss.Loss, loss.LossWhy.LossWhy}
pub use Rattle.finished_floor.specs.declared.loss.LossWhy.TheVariants.{LinkFull, LogFull, SameDigest, Scripted}
pub use Rattle.finished_floor.specs.declared.{loss.LossWhy.TheVariants.ToStopped, sweeping.Waiting.Waiting}
pub use Rattle.finished_floor.specs.inside.{Begun.IsBegunBy, Fates.AreNumbered, Fates.IsFate, Fates.IsHanded}
pub use Rattle.finished_floor.specs.inside.Steps.{actions_left, AreStillBelow, IsNumbered, IsStill, IsStillAt, IsSwept}
pub use Rattle.finished_floor.specs.inside.Steps.{IsTurn, IsWaiting, no_waits, SweepsOn, Waits, waits_from}
pub use Rattle.polling_world.proofs.{Growing.sent_in_few, Keeping.IsMachine-event, MadeEntries.may_follow}
pub use Rattle.polling_world.proofs.Placing.{get-map, get-map_from, history_there, set_cases, set_get, set_same}
pub use Rattle.polling_world.proofs.{Taking.stands_at, WorldMaking.fresh_configs}
pub use Rattle.polling_world.specs.{Acting.IsActed, Acting.IsDone, Configs.Config, Configs.config_of}
pub use Rattle.polling_world.specs.{Configs.script_configs, Hearing.IsHeard, Keys.roster_of, Machines.has_stopped}
pub use Rattle.polling_world.specs.Machines.{is_reached, IsFresh, IsMachine, IsWithinStop, MachineState, with_event}
pub use Rattle.polling_world.specs.{Making.next_entry, Sending.MaySend, Waiting.IsGoing, Waiting.IsStampSpent}
pub use Rattle.polling_world.specs.Worlds.{configs_of, IsNextAt, IsNextOf, machine_of, TellsNext, world_of}
pub use Rattle.polling_world.specs.declared.acted.Acted.{Acted}
pub use Rattle.roster.specs.{Machines.max_machines, declared.post.Post.Post}
pub use Rattle.std.proofs.Common.{[], ap, arith, Bool, cond, false, get_or, Global, inl, inr, length, length-append}
pub use Rattle.std.proofs.Common.{List, map, None, Option, refl, replicate, rules, Some, subst, suc, sym, true, Vec}
pub use Rattle.std.proofs.Common.{zero, ℕ, ◌*◌, ◌++◌, ◌+◌, ◌-◌, ◌<◌, ◌∙◌, ◌∷◌, ◌≡◌, ◌≢◌, ◌≤◌, ◌⊎◌}
pub use Rattle.std.proofs.lemmas.Bool.{and_from, and_left, and_parts, and_right, cases_Bool, cases_eq, cases_lt}
pub use Rattle.std.proofs.lemmas.Bool.{cases_order, eq-eqb, eqb-true, le-leb, le-ltb, leb-true, lt-leb, ne_eqb}
pub use Rattle.std.proofs.lemmas.Bool.{not-true, not_from_false, not_from_true, or_parts, or_right, true≢false}
pub use Rattle.std.proofs.lemmas.{Bool.Decides.nat_tests, Cmp.nat_cmp_total, Fn.always_returns_same}
pub use Rattle.std.proofs.lemmas.List.{append-nil, append_assoc, get_or-append-add, get_or-append_right}
pub use Rattle.std.proofs.lemmas.List.{get_or_append_left, length-map, length-replicate, map-append, nil_from_length}
pub use Rattle.std.proofs.lemmas.List.{replicate-append-replicate}
pub use Rattle.std.proofs.lemmas.List.Elements.{All-contains, All-from_recursion, All-head, All-nil, All-pop, All-push}
pub use Rattle.std.proofs.lemmas.List.Elements.{All-replicate, All-rest, All-tail, All-weaker, at_from_Contains}
pub use Rattle.std.proofs.lemmas.List.Elements.{Contains-append_cases, Contains-append_left, Contains-append_right}
pub use Rattle.std.proofs.lemmas.List.Elements.{Contains-get_or, Contains-push_cases, filter-append, recursion_from_All}
pub use Rattle.std.proofs.lemmas.List.Folds.{list_any-append, list_any_none}
pub use Rattle.std.proofs.lemmas.List.{Kept.AllPairs-cons, Kept.AllPairs-filter, Quantifiers.all_pairs_push}
pub use Rattle.std.proofs.lemmas.List.Sorted.{Contains-permutation, IsPermutation-sym, list_any-IsPermutation, ranks_by}
pub use Rattle.std.proofs.lemmas.{List.Sorted.sorted_far, Map.Keys.IsDistinct-IsPermutation}
pub use Rattle.std.proofs.lemmas.Option.{get_or_from_slice_get, same_Some, slice_get-get_or, slice_get_cases}
pub use Rattle.std.proofs.lemmas.Option.{slice_get_past, slice_get_read, slice_get_within}
pub use Rattle.std.specs.{Cmp.IsTotalOrder, Cmp.on_total, Cmp.then_total, List.AllPairs, List.AllZip, List.Contains}
pub use Rattle.std.specs.List.{filter, flat_map, HoldsAt, list_any, Sorted.IsPermutation, Sorted.IsSortedByKey}
pub use Rattle.std.specs.{Ordering.is_lt, Ordering.nat_cmp, Ordering.ordering_then, Prelude.All}
pub use Rattle.std.specs.Prelude.{IsTrue, nat_le, nat_lt, not, slice_get, slice_index_or, slice_set, ◌&&◌, ◌==◌, ◌||◌}
pub use Rattle.std.specs.declared.cmp.Ordering.{Ordering, TheVariants.Equal, TheVariants.Greater, TheVariants.Less}
unfoldable pub use Rattle.std.specs.List.{IsDistinct}
