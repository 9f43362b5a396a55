-- What the proofs of this crate take from others.
pub use Rattle.broadcast_queues.specs.Ends.{FoundLinkEmpty, InView, IsInOf, IsOutOf, LinkView, OutView, TookItem}
pub use Rattle.election_script.specs.Lawful.{IsLawful, max_actions}
pub use Rattle.election_script.specs.declared.script.{Cast0.Cast0, Lose.Lose, Script.Script, StopAt.StopAt}
pub use Rattle.entangled_log.specs.Logs.{History}
pub use Rattle.entry_format.specs.{Nodes.node_of_sealed, SealedEntry.SealedEntry, declared.deed.Deed.Deed}
pub use Rattle.entry_order.proofs.{Histories.sent_few, Lists.Contains-filter_cases}
pub use Rattle.entry_order.proofs.Lists.{Contains-flat_map, Contains-flat_map_cases, Contains-head, Contains-later}
pub use Rattle.entry_order.proofs.Lists.{Contains-none, filter_all, list_any_of, list_any_some}
pub use Rattle.entry_order.proofs.Orders.{Contains-sent_cases, member_split}
pub use Rattle.entry_order.proofs.Places.{all_at, element_at, member_at, place_of}
pub use Rattle.entry_order.specs.{History.IsLegal, History.sent, World.history, World.history_of}
pub use Rattle.entry_order.specs.declared.event.Event.{Event, TheVariants.Got, TheVariants.Sent}
pub use Rattle.finished_floor.proofs.Arriving.{gathered, is_of_parts, itself, other_from, other_number, other_to}
pub use Rattle.finished_floor.proofs.{Caused.all_by, Events.going_on, Events.held_more, Handed.stopped_there}
pub use Rattle.finished_floor.proofs.{Lists.filter_twice, Numbers.numbers_below, Numbers.rising_sent, Once.differ_sym}
pub use Rattle.finished_floor.proofs.{Once.once_append, Pushes.sent-got, Pushes.sent-push}
pub use Rattle.finished_floor.specs.Arrivals.{AreOnce, arriving, Differ, got_from, is_lost, is_of}
pub use Rattle.finished_floor.specs.Balance.{IsBalanced}
pub use Rattle.finished_floor.specs.Floors.{AreGathered, IsCauseSoFar, pass_of, passes_of}
pub use Rattle.finished_floor.specs.Losses.{AreLostAsScripted, is_before_link, is_kept_off, IsOnWay, put_before}
pub use Rattle.finished_floor.specs.{OfEntries.loss_of, Placed.count_sent, Places.IsMachineOf, Places.IsStopOf}
pub use Rattle.finished_floor.specs.{Scripted.is_scripted, Waits.AreOnWay, Waits.waits_of, declared.loss.Loss.Loss}
pub use Rattle.finished_floor.specs.declared.loss.LossWhy.{LossWhy, TheVariants.LinkFull}
pub use Rattle.finished_floor.specs.declared.loss.LossWhy.TheVariants.{LogFull, SameDigest, Scripted, ToStopped}
pub use Rattle.finished_floor.specs.declared.sweeping.Waiting.{Waiting}
pub use Rattle.floor_links.proofs.Ends.{got_from-here, got_from-other, got_from-sent, none_of, other_way, puts_more}
pub use Rattle.floor_links.proofs.Ends.{takes_heard, takes_lost}
pub use Rattle.floor_links.proofs.Makings.{Inns, last_of, lists_of, lists_push, Outs}
pub use Rattle.floor_links.proofs.Ways.{named_is_lost, put_grows, put_or_lost, way_of_loss}
pub use Rattle.floor_links.specs.{Fresh.AreNewLinks, Fresh.in_of, Fresh.out_of, Rows.HaveCapacity, Rows.IsRowOf}
pub use Rattle.floor_links.specs.{Rows.link_at, Sendings.AreCopies, Sendings.IsSentBelow, Sendings.IsWay}
pub use Rattle.lms_sign.specs.Secret.{Secret}
pub use Rattle.log_lock.specs.{Ticks.ticks_since, declared.story.Tick.Tick}
pub use Rattle.machine_floor.specs.{Fresh.AreNewStations, Fresh.IsNewStation, Fresh.lose_lines_of, Stations.IsInCause}
pub use Rattle.machine_floor.specs.Stations.{IsOfEar, IsOfHand, IsOfLinks, IsOutCause, IsStation, IsTakenWell, made_of}
pub use Rattle.machine_floor.specs.Stations.{new_in, new_out, numbered_below, StationState, ticks_from}
pub use Rattle.machine_floor.specs.Turns.{cause_of, EarDid, EarFoundNone, EarTook, HandDid, HasLooked, IsFate, IsLook}
pub use Rattle.machine_floor.specs.Viewing.{state_of}
pub use Rattle.machine_floor.specs.inside.Beginning.{begun, HasBegun, IsBeginning}
pub use Rattle.machine_floor.specs.inside.Gathering.{AreEndsOf, AreMadeBy, AreParts, ArePopped, AreRests, by_of, in_at}
pub use Rattle.machine_floor.specs.inside.Gathering.{IsAdded, IsRest, IsRowFinished, IsRowOfEnds, out_at, waiting}
pub use Rattle.polling_world.proofs.{MadeEntries.may_follow, Placing.get-map, Placing.get-map_from}
pub use Rattle.polling_world.proofs.WorldMaking.{push_cases, rest_none, rest_step}
pub use Rattle.polling_world.specs.{Acting.IsDone, Configs.Config, Hearing.IsHeard, Hearing.machine_after, Keys.IsKeyOf}
pub use Rattle.polling_world.specs.{Keys.key_of, Keys.roster_of, Machines.IsFresh, Machines.IsMachine, Machines.log_of}
pub use Rattle.polling_world.specs.{Machines.MachineState, Machines.with_event, Waiting.IsGoing, Worlds.machine_of}
pub use Rattle.polling_world.specs.{Worlds.world_of, declared.heard.MachineHeard.MachineHeard}
pub use Rattle.roster.specs.{Machines.max_machines, declared.post.Post.Post}
pub use Rattle.std.proofs.Common.{[], add-one, add-zero, ap, append_assoc, arith, below_more, Bool, cond, drop, Err}
pub use Rattle.std.proofs.Common.{false, get_or, get_or-set_other, get_or-set_same, Global, inl, inr, length}
pub use Rattle.std.proofs.Common.{length-append, List, map, None, Ok, Option, refl, Result, set, Some, subst, suc, sym}
pub use Rattle.std.proofs.Common.{take, true, Vec, vec_items, vec_len, zero, ℕ, ◌++◌, ◌+◌, ◌<◌, ◌∙◌, ◌∷◌, ◌≡◌, ◌≢◌, ◌≤◌}
pub use Rattle.std.proofs.{Common.◌⊎◌, Math.ListN.length-set, lemmas.Bool.and_from}
pub use Rattle.std.proofs.lemmas.Bool.{and_left, and_parts, and_right, cases_Bool, cases_eq, cases_lt, eq-eqb, lt-ltb}
pub use Rattle.std.proofs.lemmas.Bool.{ne_eqb, not-true, not_from_false, or_cases, or_left, or_right, true≢false}
pub use Rattle.std.proofs.lemmas.{Grind.flat_map-append, List.append-nil, List.get_or-append-add}
pub use Rattle.std.proofs.lemmas.List.{get_or-map, get_or_append_left, get_or_default, length-map, map-append, map-set}
pub use Rattle.std.proofs.lemmas.List.{take-append-drop, take_more, Elements.All-append, Elements.All-cons}
pub use Rattle.std.proofs.lemmas.List.Elements.{All-contains, All-filter, All-head, All-map, All-nil, All-push}
pub use Rattle.std.proofs.lemmas.List.Elements.{All-replicate, All-weaker, at_from_Contains, Contains-append_left}
pub use Rattle.std.proofs.lemmas.List.Elements.{Contains-append_right, Contains-get_or, Contains-push}
pub use Rattle.std.proofs.lemmas.List.{Elements.Contains-push_cases, Elements.filter-append, Kept.AllPairs-filter}
pub use Rattle.std.proofs.lemmas.List.{Prefix.front_rest, Quantifiers.all_pairs_push, Sums.sum_by-le, Sums.sum_by-set}
pub use Rattle.std.proofs.lemmas.Option.{get_or_from_slice_get, same_Some, slice_get-get_or, slice_get_within}
pub use Rattle.std.proofs.lemmas.Result.{IfOk-weaker}
pub use Rattle.std.specs.List.{AllPairs, AllZip, Contains, filter, flat_map, sum_by}
pub use Rattle.std.specs.Prelude.{All, IfOk, nat_lt, not, OnErr, slice_get, slice_set, ◌&&◌, ◌==◌, ◌||◌}
pub use Rattle.std.specs.{Vec.Iter.into_iter_items, Vec.Iter.into_iter_len, declared.alloc.AllocError.AllocError}
pub use mathlib.Core.List.{IsPrefix}
pub use mir.Val.{bool_byte}
