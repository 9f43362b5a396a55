-- What the proofs of this crate take from others.
pub use Rattle.entangled_log.specs.Logs.{History}
pub use Rattle.entry_format.specs.{Nodes.node_of_sealed, SealedEntry.SealedEntry}
pub use Rattle.entry_order.proofs.{Apart.DigestsDiffer, Apart.few_among, Completions.gap_cases}
pub use Rattle.entry_order.proofs.{Completions.gap_or_bearer, Histories.new_from_may, Histories.sent-append}
pub use Rattle.entry_order.proofs.Lists.{Contains-cons_cases, Contains-head, Contains-later, Contains-map}
pub use Rattle.entry_order.proofs.{Lists.Contains-map_cases, Lists.Contains-none, Machines.get_same}
pub use Rattle.entry_order.proofs.{Machines.length_play, Machines.nth_of_sent, Naming.has_digest_from}
pub use Rattle.entry_order.proofs.Orders.{Contains-sent_cases, member_split, sent_in_from, was_sent}
pub use Rattle.entry_order.proofs.{Places.member_at, Plays.Grows-step, Plays.IsOrderly-play}
pub use Rattle.entry_order.specs.History.{entry_of, held, IsLegal, sent}
pub use Rattle.entry_order.specs.{Naming.has_digest, Naming.IsBorneIn, Node.Node, Receipt.IsOrderly, Survivors.gaps}
pub use Rattle.entry_order.specs.World.{append, cannot_hear, happens, hear, history, history_of, Machine, play, send}
pub use Rattle.entry_order.specs.World.{sent_in, with_machine, World}
pub use Rattle.entry_order.specs.declared.event.Event.{Event, TheVariants.Got, TheVariants.Sent}
pub use Rattle.entry_order.specs.declared.step.Step.{Step, TheVariants.Act, TheVariants.Hear, TheVariants.Stop}
pub use Rattle.log_repair.specs.Laws.{HistoriesOnlyGrow, MendingIsAPlay, MendingIsShort, RunningMachinesAreMended}
pub use Rattle.log_repair.specs.Laws.{SendsWithRoom, WorldsAreMendedInOneWay}
pub use Rattle.log_repair.specs.Mending.{acts, ActsOn, answer_of, Asks, bearer, Finishes, found_by_digest, goes_on}
pub use Rattle.log_repair.specs.Mending.{HearsOf, is_idle, is_mended, Repairs, TakesRound, TakesTurn, wants}
pub use Rattle.log_repair.specs.Outcomes.{AreMended, IsMended, LeadsTo, NoneAnswers, WorldWay}
pub use Rattle.log_repair.specs.Sequences.{InOrder, TakesNone, TakesStep}
pub use Rattle.log_repair.specs.inside.Adding.{Adds, AddsEvent, Completes, Fails, Going, IsMadeAsBefore, NextEntry}
pub use Rattle.log_repair.specs.inside.{Adding.Says, Adding.Stays, Totals.room, Totals.spare, Totals.total}
pub use Rattle.polling_world.proofs.{NextTold.next_of, NextTold.tells_next, Placing.get-map, Placing.stopped_by_mark}
pub use Rattle.polling_world.specs.{Machines.has_stopped, Machines.MachineState, Steps.IsStepOf}
pub use Rattle.polling_world.specs.Worlds.{configs_of, HaveLog, IsNextAt, IsWorld, machine_of, stops_of, TellsNext}
pub use Rattle.polling_world.specs.Worlds.{world_of, WorldState}
pub use Rattle.std.proofs.Common.{[], All, ap, arith, Bool, cond, drop, Err, false, get_or, inl, inr, length, List}
pub use Rattle.std.proofs.Common.{None, Ok, OnErr, Option, refl, Result, rules, Some, subst, suc, suc-mul, sym, true}
pub use Rattle.std.proofs.Common.{zero, ℕ, ◌*◌, ◌++◌, ◌+◌, ◌<◌, ◌==◌, ◌∙◌, ◌∷◌, ◌≡◌, ◌≢◌, ◌≤◌, ◌⊎◌}
pub use Rattle.std.proofs.lemmas.Bool.{eqb-true, leb-false, leb-true, or_parts, true≢false}
pub use Rattle.std.proofs.lemmas.List.{append-nil, append_assoc, drop_all, drop_more, get_or-map, length-append}
pub use Rattle.std.proofs.lemmas.List.{length-map, Elements.All-cons, Elements.All-nil, Elements.Contains-append_right}
pub use Rattle.std.proofs.lemmas.List.FromFn.{get_or-range_with_len, length-range_with_len}
pub use Rattle.std.proofs.lemmas.Option.{get_or_from_slice_get, slice_get-get_or, slice_get-map, slice_get_within}
pub use Rattle.std.proofs.lemmas.{Result.on_err_weaker, Result.on_ok_weaker, Slice.Eq.bytes_eq-Decides}
pub use Rattle.std.specs.{List.Contains, List.range_with_len, Option.option_or, Prelude.if◌then◌else◌, Prelude.nat_le}
pub use Rattle.std.specs.{Prelude.option_map, Prelude.slice_get, Prelude.◌↔◌, Str.bytes_eq}
