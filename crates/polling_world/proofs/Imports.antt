-- What the proofs of this crate take from others.
pub use Rattle.booth_core.specs.declared.state.BoothNot.{BoothNot}
pub use Rattle.canonical_sexp.specs.Text.{text_of}
pub use Rattle.election_script.specs.Lawful.{IsCast, IsLawful, IsStep, max_events}
pub use Rattle.election_script.specs.declared.script.{Cast0.Cast0, Script.Script}
pub use Rattle.entangled_log.proofs.Whole.{whole_or_not}
pub use Rattle.entangled_log.specs.{Hearing.IsHearAnswer, Hearing.log_after, Logs.History, declared.heard.Heard.Heard}
pub use Rattle.entry_format.proofs.{Keys.key_is, OneEntry.same_fields, Unsealings.same_sealed}
pub use Rattle.entry_format.specs.EntryText.{body_tree, signed_tree}
pub use Rattle.entry_format.specs.{Nodes.node_of_sealed, SealedEntry.SealedEntry, Unsealing.IsValid, Unsealing.key_at}
pub use Rattle.entry_format.specs.declared.deed.Deed.{Deed, TheVariants.Cast, TheVariants.Challenge}
pub use Rattle.entry_format.specs.declared.entry.Entry.{Entry}
pub use Rattle.entry_order.proofs.{Ascending.ascending_ascending, Ascending.length-insert_digest, Comparisons.below}
pub use Rattle.entry_order.proofs.{FewStamps.stamps_are_few, Histories.greatest_push, Histories.IsLegal-none}
pub use Rattle.entry_order.proofs.Histories.{IsLegal-push, last_or_earlier, nth_split, sent_as_many, sent_few}
pub use Rattle.entry_order.proofs.{Histories.sent_one_more, Lists.Contains-head, Lists.Contains-later}
pub use Rattle.entry_order.proofs.{Lists.Contains-map_cases, Lists.Contains-none, Machines.in_world, Merged.has_placed}
pub use Rattle.entry_order.proofs.{Merged.placed_cases, Merged.placed_of, Naming.has_digest_from, Naming.has_digest_of}
pub use Rattle.entry_order.proofs.{Orders.Contains-sent_cases, Orders.one_order, Orders.sent_in_from, Places.all_at}
pub use Rattle.entry_order.proofs.{Places.member_at, Plays.IsNew-from_test, Plays.IsOrderly-play, Plays.IsOrderly-start}
pub use Rattle.entry_order.specs.{Ascending.ascending, Ascending.IsAscending, Frontier.frontier, HeldBefore.HeldBefore}
pub use Rattle.entry_order.specs.History.{entry_of, greatest_stamp, held, MayFollow, sent}
pub use Rattle.entry_order.specs.Merged.{IsEventOf, IsInSortOrder, IsMergedOf, kind, placed, PlacedEvent, sort_key}
pub use Rattle.entry_order.specs.{Merged.step_of, Naming.Distinct, Naming.has_digest, Naming.is_named, Naming.IsBorneIn}
pub use Rattle.entry_order.specs.{Naming.IsNew, Node.Node, Receipt.IsOrderly, Receipt.OrderIsReceiptIn}
pub use Rattle.entry_order.specs.World.{append, happens, hear, history, history_of, IsLegalNext, Machine, play, send}
pub use Rattle.entry_order.specs.World.{sent_in, start, stop, with_machine, World}
pub use Rattle.entry_order.specs.declared.event.Event.{Event, TheVariants.Got, TheVariants.Sent}
pub use Rattle.entry_order.specs.declared.step.Step.{Step, TheVariants.Act, TheVariants.Hear, TheVariants.Stop}
pub use Rattle.held_counts.specs.Places.{IsSentAt}
pub use Rattle.item_list.proofs.Rows.{one_first}
pub use Rattle.item_list.specs.Causes.{IsFirstOf}
pub use Rattle.lms_ots.proofs.Candidates.{length-u32str}
pub use Rattle.lms_ots.specs.{Ots.u32str, Parameters.parameters}
pub use Rattle.lms_sign.proofs.Signatures.{length-node}
pub use Rattle.lms_sign.specs.{Height.lms_typecode, Secret.public_of, Secret.Secret, Secret.signed_by, Tree.node}
pub use Rattle.polling_world.specs.Acting.{IsActed, IsHeldAlready}
pub use Rattle.polling_world.specs.Configs.{Config, config_of, IsOf, script_configs}
pub use Rattle.polling_world.specs.{Hearing.IsHeard, Hearing.machine_after, Kept.IsKept, Kept.spare_of, Kept.StandFor}
pub use Rattle.polling_world.specs.Keys.{IsKeyOf, key_of, post_of, roster_of}
pub use Rattle.polling_world.specs.Machines.{has_stopped, is_reached, IsFresh, IsMachine, IsWithinStop, log_of}
pub use Rattle.polling_world.specs.{Machines.MachineState, Machines.with_event, Making.entry_with, Making.next_entry}
pub use Rattle.polling_world.specs.{Merging.IsMerged, Playing.AreOf, Playing.IsPlayed}
pub use Rattle.polling_world.specs.Rules.{entries_in, IsWholeHistory, MayDo, needs_whole, Refuses, RoleRefuses}
pub use Rattle.polling_world.specs.{Sending.AreMade, Sending.MaySend, Sending.next_action, Steps.IsGiven}
pub use Rattle.polling_world.specs.{Steps.IsStepOf, Steps.stepped_by, Steps.stepped_in, Steps.StepsBy, Viewing.state_of}
pub use Rattle.polling_world.specs.Waiting.{IsGoing, IsLeft, IsReady, IsStampSpent, IsWhy}
pub use Rattle.polling_world.specs.Worlds.{AreFresh, configs_of, HaveLog, IsNextAt, IsNextOf, IsPlaced, IsWorld}
pub use Rattle.polling_world.specs.Worlds.{machine_of, stops_of, TellsNext, world_of, WorldState}
pub use Rattle.polling_world.specs.declared.{acted.Acted.Acted, heard.MachineHeard.MachineHeard}
pub use Rattle.polling_world.specs.declared.{heard.MachineHeard.TheVariants.Stopped, left.Left.Left}
pub use Rattle.polling_world.specs.declared.{left.LeftWhy.LeftWhy, merging.RankedStep.RankedStep, rules.Rules.Rules}
pub use Rattle.polling_world.specs.declared.stepped.Stepped.{Stepped, TheVariants.Did, TheVariants.Nothing}
pub use Rattle.polling_world.specs.inside.Ranked.{AreRanked, ranked_step, ranked_steps}
pub use Rattle.roster.specs.Machines.{AreDistinct, HaveText, is_supervisor, IsName}
pub use Rattle.roster.specs.RosterText.{HasKey, roster_tree}
pub use Rattle.roster.specs.declared.post.{Post.Post, Role.Role, Role.TheVariants.Booth, Role.TheVariants.Supervisor}
pub use Rattle.sha2.proofs.Facts256.{length-sha256}
pub use Rattle.sha2.specs.Sha256.{sha256}
pub use Rattle.std.proofs.Common.{[], add-one, ap, append_assoc, arith, Bool, drop, false, get_or, inl, inr, length}
pub use Rattle.std.proofs.Common.{length-append, List, ltb, map, max, refl, replicate, rules, set, subst, suc, swap}
pub use Rattle.std.proofs.Common.{sym, take, take_all, true, zero, ℕ, ◌*◌, ◌++◌, ◌+◌, ◌<◌, ◌^◌, ◌∙◌, ◌∷◌, ◌≡◌, ◌≢◌, ◌≤◌}
pub use Rattle.std.proofs.{Common.◌⊎◌, Math.Bool.or-false, lemmas.Bool.cases_eq, lemmas.Bool.cases_lt}
pub use Rattle.std.proofs.lemmas.Bool.{eq-eqb, false_from_ne_true, leb-false, lt-leb, ne_eqb, not-true, true≢false}
pub use Rattle.std.proofs.lemmas.Bool.Decides.{Decides-ltb, nat_tests}
pub use Rattle.std.proofs.lemmas.{Cmp.nat_list_cmp_total, Cmp.nat_list_eq_equiv, Fn.always_returns_same}
pub use Rattle.std.proofs.lemmas.List.{append-nil, drop_all, drop_more, get_or-map, length-map, length-set}
pub use Rattle.std.proofs.lemmas.List.{length-take-le, map-append, map-set, same_lists, set-get_or, take_more}
pub use Rattle.std.proofs.lemmas.List.Elements.{All-map, Contains-append_cases, Contains-append_left}
pub use Rattle.std.proofs.lemmas.List.Elements.{Contains-append_right, Contains-get_or, recursion_from_All}
pub use Rattle.std.proofs.lemmas.List.FromFn.{get_or-enumerate_from, length-enumerate_from}
pub use Rattle.std.proofs.lemmas.List.Sorted.{Contains-permutation, IsPermutation-keeps, IsPermutation-map}
pub use Rattle.std.proofs.lemmas.List.Sorted.{IsPermutation-refl, IsPermutation-swap, IsPermutation-sym}
pub use Rattle.std.proofs.lemmas.List.Sorted.{IsPermutation-trans, ranks_by, sorted_far}
pub use Rattle.std.proofs.lemmas.List.Sums.{count_by-le-length, length-filter}
pub use Rattle.std.proofs.lemmas.Map.Keys.{apart_from_distinct, IsDistinct-cons, IsDistinct-from_apart}
pub use Rattle.std.proofs.lemmas.Map.Keys.{IsDistinct-IsPermutation, IsDistinct-tail}
pub use Rattle.std.proofs.lemmas.Option.{get_or_from_slice_get, slice_get-get_or, slice_get-map, slice_get_cases}
pub use Rattle.std.proofs.lemmas.{Option.slice_get_within, Result.IfOk-weaker, Slice.Eq.bytes_eq-Decides}
pub use Rattle.std.specs.Cmp.Lexicographic.{slice_cmp}
pub use Rattle.std.specs.List.{AllByRecursion, Contains, enumerate_from, filter, fold, IsDistinct, Sorted.IsPermutation}
pub use Rattle.std.specs.{List.Sorted.IsSortedBy, List.Sorted.IsSortedByKey, Ordering.is_lt, Ordering.nat_cmp}
pub use Rattle.std.specs.Prelude.{codes, count_by, IfOk, if◌then◌else◌, IsTrue, nat_le, OnErr, option_map, slice_get}
pub use Rattle.std.specs.Prelude.{slice_index_or, slice_set, ◌↔◌}
pub use Rattle.std.specs.{Str.bytes_eq, declared.alloc.AllocError.AllocError, declared.cmp.Ordering.TheVariants.Less}
pub use Rattle.supervisor_core.specs.declared.state.SupervisorNot.{SupervisorNot}
pub use mathlib.Core.Path.{fun_ext}
unfoldable pub use Rattle.lms_sign.specs.Tree.{lms_public}
unfoldable pub use Rattle.polling_world.specs.Keys.{machine_id}
unfoldable pub use Rattle.polling_world.specs.Making.{election_of, made}
