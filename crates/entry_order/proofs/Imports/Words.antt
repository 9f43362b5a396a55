-- The words of the specs and of std that the proofs of this crate are written in.
use Rattle.entry_order.specs
pub use specs.Merged.{IsEventOf, IsInSortOrder, IsMergedOf, PlacedEvent, WorldsHaveOneMergedOrder, sort_key}
pub use specs.Naming.{Distinct, IsBorneIn, IsNamedIn, IsNew, Names, has_digest, is_named, names_digest}
pub use specs.Survivors.{IsGaps, IsStray, SurvivorsAreNoStrays, SurvivorsHaveNoCycle, gaps, is_stray, survivors}
pub use specs.World.{IsLegalNext, Machine, World, append, cannot_hear, happens, hear, history, play, send, sent_in}
pub use specs.{AcyclicOrder.IsInPast, Ascending.IsAscending, Ascending.ascending, Ascending.insert_digest}
pub use specs.{Completion.Completion, Forms.FormsAgree, Forms.HeldByChain, Forms.HeldItself, Forms.HeldWithin}
pub use specs.{Forms.IsChain, Frontier.FrontierIsUnique, Frontier.frontier, HeldBefore.HeldBefore}
pub use specs.{HeldBefore.HeldBefore.descendant, HeldBefore.HeldBefore.itself, History.IsLegal, History.MayFollow}
pub use specs.{History.entry_of, History.greatest_stamp, History.held, History.sent, Made.IsMadeBy, Made.PlaysAreMade}
pub use specs.{Node.Node, Precedes.IsPath, Precedes.Precedes, Receipt.IsOrderly, Receipt.OrderIsReceipt}
pub use specs.{Settled.IsGraphOf, Settled.IsWhole, Settled.NamesNoGap, Settled.PathsAreSettled, World.start}
pub use specs.{World.stop, World.with_machine, declared.event.Event.Event, declared.event.Event.TheVariants.Got}
pub use specs.{declared.event.Event.TheVariants.Sent, declared.step.Step.Step, declared.step.Step.TheVariants.Act}
pub use specs.declared.step.Step.TheVariants.{Hear, Stop}
use Rattle.std
pub use std.proofs.Common.{Bool, List, None, Option, Some, [], ap, append_assoc, arith, cond, false, inl, inr, length}
pub use std.proofs.Common.{length-append, map, max, refl, subst, suc, sym, true, zero, ℕ, ◌++◌, ◌+◌, ◌-◌, ◌<◌, ◌∙◌}
pub use std.proofs.lemmas.Bool.{and_from, and_parts, cases_Bool, cases_eq, cases_lt, cond_both, eq-eqb, eqb-false}
pub use std.proofs.lemmas.Bool.{eqb-true, false_from_ne_true, false≢true, le-leb, leb-true, not-true, not_from_false}
pub use std.proofs.lemmas.List.Elements.{All-contains, All-contains_itself, Contains-append_cases}
pub use std.proofs.lemmas.List.Elements.{Contains-append_left, Contains-append_right, Contains-push_cases}
pub use std.proofs.Common.{◌∷◌, ◌≡◌, ◌≢◌, ◌≤◌, ◌⊎◌}
pub use std.{proofs.lemmas.Bool.Decides.nat_tests, proofs.lemmas.Bool.or_parts, proofs.lemmas.Bool.true≢false}
pub use std.{proofs.lemmas.Cmp.nat_list_cmp_total, proofs.lemmas.List.Elements.filter-append}
pub use std.{proofs.lemmas.List.Sums.fold-append, proofs.lemmas.List.append-nil, proofs.lemmas.List.length-map}
pub use std.{proofs.lemmas.List.length_push, proofs.lemmas.List.map-append, proofs.lemmas.Map.Lookups.exact_bytes}
pub use std.{proofs.lemmas.Map.Steps.le-length_from_below, proofs.lemmas.Option.get_or_from_slice_get}
pub use std.proofs.lemmas.Option.{slice_get_read, slice_get_within}
pub use std.{proofs.lemmas.Slice.Eq.bytes_eq-Decides, specs.Cmp.Lexicographic.slice_cmp, specs.List.Contains}
pub use std.{specs.List.filter, specs.List.flat_map, specs.List.fold, specs.List.list_any, specs.Ordering.is_lt}
pub use std.{specs.Ordering.nat_cmp, specs.Ordering.ordering_reverse, specs.Prelude.not, specs.Prelude.slice_get}
pub use std.{specs.Prelude.◌&&◌, specs.Prelude.◌==◌, specs.Prelude.◌||◌, specs.Prelude.◌↔◌, specs.Str.bytes_eq}
pub use std.{specs.declared.cmp.Ordering.Ordering, specs.declared.cmp.Ordering.TheVariants.Equal}
pub use std.specs.declared.cmp.Ordering.TheVariants.{Greater, Less}
