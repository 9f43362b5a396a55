-- What the proofs of this crate take from others.
pub use Rattle.booth_core.specs.declared.state.BoothNot.TheVariants.{LogNotWhole, NotAuthorised}
pub use Rattle.counterexamples.specs.Example.{a0, a1, b0, b1, c0, c1, digest_of, example_entry, IsExample, next_example}
pub use Rattle.counterexamples.specs.Example.{shown, without_b0}
pub use Rattle.counterexamples.specs.InSpite.{FailsAtSome, IsHonestBut, MayInSpiteOf, own_booth}
pub use Rattle.counterexamples.specs.Unchained.{IsHonestUnchained, IsNextUnchained}
pub use Rattle.counterexamples.specs.WrongFrontier.{ArrivalFails, frontier_by_arrival, heard}
pub use Rattle.counterexamples.specs.{WrongNames.OwnLastFails, WrongStrays.ByOthersFails}
pub use Rattle.deed_history.proofs.Deciding.{activates_decides, authorises, authorises_booth_decides}
pub use Rattle.deed_history.proofs.Deciding.{authorises_decides, closed_decides, commits_decides, ends_decides}
pub use Rattle.deed_history.proofs.Deciding.{holds_decides, holds_own, is_closed, is_opened, opened_decides}
pub use Rattle.deed_history.proofs.Deciding.{overrides_by_decides, overrides_decides, own_decides}
pub use Rattle.deed_history.specs.Held.{HoldsOwn, HoldsSome}
pub use Rattle.entangled_log.specs.Whole.{NamesOnlyHeld}
pub use Rattle.entry_format.specs.{Deeds.IsDeedOf, Nodes.node_of_sealed, SealedEntry.SealedEntry}
pub use Rattle.entry_format.specs.declared.deed.Deed.{Deed, TheVariants.Opened}
pub use Rattle.entry_order.proofs.Honest.{no_fork, numbered_is_distinct}
pub use Rattle.entry_order.proofs.Lists.{Contains-cons_cases, Contains-none, Contains-one, list_any_of}
pub use Rattle.entry_order.proofs.{Made.made_is_lawful, MadePlays.plays_are_made, Naming.has_digest_of}
pub use Rattle.entry_order.proofs.{Naming.is_named_of, Orders.was_sent, Plays.IsNew-from_test, Plays.IsOrderly-play}
pub use Rattle.entry_order.proofs.{Plays.IsOrderly-start, Strays.rises_along}
pub use Rattle.entry_order.specs.{Frontier.IsFrontier, HeldBefore.HeldBefore, HeldBefore.HeldBefore.descendant}
pub use Rattle.entry_order.specs.{HeldBefore.HeldBefore.itself, History.held, Made.DigestTellsNumber, Made.made_after}
pub use Rattle.entry_order.specs.{Made.next_made, Naming.Distinct, Naming.has_digest, Naming.is_named, Naming.IsBorneIn}
pub use Rattle.entry_order.specs.{Naming.IsNamedIn, Naming.IsNew, Node.Node, Precedes.Precedes, Receipt.IsOrderly}
pub use Rattle.entry_order.specs.{Receipt.OrderIsReceiptIn, Settled.IsWhole, Settled.NamesNoGap}
pub use Rattle.entry_order.specs.World.{history, IsLegalNext, play, sent_in, start, World}
pub use Rattle.entry_order.specs.declared.event.Event.{Event, TheVariants.Got, TheVariants.Sent}
pub use Rattle.entry_order.specs.declared.step.Step.{Step, TheVariants.Act, TheVariants.Hear}
pub use Rattle.honest_places.specs.Honest.{IsHonest, MayAs, role_at}
pub use Rattle.polling_world.specs.declared.left.LeftWhy.{LeftWhy, TheVariants.BoothNot, TheVariants.SupervisorNot}
pub use Rattle.roster.specs.{Machines.HaveOneSupervisor, declared.post.Post.Post, declared.post.Role.Role}
pub use Rattle.roster.specs.declared.post.Role.TheVariants.{Booth, Supervisor}
pub use Rattle.rule_language.specs.{Standard.a1_body, Standard.k2_body, Standard.p3_body, Standard.v2_body, Trees.Trees}
pub use Rattle.rule_meaning.specs.{Meaning.Holds, Tests.is_kind}
pub use Rattle.std.proofs.Common.{[], ap, append-nil, append_assoc, arith, Bool, cond, false, get_or, inl, inr, length}
pub use Rattle.std.proofs.Common.{List, map, None, Option, refl, Some, suc, sym, true, zero, ℕ, ◌++◌, ◌<◌, ◌∙◌, ◌∷◌}
pub use Rattle.std.proofs.Common.{◌≡◌, ◌≢◌, ◌≤◌, ◌⊎◌}
pub use Rattle.std.proofs.lemmas.Bool.{and_from, eq-eqb, false≢true, true≢false}
pub use Rattle.std.proofs.lemmas.List.{Elements.All-from_recursion, Folds.list_any-from_Any}
pub use Rattle.std.specs.{Bool.Decides, List.Contains, List.list_any}
pub use Rattle.std.specs.Prelude.{All, not, Ok, ◌&&◌, ◌==◌}
pub use Rattle.supervisor_core.specs.{Causes.IsBusy, declared.state.SupervisorNot.TheVariants.SessionsLeft}
pub use Rattle.survivor_rows.specs.Rows.{booth_of, kind_of, row_of}
