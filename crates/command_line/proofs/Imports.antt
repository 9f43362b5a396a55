-- What the proofs of this crate take from others.
pub use Rattle.auditor.proofs.OneStep.{agree_equal}
pub use Rattle.command_line.specs.{CommandParts.CommandParts, Lines.Answer, Lines.OrRefused, Lines.refusal_answer}
pub use Rattle.command_line.specs.Outside.{Outside, outside}
pub use Rattle.command_line.specs.{Promise.IsAnswered, Reports.IsCarriedOut, WordForms.AreSessions}
pub use Rattle.command_line.specs.Written.{IsCutShort, PlacesAll, PlacesInTurn, PutsAll, SetsSome, with_files}
pub use Rattle.command_line.specs.declared.{answer.Fault.Fault, status.Status.Status}
pub use Rattle.evidence.proofs.{OnReads.on_weaker, Readings.cause_as, Readings.no_cause, Readings.stands}
pub use Rattle.evidence.specs.{NamedFiles.OnRead, Reading.IsReadFrom, Refusal.absent, Refusal.IsAbsent, Refusal.Refusal}
pub use Rattle.evidence.specs.{Refusal.refusal_of, Refusal.refused, Same.Agree, declared.fault.InputFault.InputFault}
pub use Rattle.hall_outside.proofs.Offers.{unrisen}
pub use Rattle.hall_outside.specs.{Counts.HasCause, Counts.HasRisen, Files.Files, Files.with_file}
pub use Rattle.hall_outside.specs.Writing.{AppendsPrefix, PutsFile}
pub use Rattle.hall_outside.specs.declared.stores.{Failed.Failed, Store.Ghosts as StoreGhosts}
pub use Rattle.std.proofs.Common.{[], ap, arith, drop, get_or, Global, inl, inr, List, map, None, refl, rules, String}
pub use Rattle.std.proofs.Common.{string_bytes, subst, sym, take, take-append-drop, ℕ, ◌++◌, ◌+◌, ◌<◌, ◌^◌, ◌∙◌, ◌∷◌}
pub use Rattle.std.proofs.Common.{◌≡◌, ◌≢◌}
pub use Rattle.std.proofs.lemmas.{Fmt.decimal_injective, List.drop_all, List.drop_more, Result.IfOk-weaker}
pub use Rattle.std.specs.Fmt.{decimal}
pub use Rattle.std.specs.Prelude.{Err, IfErr, IfOk, IfSome, is_ok, IsErr, IsSomeAnd, Ok, OnErr, OnOk, Result, ⊤}
