-- What the proofs of this crate take from others.
pub use Rattle.auditor.proofs.Chained.{file_ends, file_joins, on_one}
pub use Rattle.auditor.specs.Audits.{FileThen}
pub use Rattle.command_line.specs.Lines.{Answer, line_answer, OrRefused, refused_answer}
pub use Rattle.command_line.specs.Promise.{IsAnswerAsRead, IsAnsweredBy}
pub use Rattle.command_line.specs.{Reports.IsCarriedOut, declared.answer.Fault.Fault}
pub use Rattle.evidence.proofs.{FilesRead.not_read, FilesRead.was_read, OnReads.one_read, OnReads.some_as_read}
pub use Rattle.evidence.proofs.{Readings.no_cause, Readings.stands, Steps.read_last}
pub use Rattle.evidence.specs.{NamedFiles.OnOneFile, Reading.IsReadFrom, Reading.IsReadFromFile}
pub use Rattle.evidence.specs.Refusal.{Refusal, too_long}
pub use Rattle.hall_outside.proofs.ReadFiles.{read_weaker}
pub use Rattle.hall_outside.specs.{Counts.ComesExactly, ReadFile.IsFileRefused, ReadFile.OnReadFile}
pub use Rattle.hall_outside.specs.declared.stores.Store.{Ghosts as StoreGhosts}
pub use Rattle.office_commands.specs.Endorse.{endorse_answer, endorse_parts, GivesUnsigned, IsEndorsement, Unsigned}
pub use Rattle.office_commands.specs.Endorsed.{endorsed_parts, GivesSigned, IsEndorsedVerdict, Signed}
pub use Rattle.office_commands.specs.NamedBytes.{AtLast, GivesBytes, max_signed, max_small}
pub use Rattle.office_commands.specs.Office.{IsOfficeAnswer, made_office, office_parts}
pub use Rattle.office_commands.specs.OfficeFile.{GivesOffice, GivesOfficeOf, GivesUnspent, office_file}
pub use Rattle.office_commands.specs.inside.{Endorsing.signed_of, Endorsing.unsigned_of, Presence.IsThere}
pub use Rattle.office_key.proofs.OfficeTexts.{one_office}
pub use Rattle.office_key.specs.{Offices.IsOffice, Offices.max_signatures, declared.office.Office.Office}
pub use Rattle.std.proofs.Common.{[], ap, arith, inl, inr, List, None, refl, rules, subst, sym, ℕ, ◌<◌, ◌∙◌, ◌∷◌, ◌≡◌}
pub use Rattle.std.proofs.{Common.◌≢◌, lemmas.List.Elements.All-from_recursion}
pub use Rattle.std.specs.Prelude.{Err, IsSomeAnd, Ok, Result}
