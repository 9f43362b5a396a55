-- What the proofs of this crate take from others.
pub use Rattle.canonical_sexp.proofs.Decimal.{length-decimal-le_20}
pub use Rattle.canonical_sexp.proofs.{Exclusive.one_answer, Exclusive.text_is_read, InPlace.text_some, Unique.one_tree}
pub use Rattle.canonical_sexp.specs.{Forest.Forest, Forms.IsU32, Forms.list_of, Reading.Answers, Sexp.forest_of}
pub use Rattle.canonical_sexp.specs.Text.{AreWithin, atom_text, Fits, max_octets, text_of}
pub use Rattle.canonical_sexp.specs.declared.read.Read.{Read, TheVariants.Bad, TheVariants.Cut, TheVariants.Whole}
pub use Rattle.canonical_sexp.specs.declared.{read.Why.Why, sexp.Sexp.Sexp}
pub use Rattle.canonical_sexp.specs.declared.sexp.Sexp.TheVariants.{Atom, List as Branch}
pub use Rattle.entry_format.proofs.{Forms.one_reading, Limits.members_in, Unsealings.one_unsealing}
pub use Rattle.entry_format.specs.EntryText.{body_tree, deed_tree, how_word, signed_tree}
pub use Rattle.entry_format.specs.{Nodes.node_of_sealed, Plains.plain_of, Reading.Reads, SealedEntry.SealedEntry}
pub use Rattle.entry_format.specs.{Sealing.IsSealed, Unsealing.IsValid, declared.deed.Deed.Deed}
pub use Rattle.entry_format.specs.declared.{deed.Deed.TheVariants.Override, deed.How.How, entry.Entry.Entry}
pub use Rattle.entry_format.specs.declared.plain.EntryFault.{EntryFault, TheVariants.Memory, TheVariants.WrongShape}
pub use Rattle.entry_format.specs.declared.plain.Plain.{Plain}
pub use Rattle.entry_order.proofs.Histories.{greatest_push, IsLegal-none, IsLegal-push, new_from_may, sent_as_many}
pub use Rattle.entry_order.proofs.{Histories.sent_few, Histories.sent_one_more, Images.same_digests, Images.same_named}
pub use Rattle.entry_order.proofs.Lists.{Contains-at, Contains-cons_cases, Contains-later, Contains-map, Contains-none}
pub use Rattle.entry_order.proofs.{Naming.has_digest_from, Naming.has_digest_of, Places.taken_more}
pub use Rattle.entry_order.specs.{Ascending.ascending, Frontier.frontier}
pub use Rattle.entry_order.specs.History.{entry_of, held, IsNext, MayFollow, sent}
pub use Rattle.entry_order.specs.Naming.{has_digest, is_named, IsNew}
pub use Rattle.entry_order.specs.declared.event.Event.{Event, TheVariants.Got, TheVariants.Sent}
pub use Rattle.hall_outside.proofs.ReadFiles.{found_file, read_weaker}
pub use Rattle.hall_outside.specs.ReadFile.{IsFileRefused, OnReadFile}
pub use Rattle.hall_outside.specs.declared.reading.FileFault.{FileFault, TheVariants.Absent, TheVariants.TooLong}
pub use Rattle.hall_outside.specs.declared.stores.Store.{Ghosts as StoreGhosts}
pub use Rattle.hex.specs.Hex.{encode_lower}
pub use Rattle.log_files.specs.{Lines.gap_lines, Lines.line, Lines.refused_lines, LogFile.IsLogOf, LogFile.IsLogRefused}
pub use Rattle.log_files.specs.{LogFile.IsSealedLogOf, LogFile.max_bytes, LogText.AreLog, LogText.AreRecords}
pub use Rattle.log_files.specs.LogText.{EachGives, Gives, HasHeader, header_tree, IsEnd, IsReadPlain, kept_of}
pub use Rattle.log_files.specs.{LogText.record_tree, LogText.refused_of, LogText.Says, Logs.LogRead, Logs.PlainLog}
pub use Rattle.log_files.specs.SealedLog.{AreLegal, AreValid, BreaksAt, event_of, IsBreak, IsReadSealed, node_of_kept}
pub use Rattle.log_files.specs.{SealedLog.SaysSealed, Written.HasAll, Written.log_text, Written.record_text}
pub use Rattle.log_files.specs.declared.{breaks.Seen.Seen, found.Found.Found, plain_log.End.End}
pub use Rattle.log_files.specs.declared.plain_log.End.TheVariants.{Clean, Malformed as EndMalformed, Torn}
pub use Rattle.log_files.specs.declared.records.{Progress.Progress, Records.Records, Stage.Stage}
pub use Rattle.log_files.specs.declared.records.Stage.TheVariants.{Header, NoLog}
pub use Rattle.log_files.specs.declared.sealed_log.Kept.{Kept}
pub use Rattle.log_files.specs.inside.{Fed.IsReadOf, Fed.IsWithBreak, FileFaults.log_fault_of, Found.AddsReading}
pub use Rattle.log_files.specs.inside.Found.{AreReadBy, AreSplit, IsFound, IsKnownBy, IsNotFirst, IsReadBy, IsWoven}
pub use Rattle.log_files.specs.inside.{Found.RecordText, Found.StayReadBy, Kept.AreSeen, Parts.Adds}
pub use Rattle.log_files.specs.inside.Taking.{AreReadTo, end_of, is_open, IsAtStage, IsNoneOrCut, StandsFor, stopped}
pub use Rattle.log_frontier.proofs.Notes.{digest_at_read, last_split}
pub use Rattle.log_frontier.specs.Places.{digest_at, HasNoDigestTwice, Places}
pub use Rattle.roster.specs.declared.post.Post.{Post}
pub use Rattle.std.proofs.Common.{[], add-zero, All, ap, append-nil, append_assoc, arith, Bool, drop, Err, false}
pub use Rattle.std.proofs.Common.{get_or, inl, inr, length, length-append, List, map, max, nat_lt, None, Ok, Option}
pub use Rattle.std.proofs.Common.{refl, Result, rules, Some, string_bytes, subst, suc, sym, take, true, zero, ℕ, ◌++◌}
pub use Rattle.std.proofs.Common.{◌+◌, ◌-◌, ◌<◌, ◌^◌, ◌∙◌, ◌∷◌, ◌≡◌, ◌≢◌, ◌≤◌, ◌⊎◌}
pub use Rattle.std.proofs.lemmas.Bool.{cases_eq, ltb-false, ltb-true, not-false, true≢false}
pub use Rattle.std.proofs.lemmas.Fmt.{decimal_digit, decimal_injective}
pub use Rattle.std.proofs.lemmas.List.{drop-append-le, drop-drop, drop_all, drop_more, flat_map_more, get_or-map}
pub use Rattle.std.proofs.lemmas.List.{get_or-set_other, get_or-set_same, get_or_append_left, get_or_default}
pub use Rattle.std.proofs.lemmas.List.{get_or_read, length-drop, length-map, length-set, length-take-le, map-append}
pub use Rattle.std.proofs.lemmas.List.{map_more, nil_from_length, take-append-drop, take-append-le, take-take, take_all}
pub use Rattle.std.proofs.lemmas.List.{take_at, take_more, take_rest, Elements.All-cons}
pub use Rattle.std.proofs.lemmas.List.Elements.{All-get_or, All-head, All-nil, All-push, All-tail, filter_agree}
pub use Rattle.std.proofs.lemmas.{Result.IfOk-weaker, Result.on_ok_weaker, Simd.map-map, Slice.Eq.bytes_eq-Decides}
pub use Rattle.std.specs.List.{Contains, flat_map}
pub use Rattle.std.specs.Prelude.{codes, IfErr, IfOk, if◌then◌else◌, IsTrue, MatchOption, nat_eq, not, slice_set, ◌==◌}
pub use Rattle.std.specs.{Prelude.◌↔◌, Str.bytes_eq, Vec.Iter.into_iter_items, Vec.Iter.into_iter_len}
