-- What the proofs of this crate take from others.
pub use Rattle.folder_calls.proofs.Endings.{between_fewer, have_others}
pub use Rattle.folder_calls.proofs.Goes.{goes_map, now_always, now_did, now_map}
pub use Rattle.folder_calls.proofs.{Marks.aside_same, Marks.whole_aside, Marks.whole_fewer, Renames.kept_gone}
pub use Rattle.folder_calls.proofs.Steps.{apart_names, between_same, eq_self, not_same, since_now}
pub use Rattle.folder_calls.proofs.Wholes.{begun_of_ready, shows_done, shows_same}
pub use Rattle.folder_calls.specs.{Asides.AreElsewhere, Placing.AreBegun, Placing.AreOwn, Placing.is_other}
pub use Rattle.folder_calls.specs.Placing.{IsApart, IsFewer, IsUnshared, number_of, shown_files, StandsInOrder, view}
pub use Rattle.folder_calls.specs.{Sets.IsPlacing, Sets.IsWholeOf, World.Among, World.Creates, World.does}
pub use Rattle.folder_calls.specs.World.{emptied, FolderMoment, GivesPart, Goes, holding, IsClear, IsUnused, longer_by}
pub use Rattle.folder_calls.specs.{World.Moments, World.Now, declared.begun.Begun.Begun}
pub use Rattle.hall_outside.specs.{Beginning.taken_of, Counts.HasCause, Counts.raised, Files.file_set, Files.Files}
pub use Rattle.hall_outside.specs.{Files.OnFile, Files.with_file, LookingBack.AreUnchanged, MemoryStore.content_of}
pub use Rattle.hall_outside.specs.ReadFile.{ends, goes_on, IsFound, OnReadFile, ReadsOn}
pub use Rattle.hall_outside.specs.{Reading.IsPartFrom, Reading.IsTaken, StoreView.IsPlaceOf, StoreView.pair_of}
pub use Rattle.hall_outside.specs.{StoreView.stored, Writing.appended, Writing.fails, Writing.file_appended}
pub use Rattle.hall_outside.specs.Writing.{none_left, not_created, OffersAll, PutsFile, takes, with_appended}
pub use Rattle.hall_outside.specs.declared.{memory_store.File.File, reading.FileFault.FileFault}
pub use Rattle.hall_outside.specs.declared.reading.FileFault.TheVariants.{Memory, ReadFault, TooLong}
pub use Rattle.hall_outside.specs.declared.stores.{Failed.Failed, Taken.Taken, Taken.TheVariants.Bytes}
pub use Rattle.std.proofs.Common.{[], ap, append_assoc, arith, Bool, cond, drop, eq-eqb, false, get_or, inl, inr}
pub use Rattle.std.proofs.Common.{length, length-append, List, min, None, Option, refl, replicate, set, Some, subst}
pub use Rattle.std.proofs.Common.{suc, sym, take, true, vec_len, zero, ℕ, ⊎_elim, ◌++◌, ◌+◌, ◌-◌, ◌<◌, ◌∙◌, ◌∷◌, ◌≡◌}
pub use Rattle.std.proofs.{Common.◌≤◌, Math.Path.fun_ext, Math.Seq.map-set_same, Math.Seq.take-add}
pub use Rattle.std.proofs.lemmas.Bool.{cases_Bool, false≢true, ne_eqb}
pub use Rattle.std.proofs.lemmas.List.{at_drop_more, drop-drop, drop_all, drop_at, length-drop, length-replicate}
pub use Rattle.std.proofs.lemmas.List.{length-take, length-take-le, take_all, take_at, take_rest}
pub use Rattle.std.proofs.lemmas.Result.{err_from_is_err_and, IfOk-weaker, on_err_weaker, on_ok_weaker}
pub use Rattle.std.specs.Prelude.{Err, IsSomeAnd, nat_eq, Ok, option_map, Result, string_bytes, ◌⊎◌}
pub use Rattle.std.specs.Str.{bytes_eq}
