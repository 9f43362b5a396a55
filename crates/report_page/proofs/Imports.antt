-- What the proofs of this crate take from others.
pub use Rattle.auditor.specs.Report.{report_of}
pub use Rattle.log_files.specs.Logs.{LogRead}
pub use Rattle.std.proofs.Common.{[], ap, append-nil, append_assoc, arith, Bool, get_or, length, List, map, refl}
pub use Rattle.std.proofs.Common.{string_bytes, suc, sym, take, zero, ℕ, ◌++◌, ◌+◌, ◌<◌, ◌∙◌, ◌∷◌, ◌≡◌, ◌≤◌}
pub use Rattle.std.proofs.lemmas.Grind.{flat_map-append}
pub use Rattle.std.proofs.lemmas.List.{get_or-map, get_or_read, length-map, map-append, take_all, take_more}
pub use Rattle.std.proofs.lemmas.{List.FromFn.map-range_with_len_more, Option.slice_get-get_or, Option.slice_get_read}
pub use Rattle.std.proofs.lemmas.Slice.Zip.{get_or-zip, length-zip}
pub use Rattle.std.specs.List.{flat_map, range_with_len, zip}
pub use Rattle.std.specs.Prelude.{Option, slice_get, slice_index_or}
