-- What the proofs of this crate take from others.
pub use Rattle.auditor.specs.{Outcomes.is_broken, Outcomes.is_unsettled, Report.report_of}
pub use Rattle.entangled_picture.specs.{Document.rule_word, Layout.grown_height, Layout.right_of, Layout.top_of}
pub use Rattle.entangled_picture.specs.{LogMarks.log_at, LogMarks.logs_above, LogMarks.refused_at, Marks.arrow_at}
pub use Rattle.entangled_picture.specs.Marks.{arrows_from, bar_to, entry_at, first_namer, forks_of, gap_of, is_of_fork}
pub use Rattle.entangled_picture.specs.Marks.{last_of_fork, light_in, lights_by, loss_at, names_it, run_before, spot_at}
pub use Rattle.entangled_picture.specs.Places.{drawn_of, is_drawn, next_column, next_stamp, placed_after, placed_as}
pub use Rattle.entangled_picture.specs.{Places.seen_of, ShapeMarks.shape_line, declared.placed.Placed.Placed}
pub use Rattle.entangled_picture.specs.declared.{seen.Seen.Seen, shape.Shape.Shape, shape.Spot.Spot}
pub use Rattle.entry_format.specs.{Nodes.node_of_sealed, SealedEntry.SealedEntry, declared.plain.EntryFault.EntryFault}
pub use Rattle.entry_graph.specs.EntryGraph.{IsLower}
pub use Rattle.log_files.specs.{Logs.LogRead, declared.plain_log.End.End}
pub use Rattle.std.proofs.Common.{[], ap, arith, Bool, drop, get_or, length, List, map, refl, suc, take, true, zero, ℕ}
pub use Rattle.std.proofs.Common.{◌++◌, ◌+◌, ◌-◌, ◌<◌, ◌^◌, ◌∷◌, ◌≡◌, ◌≤◌, ◌⊎◌}
pub use Rattle.std.proofs.lemmas.{Grind.flat_map-append, List.FromFn.map-range_with_len_more}
pub use Rattle.std.proofs.lemmas.Option.{get_or_from_slice_get, none-some}
pub use Rattle.std.specs.List.{AllPairs, flat_map, fold, range_with_len, zip}
pub use Rattle.std.specs.Prelude.{find, max, None, Option, option_to_list, slice_get, Some}
