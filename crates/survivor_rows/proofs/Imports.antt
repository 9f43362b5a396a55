-- What the proofs of this crate take from others.
pub use Rattle.entry_format.specs.SealedEntry.{SealedEntry}
pub use Rattle.entry_order.proofs.Lists.{Contains-map}
pub use Rattle.roster.specs.declared.post.Post.{Post}
pub use Rattle.rule_language.specs.declared.row.Row.{Row}
pub use Rattle.std.proofs.Common.{[], ap, get_or, length, List, map, rules, Some, subst, sym, take, ℕ, ◌++◌, ◌+◌, ◌<◌}
pub use Rattle.std.proofs.Common.{◌∙◌, ◌∷◌, ◌≡◌, ◌≤◌}
pub use Rattle.std.proofs.lemmas.List.{map-append, take_more, Elements.All-contains, Elements.Contains-get_or}
pub use Rattle.std.proofs.lemmas.Option.{get_or_from_slice_get}
pub use Rattle.std.specs.{List.Contains, Prelude.slice_get, Prelude.vec_capacity}
pub use Rattle.survivor_rows.specs.Rows.{HaveMakers, row_of}
