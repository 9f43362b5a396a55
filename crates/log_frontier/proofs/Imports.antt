-- What the proofs of this crate take from others.
pub use Rattle.entry_order.proofs.{Lists.Contains-head, Lists.Contains-later, Lists.Contains-none, Places.push_before}
pub use Rattle.entry_order.specs.{Ascending.ascending, Naming.is_named, Naming.IsBorneIn, Naming.IsNamedIn}
pub use Rattle.entry_order.specs.{Naming.names_digest, Node.Node, Survivors.gaps, Survivors.GapsAreUnique}
pub use Rattle.log_frontier.specs.{Digests.has, Places.HasNoDigestTwice, inside.Noting.count_below}
pub use Rattle.log_frontier.specs.inside.Without.{IsWithout}
pub use Rattle.std.proofs.Common.{[], ap, arith, Bool, cond, drop, Err, false, get_or, inl, inr, length, length-take}
pub use Rattle.std.proofs.Common.{List, map, not, Ok, refl, sym, take, true, ℕ, ◌++◌, ◌+◌, ◌-◌, ◌<◌, ◌∙◌, ◌∷◌, ◌≡◌, ◌≢◌}
pub use Rattle.std.proofs.lemmas.{Bool.cases_Bool, Bool.false≢true, Cmp.nat_list_cmp_total}
pub use Rattle.std.proofs.lemmas.List.Sorted.{Contains-permutation, IsPermutation-sym}
pub use Rattle.std.proofs.lemmas.{Map.Lookups.exact_bytes, Option.slice_get_read, Slice.Eq.bytes_eq-Decides}
pub use Rattle.std.specs.{Cmp.Lexicographic.slice_cmp, List.Contains, List.flat_map, List.list_any, Ordering.is_lt}
pub use Rattle.std.specs.{Ordering.nat_cmp, Prelude.Result, Prelude.◌&&◌, Prelude.◌||◌, Prelude.◌↔◌, Str.bytes_eq}
pub use Rattle.std.specs.declared.cmp.Ordering.{Ordering, TheVariants.Equal, TheVariants.Less}
