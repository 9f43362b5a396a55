-- What the proofs of this crate share: the words, and lemmas on lists, names and paths.
pub mod Words
pub use Words.*
use Rattle.entry_order.proofs
pub use proofs.Ascending.{Contains-ascending, Contains-ascending_cases, ascending_ascending, in_left, only_ascending}
pub use proofs.Histories.{IsLegal-none, IsLegal-push, greatest_push, last_or_earlier, nth_split, sent-append}
pub use proofs.Lists.{Contains-at, Contains-cons_cases, Contains-filter, Contains-filter_cases, Contains-flat_map}
pub use proofs.Lists.{Contains-flat_map_cases, Contains-head, Contains-later, Contains-map, Contains-map_cases}
pub use proofs.Lists.{Contains-middle, Contains-none, Contains-one, filter_all, in_numbers, list_any_of, list_any_some}
pub use proofs.Machines.{get_other, get_same, get_start, in_world, length_play, length_start, nth_of_sent}
pub use proofs.Naming.{has_digest_from, has_digest_of, is_among, names_digest_from, names_digest_of, new_is_free}
pub use proofs.Paths.{IsNoLater, is_there, last_arrow, no_later_on, path_over, precedes_on, precedes_over}
pub use proofs.{Comparisons.less, Comparisons.level, Comparisons.not_both, Frontiers.frontier_entry}
pub use proofs.{Frontiers.frontier_or_named, Lists.member_split, Lists.numbers, Places.member_at, Places.one_at}
pub use proofs.{Places.place_of, Rising.Rises, Rising.rises_filter, Rising.same_rising, Stamps.stamp_below}
pub use proofs.{Stamps.top_at_least, Strays.no_stray_from, Strays.stamp_rises, Strays.survivors_are_no_strays}
