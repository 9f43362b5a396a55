-- What the proofs of this crate take from others.
pub use Rattle.canonical_sexp.proofs.{Canonical.one_stop, Canonical.stops_nowhere, InPlace.same_text}
pub use Rattle.canonical_sexp.proofs.Rows.{count_of-forest_of, forest_of-members_of, members_of-forest_of}
pub use Rattle.canonical_sexp.specs.{Forest.count_of, Forest.Forest, Reading.IsCanonical, Reading.StopsAt}
pub use Rattle.canonical_sexp.specs.Sexp.{forest_of, in_front, members_of}
pub use Rattle.canonical_sexp.specs.Text.{AreWithin, Fits, max_octets, text_of}
pub use Rattle.canonical_sexp.specs.declared.sexp.Sexp.{Sexp, TheVariants.Atom}
pub use Rattle.roster.specs.Machines.{AreDistinct, AreNamed, AreRoster, HaveText, is_supervisor, IsName, IsNameByte}
pub use Rattle.roster.specs.Machines.{max_machines, max_name}
pub use Rattle.roster.specs.Reading.{HasForm, IsFault, IsMachinesFault, Reads}
pub use Rattle.roster.specs.RosterText.{HasKey, headed, IsRosterText, post_tree, role_word, roster_tree}
pub use Rattle.roster.specs.declared.faults.RosterFault.{RosterFault}
pub use Rattle.roster.specs.declared.faults.RosterFault.TheVariants.{BadName, Memory, NotCanonical, NotOneSupervisor}
pub use Rattle.roster.specs.declared.faults.RosterFault.TheVariants.{SameName, TooManyMachines, WrongShape}
pub use Rattle.roster.specs.declared.post.{Post.Post, Role.Role, Role.TheVariants.Booth, Role.TheVariants.Supervisor}
pub use Rattle.roster.specs.declared.{reading.Raw.Raw, rosters.Roster.Roster}
pub use Rattle.roster.specs.inside.Raw.{IsRosterTree, post_of}
pub use Rattle.std.proofs.Common.{[], All, ap, append-nil, append_assoc, arith, Err, get_or, if◌then◌else◌, length}
pub use Rattle.std.proofs.Common.{List, map, None, Ok, Option, refl, Result, slice_index_or, Some, subst, suc, sym}
pub use Rattle.std.proofs.Common.{take, true≢false, zero, ℕ, ⊎_elim, ◌++◌, ◌+◌, ◌<◌, ◌∙◌, ◌∷◌, ◌≡◌, ◌≢◌, ◌≤◌, ◌⊎◌}
pub use Rattle.std.proofs.lemmas.List.{get_or-map, get_or-take, get_or_default, length-map, length-take, map-append}
pub use Rattle.std.proofs.lemmas.List.{take_all, Elements.All-head, Elements.All-map, Elements.All-push}
pub use Rattle.std.proofs.lemmas.{List.Elements.All-tail, Str.IsUtf8-from_ascii}
pub use Rattle.std.specs.Prelude.{AllPairs, Any, codes, count_by, fold, IfNone, IsAscii, IsSome, IsUtf8}
