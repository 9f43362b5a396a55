-- What the proofs of this crate take from others.
pub use Rattle.canonical_sexp.specs.Causes.{AreOpenWithin, at_start, bytes_before, depth_of, in_lists, is_digit}
pub use Rattle.canonical_sexp.specs.Causes.{IsCause, IsTokenPlace, length_fault, members_at, open_text, token_fault}
pub use Rattle.canonical_sexp.specs.Causes.{TokenPlace}
pub use Rattle.canonical_sexp.specs.Forest.{atom_then, count_of, Forest, joined, list_then, no_trees, size_of}
pub use Rattle.canonical_sexp.specs.Reading.{Answers, IsCanonical, IsFirstBad, IsTextInFront, StopsAt}
pub use Rattle.canonical_sexp.specs.{Sexp.forest_of, Sexp.in_front, Sexp.members_of, Text.AreWithin, Text.atom_text}
pub use Rattle.canonical_sexp.specs.Text.{Fits, IsPrefixOfText, IsProperPrefixOfText, IsWithin, max_members, max_octets}
pub use Rattle.canonical_sexp.specs.{Text.text_of, Text.texts_of, declared.read.Read.Read, declared.read.Why.Why}
pub use Rattle.canonical_sexp.specs.declared.{scanning.Extent.Extent, sexp.Members.TheDeep.deep-Sexp, sexp.Sexp.Sexp}
pub use Rattle.canonical_sexp.specs.declared.sexp.Sexp.TheVariants.{Atom, List as Branch}
pub use Rattle.canonical_sexp.specs.inside.Scanning.{IsAtomInFront, IsAtomScan, IsProperPrefixOfAtom, Scans}
pub use Rattle.canonical_sexp.specs.inside.{Spelt.AreSpelt, Spelt.IsSpelt, Tokens.AreLengthDigits, Tokens.IsBadInLength}
pub use Rattle.canonical_sexp.specs.inside.{Tokens.IsLengthInFront, Writing.StartsWith}
pub use Rattle.std.proofs.Common.{[], ap, append-nil, append_assoc, arith, Bor, drop, get_or, inl, inr, IsTrue, length}
pub use Rattle.std.proofs.Common.{length-append, List, map, None, refl, replicate, set, slice_index, Some, subst, suc}
pub use Rattle.std.proofs.Common.{sym, take, zero, ℕ, ◌%◌, ◌*◌, ◌++◌, ◌+◌, ◌-◌, ◌/◌, ◌<◌, ◌^◌, ◌∙◌, ◌∷◌, ◌≡◌, ◌≢◌, ◌≤◌}
pub use Rattle.std.proofs.{Common.◌⊎◌, Math.Seq.take-add, Math.Seq.take-append_seam, lemmas.Bool.Decides.nat_tests}
pub use Rattle.std.proofs.lemmas.Fmt.{decimal_by_steps, decimal_digit, decimal_injective, decimal_nonempty}
pub use Rattle.std.proofs.lemmas.{Fmt.decimal_step, Fmt.first_decimal, Fmt.length-decimal-le, Grind.common_steps}
pub use Rattle.std.proofs.lemmas.List.{drop_more, get_or-drop, length-drop, length-replicate, length-set}
pub use Rattle.std.proofs.lemmas.List.{length-take-le, nil_from_length, take-append-drop, take-append-le, take-take}
pub use Rattle.std.proofs.lemmas.List.{take_all, take_at, take_more, take_more_set, take_rest}
pub use Rattle.std.proofs.lemmas.{Option.IfSome_then, Result.err_from_is_err_and}
pub use Rattle.std.specs.Fmt.{decimal}
