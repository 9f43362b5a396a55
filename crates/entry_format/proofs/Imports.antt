-- What the proofs of this crate take from others.
pub use Rattle.canonical_sexp.proofs.{Decimal.length-decimal-le_20, Rows.joined-none}
pub use Rattle.canonical_sexp.specs.Forest.{count_of, Forest, joined, no_trees}
pub use Rattle.canonical_sexp.specs.{Forms.list_of, Forms.number_atom, Sexp.forest_of, Sexp.in_front}
pub use Rattle.canonical_sexp.specs.Text.{Fits, max_members, text_of}
pub use Rattle.canonical_sexp.specs.declared.sexp.Sexp.{Sexp, TheVariants.Atom, TheVariants.List as Branch}
pub use Rattle.entry_format.specs.EntryText.{body_tree, deed_tree, how_word, IsDeed, IsDigest, IsEntry, IsSignedText}
pub use Rattle.entry_format.specs.{EntryText.signed_tree, Nodes.node_of, declared.deed.Deed.Deed}
pub use Rattle.entry_format.specs.declared.deed.Deed.TheVariants.{Cast, Challenge, Commit, Opened, Override}
pub use Rattle.entry_format.specs.declared.{deed.How.How, entry.Entry.Entry, plain.EntryFault.EntryFault}
pub use Rattle.entry_format.specs.{declared.plain.Plain.Plain, inside.Parts.signed_list}
pub use Rattle.entry_order.proofs.Lists.{Contains-none}
pub use Rattle.entry_order.specs.Ascending.{IsAscending}
pub use Rattle.roster.proofs.Forms.{one_text}
pub use Rattle.roster.specs.declared.post.Post.{Post}
pub use Rattle.std.proofs.Common.{[], All, ap, arith, Err, get_or, inl, inr, length, List, map, Ok, refl, Result, rules}
pub use Rattle.std.proofs.Common.{sym, take, ℕ, ◌++◌, ◌-◌, ◌<◌, ◌==◌, ◌^◌, ◌∙◌, ◌∷◌, ◌≡◌, ◌≢◌, ◌≤◌}
pub use Rattle.std.proofs.lemmas.List.Elements.{All-head, All-tail}
pub use Rattle.std.specs.{Fmt.decimal, Prelude.codes}
