-- What the proofs of this crate take from others.
pub use Rattle.lms_ots.specs.Checkpoints.{chain_checkpoints, stride}
pub use Rattle.lms_ots.specs.{Ots.d_pblc, Ots.element_in, Ots.randomizer_in, Ots.step, Parameters.parameters}
pub use Rattle.lms_ots.specs.{Parameters.signature_len, Width.IsWidth, declared.kind.OtsKind.OtsKind}
pub use Rattle.lms_ots.specs.declared.kind.OtsKind.TheVariants.{W1, W2, W4, W8}
pub use Rattle.lms_ots.specs.declared.kind.Parameters.{Parameters}
pub use Rattle.lms_ots.specs.inside.Elements.{AreKeptTo, signed_element}
pub use Rattle.sha2.proofs.Facts256.{length-sha256}
pub use Rattle.sha2.specs.{Hashers.Holds256, Sha256.sha256}
pub use Rattle.std.proofs.Common.{[], add-zero, ap, arith, bit_and, drop, get_or, inl, inr, length, length-append}
pub use Rattle.std.proofs.Common.{length-drop, List, refl, slice_index, subst, suc, sym, take, zero, ℕ, ◌%◌, ◌*◌, ◌++◌}
pub use Rattle.std.proofs.Common.{◌+◌, ◌-◌, ◌/◌, ◌<◌, ◌^◌, ◌∙◌, ◌∷◌, ◌≡◌, ◌≤◌}
pub use Rattle.std.proofs.{Math.Nat.mul-le-mul_right, lemmas.Bool.cases_lt, lemmas.List.append-nil}
pub use Rattle.std.proofs.lemmas.List.{append_assoc, drop-drop, drop_all, drop_at, get_or-set_other, get_or-set_same}
pub use Rattle.std.proofs.lemmas.List.{length-set, take_all, take_at, take_more_set, Concat.flat_map-append}
pub use Rattle.std.proofs.lemmas.{List.Sums.fold_push, List.Sums.sum_by_push, Nat.and_le_l, Slice.drop-put_mid}
pub use Rattle.std.specs.{List.flat_map, List.fold, List.range_with_len, List.sum_by, Prelude.slice_set}
pub use borrow.Rule.Slice.PartMut.{post_of, put_mid}
unfoldable pub use Rattle.lms_ots.specs.Checkpoints.{checkpoint}
unfoldable pub use Rattle.lms_ots.specs.Digits.{cksm, coef}
unfoldable pub use Rattle.lms_ots.specs.Ots.{candidate_of, chain, digit_of, key_from_elements, message_hash}
unfoldable pub use Rattle.lms_ots.specs.Ots.{public_key, randomizer, secret_element, signature_of, u16str, u32str}
