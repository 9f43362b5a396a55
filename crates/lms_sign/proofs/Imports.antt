-- What the proofs of this crate take from others.
pub use Rattle.lms_ots.proofs.Candidates.{candidate-signed, length-signature_of, length-u32str}
pub use Rattle.lms_ots.proofs.Elements.{element_written}
pub use Rattle.lms_ots.proofs.Pieces.{filled_from, length-pieces, piece_at, range_with_len_next, same_pieces}
pub use Rattle.lms_ots.specs.Checkpoints.{AreCheckpoints, checkpoint_count}
pub use Rattle.lms_ots.specs.Ots.{candidate_of, public_key}
pub use Rattle.lms_ots.specs.{Parameters.parameters, Parameters.signature_len, declared.kind.OtsKind.OtsKind}
pub use Rattle.lms_ots.specs.declared.kind.OtsKind.TheVariants.{W1, W2, W4, W8}
pub use Rattle.lms_sign.specs.Calls.{accepted, AnswersEach, IsSignAnswer, used}
pub use Rattle.lms_sign.specs.{Height.IsHeight, Height.lms_typecode, Secret.Secret, Signs.HasTypes}
pub use Rattle.lms_sign.specs.Signs.{index_in, lms_signature_len, one_time_in, parent, path_in, Signs, SignsBy}
pub use Rattle.lms_sign.specs.{Tree.sibling, declared.leaves.Leaf.Leaf, declared.secret.SignFault.SignFault}
pub use Rattle.lms_sign.specs.{declared.secret.SignFault.TheVariants.Memory, inside.Leaves.AreBlank}
pub use Rattle.lms_sign.specs.inside.Nodes.{HoldsFrom, HoldsTree}
pub use Rattle.sha2.proofs.Facts256.{length-sha256}
pub use Rattle.std.proofs.Common.{[], add-one, ap, arith, bit_xor, Bool, Bor, drop, Err, get_or, inl, inr, IsTrue}
pub use Rattle.std.proofs.Common.{length, length-append, List, map, Ok, refl, Result, rules, subst, suc, sym, take}
pub use Rattle.std.proofs.Common.{vec_capacity, vec_len, zero, ℕ, ◌%◌, ◌*◌, ◌++◌, ◌+◌, ◌-◌, ◌/◌, ◌<◌, ◌^◌, ◌↔◌, ◌∙◌}
pub use Rattle.std.proofs.{Common.◌∷◌, Common.◌≡◌, Common.◌≤◌, Math.Nat.pow-suc, Math.Pow.pow_mono}
pub use Rattle.std.proofs.{Math.Seq.get_or-append_right, Math.Seq.take-append_seam, lemmas.Bool.cases_lt}
pub use Rattle.std.proofs.lemmas.List.{append-nil, append_assoc, drop-drop, drop_at, get_or-map, get_or-set_other}
pub use Rattle.std.proofs.lemmas.List.{get_or-set_same, get_or_append_left, get_or_read, length_push, map_push}
pub use Rattle.std.proofs.lemmas.List.{take-append-le, take_at, take_rest, Elements.All-push}
pub use Rattle.std.proofs.lemmas.Nat.{div_below, from_be_bytes-to_be_bytes_4, le-div, pow-add, pow_pos, shr-shr}
pub use Rattle.std.proofs.lemmas.{Nat.xor_block, Nat.xor_comm, Slice.take-put_mid}
pub use Rattle.std.specs.{Global.Vec, Int.from_be_bytes, Int.w32, List.flat_map, List.range_with_len}
pub use Rattle.std.specs.Prelude.{IfOk, OnErr, OnOk, slice_set}
pub use borrow.Rule.Slice.PartMut.{put_mid}
unfoldable pub use Rattle.lms_ots.specs.Ots.{signature_of, u32str}
unfoldable pub use Rattle.lms_sign.specs.Signs.{ascent, root_from}
unfoldable pub use Rattle.lms_sign.specs.Tree.{interior, leaf, lms_public, lms_signed, node}
