-- An office's signatures are signatures under its public key.
use Rattle.hss_sign.proofs.Signed.{signed_verifies}
use Rattle.hss_sign.specs.{Signs.HssSigns, TwoLevels.hss_public}
use Rattle.lms_ots.proofs.Candidates.{length-u32str}
use Rattle.lms_ots.specs.{Ots.u32str, declared.kind.OtsKind.OtsKind}
use Rattle.lms_ots.specs.declared.kind.OtsKind.TheVariants.{W1, W2, W4, W8}
use Rattle.lms_sign.specs.{Height.IsHeight, Signs.lms_signature_len}
use Rattle.office_key.specs.Endorsements.{endorsement, office_public, office_secret, top_id}
use Rattle.office_key.specs.{Offices.max_signatures, declared.office.Office.Office}
use Rattle.sha2.proofs.Facts256.{length-sha256}
use Rattle.sha2.specs.Sha256.{sha256}
use Rattle.std.proofs.Common.{ap, arith, codes, inl, inr, length, List, refl, subst, take, ℕ, ◌++◌, ◌<◌, ◌≡◌, ◌≤◌}
use Rattle.std.proofs.lemmas.List.{length-append, length-take-le}

-- an identifier has 16 bytes
length-top_id : (seed name : List ℕ) → length (top_id seed name) ≡ 16
unfolding top_id
length-top_id seed name =
    let text : List ℕ = codes "auditorium office id" ++ seed ++ name in
    length-take-le 16 (sha256 text) (omega (arith, length-sha256 text))

-- the public key doesn't depend on the number
pub same_public : (name : List ℕ) (office : Office) → hss_public (office_secret name office) ≡ office_public name office.seed
unfolding hss_public
same_public name office = refl

-- each endorsement is a signature under the office's public key
pub endorsed : (name message : List ℕ) (office : Office) → office.next < max_signatures →
    HssSigns (office_public name office.seed) message (endorsement name office message)
endorsed name message office left =
    subst (λ (key : List ℕ). HssSigns key message (endorsement name office message)) (same_public name office)
    (signed_verifies (office_secret name office) message (inl refl) (inr refl) (length-top_id office.seed name)
    (omega (arith, left)))

-- how long the parts of a signature are at most
short_part : (kind : OtsKind) (h : ℕ) → IsHeight h → lms_signature_len kind h ≤ 8844
short_part W1 h (inl e) = omega (arith, e)
short_part W1 h (inr e) = omega (arith, e)
short_part W2 h (inl e) = omega (arith, e)
short_part W2 h (inr e) = omega (arith, e)
short_part W4 h (inl e) = omega (arith, e)
short_part W4 h (inr e) = omega (arith, e)
short_part W8 h (inl e) = omega (arith, e)
short_part W8 h (inr e) = omega (arith, e)

-- where something is a signature, its key has 60 bytes, and it isn't long
pub short_signature : (key message signature : List ℕ) → HssSigns key message signature →
    (length key ≡ 60) × (length signature ≤ 17748)
short_signature key message signature is =
    let top = is.top_signs in
    let low = is.low_signs in
    let a : List ℕ = is.top_signature in
    let b : List ℕ = is.low_key in
    let d : List ℕ = is.low_signature in (
      omega (
        arith,
        ap length is.key_is,
        length-append (u32str 2) is.top_key,
        length-u32str 2,
        top.key_size,
      ),
      omega (
        arith,
        ap length is.signature_is,
        length-append (u32str 1 ++ a ++ b) d,
        length-append (u32str 1 ++ a) b,
        length-append (u32str 1) a,
        length-u32str 1,
        top.signs.size,
        low.signs.size,
        low.key_size,
        short_part top.kind top.height top.types.height,
        short_part low.kind low.height low.types.height,
      ),
    )
