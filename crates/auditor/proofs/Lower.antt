-- Entries that go by stamp and then digest: what they say is at one place each.
use Rattle.auditor.proofs.Imports.{AllPairs, ap, arith, at_image, bytes_eq-Decides, get_or_from_slice_get, HasNoDouble}
use Rattle.auditor.proofs.Imports.{inl, inr, is_eq-slice_cmp, IsLower, List, Node, node_of, node_of_sealed, Plain}
use Rattle.auditor.proofs.Imports.{plain_of, plains, SealedEntry, slice_get, slice_get_within, Some, sym, ℕ, ◌<◌, ◌∙◌}
use Rattle.auditor.proofs.Imports.{◌≡◌}

-- nothing is lower than itself
not_lower : (x z : SealedEntry) → node_of_sealed x ≡ node_of_sealed z → IsLower node_of_sealed x z → ⊥
not_lower x z same (inl less) = let stamps = ap (λ (n : Node). n.stamp) same in omega (arith, less, stamps)
not_lower x z same (inr (_, less)) =
    let digests : x.digest ≡ z.digest = ap (λ (n : Node). n.digest) same in
    cc (is_eq-slice_cmp x.digest z.digest, (bytes_eq-Decides x.digest z.digest).1 digests)

-- two places in that order have different ones
apart : (S : List SealedEntry) → AllPairs (IsLower node_of_sealed) S → (i j : ℕ) (e : Plain)
    → slice_get (plains S) i ≡ Some e → slice_get (plains S) j ≡ Some e → i < j → ⊥
apart S lower i j e at_i at_j less =
    let (x, is_x, to_e) = at_image plain_of S i e at_i in
    let (z, is_z, also) = at_image plain_of S j e at_j in
    not_lower x z (ap node_of (to_e ∙ sym also))
    (rw (get_or_from_slice_get S i x x is_x, get_or_from_slice_get S j z x is_z) at
    (lower i j x less (slice_get_within S j z is_z)))

pub no_double : (S : List SealedEntry) → AllPairs (IsLower node_of_sealed) S → HasNoDouble (plains S)
no_double S lower i j e at_i at_j =
    let this = apart S lower i j e at_i at_j in
    let that = apart S lower j i e at_j at_i in
    omega (arith, this, that)
