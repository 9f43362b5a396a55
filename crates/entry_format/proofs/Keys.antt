-- Signatures under keys, where they stand in texts, and the keys of machines.
use Rattle.entry_format.proofs.Imports.{[], ap, arith, body_tree, codes, decimal, Entry, Err, get_or, IsAscending}
use Rattle.entry_format.proofs.Imports.{IsEntry, IsSignedText, length, List, max_members, Post, refl, Result, Sexp}
use Rattle.entry_format.proofs.Imports.{signed_list, sym, text_of, ℕ, ◌++◌, ◌-◌, ◌<◌, ◌∙◌, ◌∷◌, ◌≡◌, ◌≢◌, ◌≤◌}
use Rattle.canonical_sexp.specs.Text.{atom_text, texts_of}
use Rattle.entry_format.specs.Sealing.{HasIndex, IsSealed, sealed_in, signature_in}
use Rattle.entry_format.specs.Unsealing.{key_at}
use Rattle.lms_ots.specs.{declared.kind.OtsKind.OtsKind, declared.kind.OtsKind.TheVariants.W1, Parameters.signature_len}
use Rattle.lms_sign.specs.{declared.public.KeyFault.KeyFault, declared.public.KeyFault.TheVariants.Length}
use Rattle.lms_sign.specs.{declared.public.KeyFault.TheVariants.UnknownType, Signs.HasTypes, Signs.Signs}
use Rattle.std.proofs.Common.{append-nil, append_assoc, length-append, ◌↔◌}
use Rattle.std.proofs.{lemmas.List.get_or-map, Math.Seq.drop-append_seam, Math.Seq.take-append_seam}
use Rattle.std.specs.Prelude.{IsErrOf}
use Rattle.entry_format.proofs.Limits.{members_in, signed_fits}

-- the answer for what is no key
abbrev refused : KeyFault → Result (List ℕ) KeyFault
refused fault = Err fault

-- under what is no key there is no signature
pub no_key : (key message signature : List ℕ) (fault : KeyFault) →
    (IsErrOf (refused fault) Length ↔ (length key ≢ 56)) →
    (IsErrOf (refused fault) UnknownType
    ↔ ((length key ≡ 56) × ((kind : OtsKind) (h : ℕ) → HasTypes key kind h → ⊥))) →
    Signs key message signature → ⊥
no_key key message signature Length length_is unknown_is signs = length_is.0 refl signs.key_size
no_key key message signature UnknownType length_is unknown_is signs =
    (unknown_is.0 refl).1 signs.kind signs.height signs.types

-- the key of a machine that is there
pub key_is : (machines : List Post) (i : ℕ) (d : Post) → i < length machines →
    (get_or machines i d).key ≡ key_at machines i
key_is machines i d within = sym (get_or-map (λ (post : Post). post.key) machines i d [] within)

-- the longest one-time signature
one_time_short : (kind : OtsKind) → signature_len kind ≤ 8516
one_time_short W1 = omega arith
one_time_short kind = omega arith

-- a signature under a tree of 5 or 10 levels has at most 8,844 octets
pub signature_small : (key message signature : List ℕ) → Signs key message signature → length signature ≤ 8844
signature_small key message signature signs = omega (arith, one_time_short signs.kind)

-- a signature has at least the four octets of its index
pub signature_some : (key message signature : List ℕ) → Signs key message signature → 4 ≤ length signature
signature_some key message signature signs = omega arith

-- where a text ends in a signature and a parenthesis, so many octets before the last are the signature
signature_at_end : (text front signature : List ℕ) → text ≡ front ++ (signature ++ 41 ∷ []) →
    signature_in text (length signature) ≡ signature
signature_at_end text front signature ends =
    let count : length text - 1 - length signature ≡ length front =
    omega (arith, ap length ends, length-append front (signature ++ 41 ∷ []), length-append signature (41 ∷ [])) in
    rw (count, ends, drop-append_seam, take-append_seam)

-- the text of a signed list ends in its signature and a parenthesis
ends_signed : (word body signature : List ℕ) →
    40 ∷ ((word ++ 40 ∷ (body ++ 41 ∷ (atom_text signature ++ []))) ++ 41 ∷ [])
    ≡ (40 ∷ (word ++ 40 ∷ (body ++ 41 ∷ (decimal (length signature) ++ 58 ∷ [])))) ++ (signature ++ 41 ∷ [])
ends_signed word body signature = simp (append_assoc, append-nil)

-- the signature of a signed text stands in it
pub signature_there : (text : List ℕ) (entry : Entry) (signature : List ℕ) → IsSignedText text entry signature →
    signature_in text (length signature) ≡ signature
signature_there text entry signature is =
    let word : List ℕ = atom_text (codes "sealed") in
    let body : List ℕ = texts_of (members_in (body_tree entry)) in
    let front : List ℕ = 40 ∷ (word ++ 40 ∷ (body ++ 41 ∷ (decimal (length signature) ++ 58 ∷ []))) in
    signature_at_end text front signature (is.spelt ∙ ends_signed word body signature)

-- the parts of a signed text belong together
pub parts_together : (text : List ℕ) (entry : Entry) (signature key : List ℕ) (count : ℕ) → count ≡ length signature →
    IsSignedText text entry signature → IsAscending entry.names → HasIndex signature entry.number →
    Signs key (text_of (body_tree entry)) signature → IsSealed (sealed_in entry text count key)
parts_together text entry signature key count counted spelt rising index signs =
    let same : signature_in text count ≡ signature = rw counted (signature_there text entry signature spelt) in
    record { spelt = rw same spelt; rising = rising; hashed = refl; index = rw same index; signs = rw same signs }

-- the text that is made of a lawful entry's body and a signature
pub signed_spelt : (entry : Entry) (body : Sexp) (key signature given text : List ℕ) → IsEntry entry →
    length entry.names ≤ max_members → Signs key (text_of body) signature → body ≡ body_tree entry →
    given ≡ signature → text ≡ text_of (signed_list body given) → IsSignedText text entry signature
signed_spelt entry body key signature given text lawful few signs is same spelt =
    let small = signature_small key (text_of body) signature signs in
    record {
      lawful = lawful;
      within = signed_fits entry signature lawful few (omega (arith, small));
      spelt = rw (is, same) at spelt;
    }
