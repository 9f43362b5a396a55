-- A digest's text is read as that digest.
use Rattle.hall_text.specs.Words.{IsDigestText}
use Rattle.hex.proofs.HexLemmas.{decode_of-encode_lower, decode_sized-twice, length-encode_with}
use Rattle.hex.specs.Hex.{decode_of, decode_sized, encode_lower, lower_digits}
use Rattle.std.proofs.Common.{ap, arith, length, List, ◌*◌, ◌∙◌, ◌≡◌}
use Rattle.std.proofs.lemmas.Slice.Eq.{bytes_eq-Decides}
use Rattle.std.specs.Prelude.{Err, Ok, OnOk, Result, Some, true, ℕ}
use Rattle.std.specs.{Result.result_ok, Str.bytes_eq}

-- the text of a digest is 64 digits that are decoded as its 32 bytes
pub digest_decodes : (word digest : List ℕ) → IsDigestText word digest → decode_sized word 32 ≡ Ok digest
digest_decodes word digest is =
    let size : length (encode_lower digest) ≡ 2 * length digest = length-encode_with lower_digits digest in
    let twice : length word ≡ 2 * 32 = ap length is.digits ∙ size ∙ ap (λ n. 2 * n) is.size in
    decode_sized-twice word 32 twice ∙ ap decode_of is.digits ∙ decode_of-encode_lower digest is.bytes

-- what is said of a success holds of one
pub ok_holds : {A E : Type 0} (r : Result A E) (P : Type 0) (value : A) → result_ok r ≡ Some value → OnOk r P → P
ok_holds (Ok a) P value is holds = holds
ok_holds (Err e) P value is holds = cc

-- equal bytes are found equal
pub equal_bytes : (xs ys : List ℕ) → xs ≡ ys → bytes_eq xs ys ≡ true
equal_bytes xs ys same = grind (arith, bytes_eq-Decides)
