use Rattle.hall_text.proofs.words.digest_hex.Goals as goal
use Rattle.hall_text.proofs.DigestText.{digest_decodes, equal_bytes, ok_holds}
use Rattle.hex.specs.Hex.{encode_lower}
use Rattle.std.proofs.Common.{ap, sym, true, true≢false, ◌∙◌, ◌≡◌}
use Rattle.std.specs.{Prelude.None, Prelude.Ok, Prelude.Some, Str.bytes_eq}

-- what doesn't decode is no digest
pub returns-in_err-digest-clause-exact : goal.returns-in_err-digest-clause-exact
returns-in_err-digest-clause-exact c =
    rw c.from_residual.ensures (λ value text.
    let decodes : c.from_hex.result ≡ Ok value = c.from_hex.ensures ∙ digest_decodes c.args.word.now value text in
    let found : c.ok.result ≡ Some value = rw decodes at c.ok.ensures.value in
    let none : c.ok.result ≡ None = c.in_err-digest.was in
    cc)

-- what isn't written back as it was read is no digest
pub returns-else-eq-clause-exact : goal.returns-else-eq-clause-exact
returns-else-eq-clause-exact c = λ value text.
    let decodes : c.from_hex.result ≡ Ok value = c.from_hex.ensures ∙ digest_decodes c.args.word.now value text in
    let found : c.ok.result ≡ Some value = rw decodes at c.ok.ensures.value in
    let digest : c.ok.result ≡ Some c.in_ok-digest.digest = c.in_ok-digest.was in
    let same : c.in_ok-digest.digest ≡ value = cc in
    let text_is : c.encode_to_slice.new.output ≡ encode_lower c.as_slice.result.now = ok_holds c.encode_to_slice.result
    _ _ (sym c.ok-2.ensures.value ∙ c.in_ok-ok.was) c.encode_to_slice.ensures.written in
    let word_is : c.as_slice-2.result.now ≡ c.args.word.now =
    c.as_slice-2.ensures ∙ text_is ∙ ap encode_lower (c.as_slice.ensures ∙ same) ∙ sym text.digits in
    let equal : bytes_eq c.as_slice-2.result.now c.args.word.now ≡ true = equal_bytes _ _ word_is in
    true≢false (sym equal ∙ sym c.eq.ensures ∙ c.if-eq.false)
