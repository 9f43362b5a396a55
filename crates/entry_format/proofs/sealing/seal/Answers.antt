use Rattle.entry_format.proofs.Imports.{[], arith, length, List, refl, sym, text_of, ℕ, ◌∙◌, ◌≡◌}
use Rattle.lms_sign.specs.Secret.{public_of}
use Rattle.entry_format.proofs.{Keys.key_is, Keys.parts_together, Keys.signature_small, Keys.signature_some}
use Rattle.entry_format.proofs.{Keys.signature_there, Keys.signed_spelt, Limits.body_fits, Limits.signed_fits}
use Rattle.entry_format.proofs.sealing.seal.Goals as goal

-- the body is within the limits
pub body_signature-requires : goal.body_signature-requires
body_signature-requires c =
    let is = c.in_ok-body.ensures in
    rw is.tree (body_fits c.args.entry [] (signed_fits c.args.entry [] is.lawful c.requires.few (omega arith)))

-- the signed entry's tree is within the limits
pub signed_text-requires : goal.signed_text-requires
signed_text-requires c =
    let signature = c.in_ok-signature.signature.items in
    let small = signature_small (public_of c.args.secret.now) (text_of c.in_ok-body.body) signature
    c.in_ok-signature.ensures.signs in
    rw (c.in_ok-body.ensures.tree, c.deref.ensures.value)
    (signed_fits c.args.entry signature c.in_ok-body.ensures.lawful c.requires.few (omega (arith, small)))

-- the parts belong together
pub new-requires : goal.new-requires
new-requires c =
    let entry = c.args.entry in
    let body = c.in_ok-body.body in
    let signature = c.in_ok-signature.signature.items in
    let public : List ℕ = public_of c.args.secret.now in
    let signs = c.in_ok-signature.ensures.signs in
    let spelt = signed_spelt entry body public signature c.deref.result.now c.in_ok-text.text.items
    c.in_ok-body.ensures.lawful c.requires.few signs c.in_ok-body.ensures.tree c.deref.ensures.value
    c.in_ok-text.ensures in
    let key = key_is c.args.roster.now.machines entry.maker c.index-machines-entry.result c.requires.maker in
    parts_together c.in_ok-text.text.items entry signature _ c.len.result (omega arith) spelt c.requires.rising
    (signature_some public (text_of body) signature signs, c.in_ok-signature.ensures.index ∙ sym c.requires.number)
    (rw (c.as_slice-machines.ensures, key) (rw (c.requires.key, c.in_ok-body.ensures.tree) at signs))

-- the signature stands in the text
pub returns-in-Ok-clause-signature : goal.returns-in-Ok-clause-signature
returns-in-Ok-clause-signature c =
    let entry = c.args.entry in
    let signature = c.in_ok-signature.signature.items in
    let spelt = signed_spelt entry c.in_ok-body.body (public_of c.args.secret.now) signature c.deref.result.now
    c.in_ok-text.text.items c.in_ok-body.ensures.lawful c.requires.few c.in_ok-signature.ensures.signs
    c.in_ok-body.ensures.tree c.deref.ensures.value c.in_ok-text.ensures in
    let counted : c.len.result ≡ length signature = omega arith in
    rw (c.in-Ok.ensures.value, counted, signature_there c.in_ok-text.text.items entry signature spelt)
    (rw c.in_ok-body.ensures.tree at c.in_ok-signature.ensures.ok)

-- the entry is valid as its text's
pub returns-in-Ok-clause-valid : goal.returns-in-Ok-clause-valid
returns-in-Ok-clause-valid c =
    let key =
    key_is c.args.roster.now.machines c.args.entry.maker c.index-machines-entry.result c.requires.maker in
    rw c.in-Ok.ensures.value (record {
      kept = rw c.in-Ok.ensures.value at c.in-Ok.ensures.kept;
      of_text = refl;
      of_election = refl;
      maker = c.requires.maker;
      key = rw c.as_slice-machines.ensures key;
    })
