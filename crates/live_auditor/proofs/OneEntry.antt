-- Under one roster entries with one text are one.
use Rattle.live_auditor.proofs.Imports.{ap, Entry, IsOfMachine, IsSealed, IsSignedText, key_at, List, one_entry, Post}
use Rattle.live_auditor.proofs.Imports.{SealedEntry, sha256, sym, ◌∙◌, ◌≡◌}

-- entries of machines with one text are equal
pub same_text : (machines : List Post) (e f : SealedEntry) → IsSealed e → IsSealed f → IsOfMachine machines e →
    IsOfMachine machines f → e.text ≡ f.text → e ≡ f
same_text machines e f is also of_e of_f same =
    let moved : IsSignedText e.text f.entry f.signature =
    record { lawful = also.spelt.lawful; within = also.spelt.within; spelt = same ∙ also.spelt.spelt } in
    let (entry, signature) = one_entry e.text e.entry f.entry e.signature f.signature is.spelt moved in
    let digest : e.digest ≡ f.digest = is.hashed ∙ ap sha256 same ∙ sym also.hashed in
    let key : e.key ≡ f.key =
    of_e.key ∙ ap (λ (entry : Entry). key_at machines entry.maker) entry ∙ sym of_f.key in
    λ i. record { entry = entry i; signature = signature i; text = same i; digest = digest i; key = key i }
