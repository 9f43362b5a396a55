-- What a sealed entry keeps: its parts belong together.
use Rattle.std.specs.Prelude.{◌≡◌, ℕ, ◌-◌, ◌≤◌, List, length, drop, take}
use Rattle.sha2.specs.Sha256.{sha256}
use Rattle.canonical_sexp.specs.Text.{text_of}
use Rattle.entry_order.specs.Ascending.{IsAscending}
use Rattle.lms_sign.specs.Signs.{Signs, index_in}
use Rattle.entry_format.specs.declared.entry.Entry.{Entry}
use Rattle.entry_format.specs.EntryText.{body_tree, IsSignedText}
use Rattle.entry_format.specs.SealedEntry.{SealedEntry}

-- the signature's first four bytes are the number (RFC 8554, 5.4)
abbrev pub HasIndex : List ℕ → ℕ → Type 0
HasIndex signature number = (4 ≤ length signature) × (index_in signature ≡ number)

-- the text is that of the entry and the signature, the names rise, the digest is the text's, the
-- signature's index is the entry's number, and the signature is one of the body's text under the
-- key (RFC 8554, 5.4.2) (FIPS 180-4)
pub record IsSealed (sealed : SealedEntry) : Type 0 where
  pub spelt : IsSignedText sealed.text sealed.entry sealed.signature
  pub rising : IsAscending sealed.entry.names
  pub hashed : sealed.digest ≡ sha256 sealed.text
  pub index : HasIndex sealed.signature sealed.entry.number
  pub signs : Signs sealed.key (text_of (body_tree sealed.entry)) sealed.signature

-- the value of these parts
abbrev pub sealed_from : Entry → List ℕ → List ℕ → List ℕ → SealedEntry
sealed_from entry signature text key =
    record { entry = entry; signature = signature; text = text; digest = sha256 text; key = key }

-- the signature of so many octets in a signed text, before the parenthesis at its end
abbrev pub signature_in : List ℕ → ℕ → List ℕ
signature_in text count = take count (drop (length text - 1 - count) text)

-- the value of these parts, the signature being so many octets of the text
abbrev pub sealed_of : Entry → List ℕ → ℕ → List ℕ → List ℕ → SealedEntry
sealed_of entry text count digest key = record {
  entry = entry;
  signature = signature_in text count;
  text = text;
  digest = digest;
  key = key;
}

-- the same, with the digest of the text
abbrev pub sealed_in : Entry → List ℕ → ℕ → List ℕ → SealedEntry
sealed_in entry text count key = sealed_of entry text count (sha256 text) key
