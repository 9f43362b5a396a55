-- An office's key and its signatures: HSS of RFC 8554 with a top tree of height 5 and low trees of
-- height 10, W4.
use Rattle.std.specs.Prelude.{ℕ, List, ◌++◌, take, codes}
use Rattle.sha2.specs.Sha256.{sha256}
use Rattle.lms_ots.specs.declared.kind.OtsKind.TheVariants.{W4}
use Rattle.hss_sign.specs.TwoLevels.{TwoLevelSecret, hss_public, hss_signed}
use Rattle.office_key.specs.declared.office.Office.{Office}
use Rattle.office_key.specs.Offices.{office_of}

-- the seed of the top tree, made of the office's seed and its name: this project's choice
unfoldable pub top_seed : List ℕ → List ℕ → List ℕ
top_seed seed name = sha256 (codes "auditorium office seed" ++ seed ++ name)

-- the identifier of the top tree, made of the office's seed and its name: this project's choice
unfoldable pub top_id : List ℕ → List ℕ → List ℕ
top_id seed name = take 16 (sha256 (codes "auditorium office id" ++ seed ++ name))

-- the key of the office of this name (RFC 8554, 6)
abbrev pub office_secret : List ℕ → Office → TwoLevelSecret
office_secret name office = record {
  kind = W4;
  top = 5;
  low = 10;
  id = top_id office.seed name;
  seed = top_seed office.seed name;
  next = office.next;
}

-- its public key
abbrev pub office_public : List ℕ → List ℕ → List ℕ
office_public name seed = hss_public (office_secret name (office_of seed 0))

-- its signature of the bytes, under the number of its next one
abbrev pub endorsement : List ℕ → Office → List ℕ → List ℕ
endorsement name office bytes = hss_signed (office_secret name office) office.next bytes
