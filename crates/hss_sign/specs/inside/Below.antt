-- The part of a signature that comes after the number of signed keys.
use Rattle.std.specs.Prelude.{◌≡◌, ℕ, List, ◌++◌}
use Rattle.lms_sign.specs.Signs.{Signs}

-- the parts are the top key's signature of a low key, this low key, and its signature of the
-- message
pub record SignsBelow (top message parts : List ℕ) : Type 0 where
  pub top_signature : List ℕ
  pub low_key : List ℕ
  pub low_signature : List ℕ
  pub parts_are : parts ≡ top_signature ++ low_key ++ low_signature
  pub top_signs : Signs top low_key top_signature
  pub low_signs : Signs low_key message low_signature
