-- Words that stand for values.
use Rattle.std.specs.Prelude.{◌≡◌, ℕ, ◌+◌, ◌-◌, ◌*◌, ◌^◌, ◌&&◌, nat_lt, if◌then◌else◌, List, [], ◌∷◌, length}
use Rattle.std.specs.Prelude.{Option, Some, None, Result, Ok, Err}
use Rattle.std.specs.Fmt.{decimal}
use Rattle.std.specs.Str.{bytes_eq}
use Rattle.hex.specs.Hex.{encode_lower, decode_sized, IsBytes}
use Rattle.hex.specs.declared.error.FromHexError.{FromHexError}

-- the number that digits make when they follow those of `n`
abbrev pub value_from : ℕ → List ℕ → ℕ
value_from n [] = n
value_from n (byte ∷ bytes) = value_from (10 * n + (byte - 48)) bytes

-- the number that a word is: its decimal without a leading zero, below 2^32
abbrev pub number_in : List ℕ → Option ℕ
number_in word =
    if nat_lt (value_from 0 word) (2 ^ 32) && bytes_eq word (decimal (value_from 0 word)) then Some (value_from 0 word)
    else None

-- the bytes that hexadecimal digits give, if the word is these digits in lower case
abbrev pub in_lower_case : List ℕ → Result (List ℕ) FromHexError → Option (List ℕ)
in_lower_case word (Ok bytes) = if bytes_eq (encode_lower bytes) word then Some bytes else None
in_lower_case word (Err fault) = None

-- the digest of 32 bytes that a word is, in lower-case hexadecimal digits
abbrev pub digest_in : List ℕ → Option (List ℕ)
digest_in word = in_lower_case word (decode_sized word 32)

-- the word is a digest of 32 bytes, in lower-case hexadecimal digits
pub record IsDigestText (word digest : List ℕ) : Type 0 where
  pub size : length digest ≡ 32
  pub bytes : IsBytes digest
  pub digits : word ≡ encode_lower digest
