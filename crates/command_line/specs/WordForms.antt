-- The forms of words that several commands share.
use Rattle.std.specs.Prelude.{ℕ, ◌<◌, ◌≤◌, ◌==◌, Bool, not, ◌&&◌, nat_le, List, length, slice_index}
use Rattle.std.specs.List.{list_all}

-- the form of a word: 1 to 1,024 bytes, each from `!` to `~`, of which the first isn't `-`
abbrev pub is_command_word : List ℕ → Bool
is_command_word word =
    not (length word == 0) && nat_le (length word) 1024 && not (slice_index word 0 == 45)
    && list_all (λ byte. nat_le 33 byte && nat_le byte 126) word

-- each word has this form
abbrev pub have_form : List (List ℕ) → Bool
have_form words = list_all is_command_word words

-- the most logs of a command
abbrev pub max_logs : ℕ
max_logs = 16

-- 1 to 16 logs
pub record AreLogs (logs : List (List ℕ)) : Type 0 where
  pub some : 0 < length logs
  pub at_most : length logs ≤ max_logs

-- 1 to 800 sessions
pub record AreSessions (sessions : ℕ) : Type 0 where
  pub some : 1 ≤ sessions
  pub at_most : sessions ≤ 800
