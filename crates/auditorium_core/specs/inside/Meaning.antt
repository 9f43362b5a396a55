-- What a request of the source says of the words.
use Rattle.std.specs.Prelude.{◌≡◌, ℕ, List, ◌∷◌, Option, Some, None, map, string_bytes}
use Rattle.auditorium_core.specs.declared.words.Request.{Request}
use Rattle.auditorium_core.specs.declared.words.Request.TheVariants as request
use Rattle.auditorium_core.specs.Words.{Command, audit, check, demonstrate, endorse, endorsed, gaps, generate, office}
use Rattle.auditorium_core.specs.Words.{order, play, prove, repair, run, watch, command_parts}

-- the command that a request is for
abbrev pub asked : Request → Command
asked (request.Audit roster rules logs) = audit roster.now rules.now (map string_bytes logs.now)
asked (request.Check roster rules proof logs) = check roster.now rules.now proof.now (map string_bytes logs.now)
asked (request.Demonstrate sessions) = demonstrate sessions
asked (request.Endorse name file) = endorse name.now file.now
asked (request.Endorsed key file signature) = endorsed key.now file.now signature.now
asked (request.Gaps log) = gaps log.now
asked (request.Make sessions) = generate sessions
asked (request.Office name seed) = office name.now seed
asked (request.Order roster x y logs) = order roster.now x.now y.now (map string_bytes logs.now)
asked (request.Play script prefix) = play script.now prefix.now
asked (request.Prove roster proof logs) = prove roster.now proof.now (map string_bytes logs.now)
asked (request.Repair script prefix) = repair script.now prefix.now
asked (request.Run script prefix) = run script.now prefix.now
asked (request.Watch roster rules logs) = watch roster.now rules.now (map string_bytes logs.now)

-- the words are the command's, whether or not each has the form of a word
pub record Spells (words : List (List ℕ)) (command : Command) : Type 0 where
  pub spelt : words ≡ (command_parts command).words
  pub allowed : (command_parts command).IsAllowed

-- what is read of the words after a name: the request that they make, or that they make none
abbrev pub IsReadAs : List ℕ → List (List ℕ) → Option Request → Type 0
IsReadAs name rest (Some found) = Spells (name ∷ rest) (asked found)
IsReadAs name rest None = (command : Command) → ¬ Spells (name ∷ rest) command
